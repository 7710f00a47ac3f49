-- What is left of a float where another is taken off as often as it goes, counted in steps of binary64: the remainder
-- of the steps, which is a value again. Assumes nothing.
use mathlib.Core.Path.{◌≡◌, refl, sym, ap, ◌∙◌, subst}
use mathlib.Core.Bool.{Bool, true, false, cond, true≢false}
use mathlib.Core.Logic.{◌⊎◌, inl, inr}
use Prim.Native.Nat.{ℕ, ◌+◌, ◌-◌, ◌*◌, ◌/◌, ◌%◌, ◌^◌, ◌<◌, ◌≤◌}
use native.Mathlib.Nat.{mul_assoc, mul_comm, mul_right_comm, mul-pos, zero-mul, mod-lt, mod-le, mod-eq_of_lt}
use native.Mathlib.Nat.{div-add-mod}
use native.Mathlib.Nat.{le_trans, lt_of_le_of_lt, mul-le-mul_right, lt_of_mul-lt-mul_right, mul-sub}
use native.Mathlib.Omega.{arith}
use lib.Dec.{T, eqb, eqb→eq, ltb, ltb→lt, nltb→le}
use lib.Pow.{pow-add, pow_pos}
use lib.Ieee.{Float, nan, inf, fin, Format, low, up, down, round, add, sub, neg, sum, rem, fits}
use lib.Ieee.Fits.{down_pos, round-fits}
use lib.Ieee.Exact.{HasValue, round_exact}
use lib.Ieee.Positive.{first_pos}
use lib.Ieee.Scale.{round_same, finite, overflow}
use Rattle.std.proofs.lemmas.Float.{T_from_true, T_from_false}
use Rattle.root.specs.Steps.{steps_in, sign_of}
use Rattle.root.proofs.StepLaws.{Held, steps_of_lem, steps-held, steps_unique}
use Rattle.root.proofs.RootLaws.{value_finite, value_sign}

either : (a b : ℕ) → (a ≤ b) ⊎ (b < a)
either a b = go (ltb b a) refl
  where
    go : (t : Bool) → ltb b a ≡ t → (a ≤ b) ⊎ (b < a)
    go true e = inr (ltb→lt b a (T_from_true (ltb b a) e))
    go false e = inl (nltb→le b a (T_from_false (ltb b a) e))

-- ---- remainders of whole numbers

-- both times k, the remainder is k times as large
mod_times : (a b k : ℕ) → 0 < b → 0 < k → (a * k) % (b * k) ≡ a % b * k
mod_times a b k h g =
    let q = a / b in
    let r = a % b in
    let under : r * k < b * k = native.Mathlib.Nat.mul-lt-mul_of_pos_right (mod-lt a h) g in
    let whole : a * k ≡ b * k * q + r * k =
    ap (λ (z : ℕ). z * k) (sym (div-add-mod a b)) ∙ omega arith in
    ap (λ (z : ℕ). z % (b * k)) whole
    ∙ native.Mathlib.Nat.mul-add-mod_self_left (b * k) q (r * k)
    ∙ mod-eq_of_lt under

-- by twice as much, and less once more where that goes
pub mod_twice_below : (a b : ℕ) → 0 < b → a % (b + b) < b → a % b ≡ a % (b + b)
mod_twice_below a b h g =
    let c = b + b in
    let whole : a ≡ a % c + a / c * 2 * b =
    sym (div-add-mod a c) ∙ omega arith in
    ap (λ (z : ℕ). z % b) whole
    ∙ native.Mathlib.Nat.add-mul-mod_self_right (a % c) (a / c * 2) b
    ∙ mod-eq_of_lt g

pub mod_twice_above : (a b : ℕ) → 0 < b → b ≤ a % (b + b) → a % b ≡ a % (b + b) - b
mod_twice_above a b h g =
    let c = b + b in
    let room : a % c < c = mod-lt a (omega arith) in
    let rest : a % c - b < b = omega arith in
    let whole : a ≡ (a % c - b) + (a / c * 2 + 1) * b =
    sym (div-add-mod a c) ∙ omega arith in
    ap (λ (z : ℕ). z % b) whole
    ∙ native.Mathlib.Nat.add-mul-mod_self_right (a % c - b) (a / c * 2 + 1) b
    ∙ mod-eq_of_lt rest

-- ---- which of them are values

-- j times a power of two, by a lower one
lowered : (j a b : ℕ) → a ≤ b → j * 2 ^ b ≡ j * 2 ^ (b - a) * 2 ^ a
lowered j a b h =
    let whole : b ≡ b - a + a = omega (arith, h) in
    ap (λ (z : ℕ). j * 2 ^ z) whole ∙ ap (λ (z : ℕ). j * z) (pow-add 2 (b - a) a)
    ∙ sym (mul_assoc j (2 ^ (b - a)) (2 ^ a))

-- the remainder of two numbers of steps that are values is one
pub held_rest : (f : Format) (X Y : ℕ) → Held f X → Held f Y → 0 < Y → Held f (X % Y)
held_rest f X Y x y h = go (either x.i y.i)
  where
    under : X % Y < overflow f
    under = lt_of_le_of_lt (mod-le X Y) x.under

    go : (x.i ≤ y.i) ⊎ (y.i < x.i) → Held f (X % Y)
    go (inl g) =
        let k = y.i - x.i in
        let u = 2 ^ x.i in
        let n = y.j * 2 ^ k in
        let is : Y ≡ n * u = y.is ∙ lowered y.j x.i y.i g in
        let some : 0 < n = first_pos n u (subst (λ (z : ℕ). 0 < z) is h) in
        record {
          j = x.j % n;
          i = x.i;
          small = lt_of_le_of_lt (mod-le x.j n) x.small;
          is = ap (λ (z : ℕ). z % Y) x.is ∙ ap (λ (z : ℕ). (x.j * u) % z) is ∙ mod_times x.j n u some (pow_pos x.i);
          under = under;
        }
    go (inr g) =
        let k = x.i - y.i in
        let u = 2 ^ y.i in
        let m = x.j * 2 ^ k in
        let is : X ≡ m * u = x.is ∙ lowered x.j y.i x.i (omega (arith, g)) in
        let some : 0 < y.j = first_pos y.j u (subst (λ (z : ℕ). 0 < z) y.is h) in
        record {
          j = m % y.j;
          i = y.i;
          small = native.Mathlib.Nat.lt_trans (mod-lt m some) y.small;
          is = ap (λ (z : ℕ). z % Y) is ∙ ap (λ (z : ℕ). (m * u) % z) y.is ∙ mod_times m y.j u some (pow_pos y.i);
          under = under;
        }

-- a number of steps that is a value is rounded to itself
pub round_held : (f : Format) (s : Bool) (n : ℕ) → Held f n → HasValue (round f s n (2 ^ low f)) s n (2 ^ low f)
round_held f s n h =
    round_exact f s n (2 ^ low f) h.j h.i (pow_pos (low f)) h.small
    (subst (λ (z : ℕ). z < overflow f) h.is h.under) (ap (λ (z : ℕ). z * 2 ^ low f) h.is)

-- a float is what its own steps are rounded to
pub own_round : (f : Format) (x : Float) → T (fits f x) → T (finite x)
    → x ≡ round f (sign_of x) (steps_in f x) (2 ^ low f)
own_round f x t g =
    let s = sign_of x in
    let n = steps_in f x in
    let z = round f s n (2 ^ low f) in
    let v : HasValue z s n (2 ^ low f) = round_held f s n (steps-held f x t g) in
    steps_unique f x z t g (round-fits f s n (2 ^ low f)) (value_finite z s n (2 ^ low f) v)
    (sym (value_sign z s n (2 ^ low f) v)) (sym (steps_of_lem f z s n v))

-- ---- what is computed

sub_times : (a b k : ℕ) → (a - b) * k ≡ a * k - b * k
sub_times a b k = mul_comm (a - b) k ∙ mul-sub k a b ∙ ap (λ (z : ℕ). z - k * b) (mul_comm k a)
    ∙ ap (λ (z : ℕ). a * k - z) (mul_comm k b)

-- A / C is X / L and B / C is Y / L
module _ (A B C X Y L : ℕ) (c : 0 < C) (l : 0 < L) (first : A * L ≡ X * C) (second : B * L ≡ Y * C) where
  some_of : 0 < Y → 0 < B
  some_of h = first_pos B L (subst (λ (z : ℕ). 0 < z) (sym second) (mul-pos h c))

  rest_of : 0 < Y → A % B * L ≡ X % Y * C
  rest_of h =
      sym (mod_times A B L (some_of h) l) ∙ ap (λ (z : ℕ). z % (B * L)) first
      ∙ ap (λ (z : ℕ). (X * C) % z) second ∙ mod_times X Y C h c

  ordered : Y ≤ X → B ≤ A
  ordered h = native.Mathlib.Nat.le_of_mul-le-mul_right {k = L}
      (subst (λ (z : ℕ). z ≤ A * L) (sym second) (subst (λ (z : ℕ). Y * C ≤ z) (sym first) (mul-le-mul_right C h))) l

  less_of : (A - B) * L ≡ (X - Y) * C
  less_of =
      sub_times A B L ∙ ap (λ (z : ℕ). z - B * L) first ∙ ap (λ (z : ℕ). X * C - z) second
      ∙ sym (sub_times X Y C)

crossed : (a X d e L : ℕ) → a * L ≡ X * e → a * d * L ≡ X * (e * d)
crossed a X d e L v = omega (arith, ap (λ (z : ℕ). z * d) v)

crossed_left : (b Y d e L : ℕ) → b * L ≡ Y * d → b * e * L ≡ Y * (e * d)
crossed_left b Y d e L w = omega (arith, ap (λ (z : ℕ). z * e) w)

no_part : (n u d : ℕ) → n ≡ 0 → n * u * d ≡ 0
no_part n u d z = ap (λ (k : ℕ). k * u * d) z ∙ ap (λ (k : ℕ). k * d) (zero-mul u) ∙ zero-mul d

-- the remainder, by steps
pub rem_steps : (f : Format) (x y : Float) (s t : Bool) (X Y : ℕ) → HasValue x s X (2 ^ low f)
    → HasValue y t Y (2 ^ low f) → 0 < Y → rem f x y ≡ round f s (X % Y) (2 ^ low f)
unfolding rem
rem_steps f nan y s t X Y v w h = absurd v
rem_steps f (inf r) y s t X Y v w h = absurd v
rem_steps f (fin r m e) nan s t X Y v w h = absurd w
rem_steps f (fin r m e) (inf q) s t X Y v w h = absurd w
rem_steps f (fin r m e) (fin q n d) s t X Y v w h =
    go (m * up e * down d) (n * up d * down e) (eqb n 0) refl
    (crossed (m * up e) X (down d) (down e) (2 ^ low f) v.1)
    (crossed_left (n * up d) Y (down d) (down e) (2 ^ low f) w.1)
    (no_part n (up d) (down e))
  where
    C_pos : 0 < down e * down d
    C_pos = mul-pos (down_pos e) (down_pos d)

    go : (A B : ℕ) (b : Bool) → eqb n 0 ≡ b → A * 2 ^ low f ≡ X * (down e * down d)
        → B * 2 ^ low f ≡ Y * (down e * down d) → (n ≡ 0 → B ≡ 0)
        → cond b nan (round f r (A % B) (down e * down d)) ≡ round f s (X % Y) (2 ^ low f)
    go A B true q i j none =
        let some = some_of A B (down e * down d) X Y (2 ^ low f) C_pos (pow_pos (low f)) i j h in
        let z : B ≡ 0 = none (eqb→eq n 0 (T_from_true (eqb n 0) q)) in
        absurd (native.Mathlib.Nat.lt_irrefl 0 (subst (λ (z : ℕ). 0 < z) z some))
    go A B false q i j none =
        ap (λ (k : Bool). round f k (A % B) (down e * down d)) v.0
        ∙ round_same f s (A % B) (down e * down d) (X % Y) (2 ^ low f) C_pos (pow_pos (low f))
        (rest_of A B (down e * down d) X Y (2 ^ low f) C_pos (pow_pos (low f)) i j h)

-- the difference of two, the first not the smaller, neither below zero
pub sub_steps : (f : Format) (x y : Float) (X Y : ℕ) → HasValue x false X (2 ^ low f) → HasValue y false Y (2 ^ low f)
    → Y ≤ X → sub f x y ≡ round f false (X - Y) (2 ^ low f)
unfolding sub add neg sum
sub_steps f nan y X Y v w h = absurd v
sub_steps f (inf r) y X Y v w h = absurd v
sub_steps f (fin r m e) nan X Y v w h = absurd w
sub_steps f (fin r m e) (inf q) X Y v w h = absurd w
sub_steps f (fin true m e) (fin q n d) X Y v w h = absurd (true≢false v.0)
sub_steps f (fin false m e) (fin true n d) X Y v w h = absurd (true≢false w.0)
sub_steps f (fin false m e) (fin false n d) X Y v w h =
    go (m * up e * down d) (n * up d * down e) (ltb (m * up e * down d) (n * up d * down e)) refl
    (crossed (m * up e) X (down d) (down e) (2 ^ low f) v.1)
    (crossed_left (n * up d) Y (down d) (down e) (2 ^ low f) w.1)
  where
    C_pos : 0 < down e * down d
    C_pos = mul-pos (down_pos e) (down_pos d)

    go : (A B : ℕ) (b : Bool) → ltb A B ≡ b → A * 2 ^ low f ≡ X * (down e * down d)
        → B * 2 ^ low f ≡ Y * (down e * down d)
        → cond b (round f true (B - A) (down e * down d)) (round f false (A - B) (down e * down d))
        ≡ round f false (X - Y) (2 ^ low f)
    go A B true q i j =
        absurd (native.Mathlib.Nat.not-le_of_lt (ltb→lt A B (T_from_true (ltb A B) q))
        (ordered A B (down e * down d) X Y (2 ^ low f) C_pos (pow_pos (low f)) i j h))
    go A B false q i j =
        round_same f false (A - B) (down e * down d) (X - Y) (2 ^ low f) C_pos (pow_pos (low f))
        (less_of A B (down e * down d) X Y (2 ^ low f) C_pos (pow_pos (low f)) i j)

-- the double of one that is not below zero
pub twice_steps : (f : Format) (y : Float) (Y : ℕ) → HasValue y false Y (2 ^ low f)
    → add f y y ≡ round f false (Y + Y) (2 ^ low f)
unfolding add sum
twice_steps f nan Y w = absurd w
twice_steps f (inf q) Y w = absurd w
twice_steps f (fin true n d) Y w = absurd (true≢false w.0)
twice_steps f (fin false n d) Y w =
    let L = 2 ^ low f in
    let B = n * up d * down d in
    let C = down d * down d in
    let one : B * L ≡ Y * C = omega (arith, ap (λ (z : ℕ). z * down d) w.1) in
    round_same f false (B + B) C (Y + Y) L (mul-pos (down_pos d) (down_pos d)) (pow_pos (low f)) (omega arith)

pub held_twice : (f : Format) (Y : ℕ) → Held f Y → Y + Y < overflow f → Held f (Y + Y)
held_twice f Y y h = record {
  j = y.j;
  i = 1 + y.i;
  small = y.small;
  is = ap (λ (z : ℕ). z + z) y.is ∙ twice y.j y.i;
  under = h;
}
  where
    twice : (j i : ℕ) → j * 2 ^ i + j * 2 ^ i ≡ j * 2 ^ (1 + i)
    twice j i =
        let e : 2 ^ (1 + i) ≡ 2 * 2 ^ i = pow-add 2 1 i in
        let g : j * 2 ^ (1 + i) ≡ j * (2 * 2 ^ i) = ap (λ (z : ℕ). j * z) e in
        omega arith
