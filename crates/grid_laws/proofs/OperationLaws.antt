-- One rounded operation on finite numbers: what it rounds, and that the result is above that by half a unit of its last
-- digit at most. Assumes nothing.
use mathlib.Core.Path.{◌≡◌, refl, sym, ap, ◌∙◌, subst}
use mathlib.Core.Bool.{Bool, true, false, not, cond, true≢false, false≢true}
use Prim.Native.Nat.{ℕ, zero, suc, ◌+◌, ◌-◌, ◌*◌, ◌/◌, ◌^◌, ◌≤◌, ◌<◌}
use native.Mathlib.Nat.{le_of_eq, lt_of_le_of_lt, mul_assoc, mul_comm, mul_left_comm, mul-pos}
use native.Mathlib.Nat.{mul-le-mul_right, mul_right_comm, div-lt_iff_lt-mul, zero-mul}
use native.Mathlib.Nat.{mul-lt-mul_of_pos_right, eq_of_mul-eq-mul_right, zero-lt-suc, mul-mul-mul_comm}
use native.Mathlib.Nat.{le_dest, not-le_of_lt}
use native.Mathlib.Omega.{arith}
use lib.Dec.{T, ltb, eqb-suc-zero, ltb→lt}
use lib.Pow.{pow_pos, pow-lt}
use lib.Ieee.{Float, nan, inf, fin, Format, prec, low, up, down, unlike, round, neg, sum, add, sub, mul}
use lib.Ieee.{div, fits}
use lib.Ieee.Fits.{up_pos, down_pos, round-fits}
use lib.Ieee.Exact.{HasValue}
use lib.Ieee.Scale.{round_same, finite, grid, overflow}
use Rattle.root.specs.Steps.{steps_in, sign_of, has_root}
use Rattle.root.proofs.Negation.{neg-neg}
use Rattle.root.proofs.StepLaws.{steps_of_lem, minus_zero}
use Rattle.root.proofs.RootLaws.{value_finite, value_sign}
use Rattle.root.proofs.Rounding.{round-steps, half_ulp, ulp, ulp_le, grid-le}
use Rattle.grid.proofs.UnitLaws.{no_product}
use Rattle.exact.proofs.AddLaws.{unscale}
use Rattle.exact.proofs.GridLaws.{size_between, less-back, over, over_right, sub_at}

-- ---- what a value says

-- the same fraction in smaller parts
pub value_times : (x : Float) (s : Bool) (a c k : ℕ) → HasValue x s a c → HasValue x s (a * k) (c * k)
value_times nan s a c k h = h
value_times (inf t) s a c k h = h
value_times (fin t m e) s a c k h = (
  h.0,
  sym (mul_assoc (m * up e) c k) ∙ ap (λ (z : ℕ). z * k) h.1 ∙ mul_right_comm a (down e) k,
)

-- ---- a rounding

-- x is a / c rounded: finite, with this sign, and above a / c by half of 2 ^ t steps at most
pub record Rounded (f : Format) (t : ℕ) (x : Float) (s : Bool) (a c : ℕ) : Type 0 where
  pub held : T (fits f x)
  pub finite-one : T (finite x)
  pub sign : sign_of x ≡ s
  pub high : 2 * (steps_in f x * c) ≤ 2 * (a * 2 ^ low f) + 2 ^ t * c

-- so is every fraction below 2 ^ (prec + t) steps
pub rounded : (f : Format) (t : ℕ) (s : Bool) (a c : ℕ) → 0 < c → a * 2 ^ low f < 2 ^ (prec f + t) * c
    → 2 ^ (prec f + t) < overflow f → Rounded f t (round f s a c) s a c
rounded f t s a c C h k =
    let x = round f s a c in
    let small : a * 2 ^ low f / c < 2 ^ (prec f + t) = (div-lt_iff_lt-mul C).1 h in
    let value : HasValue x s (grid f a c) (2 ^ low f) =
    round-steps f s a c (lt_of_le_of_lt (grid-le f a c t small) k) in
    let unit : ulp f a c * c ≤ 2 ^ t * c = mul-le-mul_right c (ulp_le f a c t small) in
    let off = (half_ulp f a c C).0 in
    record {
      held = round-fits f s a c;
      finite-one = value_finite x s (grid f a c) (2 ^ low f) value;
      sign = value_sign x s (grid f a c) (2 ^ low f) value;
      high = subst (λ (z : ℕ). 2 * (z * c) ≤ 2 * (a * 2 ^ low f) + 2 ^ t * c) (sym (steps_of_lem f x s (grid f a c) value))
          (omega (arith, off, unit));
    }

-- a whole number of steps rounded
pub in_steps : (f : Format) (t : ℕ) (x : Float) (s : Bool) (z : ℕ) → Rounded f t x s z (2 ^ low f)
    → 2 * steps_in f x ≤ 2 * z + 2 ^ t
in_steps f t x s z r = unscale (steps_in f x) z (2 ^ t) (2 ^ low f) (pow_pos (low f)) r.high

pub rounded_steps : (f : Format) (t : ℕ) (s : Bool) (z : ℕ) → z < 2 ^ (prec f + t) → 2 ^ (prec f + t) < overflow f
    → Rounded f t (round f s z (2 ^ low f)) s z (2 ^ low f)
rounded_steps f t s z h k =
    rounded f t s z (2 ^ low f) (pow_pos (low f)) (mul-lt-mul_of_pos_right h (pow_pos (low f))) k

-- nothing is rounded to nothing
pub round-none : (f : Format) (s : Bool) (a c : ℕ) → 0 < c → prec f < low f → a ≡ 0 → steps_in f (round f s a c) ≡ 0
round-none f s a c C p e =
    let z : a * 2 ^ low f ≡ 0 = ap (λ (n : ℕ). n * 2 ^ low f) e ∙ zero-mul (2 ^ low f) in
    let r = rounded f 0 s a c C (omega (arith, z, mul-pos (pow_pos (prec f + 0)) C)) (pow-lt (omega arith)) in
    let h : 2 * steps_in f (round f s a c) ≤ 2 * 0 + 1 =
    unscale (steps_in f (round f s a c)) 0 1 c C (omega (arith, z, zero-mul c, r.high)) in
    omega arith

-- ---- a sum of any two numbers, as one rounding

neg_value : (z : Float) (a c : ℕ) → HasValue z (sign_of z) a c → HasValue (neg z) (sign_of (neg z)) a c
unfolding neg
neg_value nan a c h = h
neg_value (inf s) a c h = h
neg_value (fin s m e) a c h = (refl, h.1)

neg_sign : (z : Float) (a c : ℕ) → HasValue z (sign_of z) a c → sign_of (neg z) ≡ not (sign_of z)
unfolding neg
neg_sign nan a c h = absurd h
neg_sign (inf s) a c h = absurd h
neg_sign (fin s m e) a c h = refl

sub-neg : (f : Format) (y z : Float) → sub f y (neg z) ≡ add f y z
unfolding sub
sub-neg f y z = ap (add f y) (neg-neg z)

pub add_any : (f : Format) (y z : Float) (b a c : ℕ) → 0 < c → HasValue y (sign_of y) b c → HasValue z (sign_of z) a c
    → (r : Bool) × (add f y z ≡ round f r (size_between (not (sign_of z)) a (sign_of y) b) c)
add_any f y z b a c h p q =
    let d = sub_at f y (neg z) b a c h p (neg_value z a c q) in (
      d.sign,
      sym (sub-neg f y z) ∙ d.is
          ∙ ap (λ (s : Bool). round f d.sign (size_between s a (sign_of y) b) c) (neg_sign z a c q),
    )

-- ---- a difference that is not below zero

-- z is g / c rounded; where it has a minus sign it is -0
pub record Forward (f : Format) (z : Float) (g c : ℕ) : Type 0 where
  pub sign : Bool
  pub is : z ≡ round f sign g c
  pub none : sign ≡ true → g ≡ 0

less_cross : (A B C D E c : ℕ) → A * c ≡ D * C → B * c ≡ E * C → B ≤ A → E ≤ D → (A - B) * c ≡ (D - E) * C
less_cross A B C D E c p q l k = go (le_dest l) (le_dest k)
  where
    go : (w : ℕ) × (B + w ≡ A) → (z : ℕ) × (E + z ≡ D) → (A - B) * c ≡ (D - E) * C
    go (w, i) (z, j) =
        let g : (B + w) * c ≡ (E + z) * C = ap (λ (n : ℕ). n * c) i ∙ p ∙ ap (λ (n : ℕ). n * C) (sym j) in
        let u : A - B ≡ w = omega arith in
        let v : D - E ≡ z = omega arith in
        rw (u, v) (omega arith)

-- -0 has no size
no_size : (m u c d a : ℕ) → 0 < d → m ≡ 0 → m * u * c ≡ a * d → a ≡ 0
no_size m u c d a h z e =
    no_product a d h
    (sym e ∙ ap (λ (n : ℕ). n * u * c) z ∙ ap (λ (n : ℕ). n * c) (zero-mul u) ∙ zero-mul c)

sum_cross : (A B C D E c : ℕ) → A * c ≡ D * C → B * c ≡ E * C → D ≡ 0 → E ≤ D → (A + B) * c ≡ (D - E) * C
sum_cross A B C D E c p q z l =
    let e : D - E ≡ 0 = omega arith in
    let u : D * C ≡ 0 = ap (λ (n : ℕ). n * C) z ∙ zero-mul C in
    let w : E * C ≤ D * C = mul-le-mul_right C l in
    rw e (omega (arith, zero-mul C))

pub sub_forward : (f : Format) (y x : Float) (D E c : ℕ) → 0 < c → T (has_root y) → HasValue y (sign_of y) D c
    → HasValue x false E c → E ≤ D → Forward f (sub f y x) (D - E) c
unfolding sub add neg sum
sub_forward f nan x D E c h r p q l = absurd p
sub_forward f (inf s) x D E c h r p q l = absurd p
sub_forward f (fin s n d) nan D E c h r p q l = absurd q
sub_forward f (fin s n d) (inf t) D E c h r p q l = absurd q
sub_forward f (fin s n d) (fin true m e) D E c h r p q l = absurd (true≢false q.0)
sub_forward f (fin true n d) (fin false m e) D E c h r p q l =
    let z : D ≡ 0 = no_size n (up d) c (down d) D (down_pos d) (minus_zero n r) p.1 in
    let C = down d * down e in
    record {
      sign = true;
      is = round_same f true (n * up d * down e + m * up e * down d) C (D - E) c (mul-pos (down_pos d) (down_pos e)) h
          (sum_cross (n * up d * down e) (m * up e * down d) C D E c (over (n * up d) D c (down d) (down e) p.1)
          (over_right (m * up e) E c (down d) (down e) q.1) z l);
      none = λ g. omega arith;
    }
sub_forward f (fin false n d) (fin false m e) D E c h r p q l =
    go (ltb A B) (ltb→lt A B)
  where
    A : ℕ
    A = n * up d * down e

    B : ℕ
    B = m * up e * down d

    C : ℕ
    C = down d * down e

    i : A * c ≡ D * C
    i = over (n * up d) D c (down d) (down e) p.1

    j : B * c ≡ E * C
    j = over_right (m * up e) E c (down d) (down e) q.1

    less : B ≤ A
    less = less-back D E c B A C h (sym i) (sym j) l

    go : (t : Bool) → (T t → A < B)
        → Forward f (cond t (round f true (B - A) C) (round f false (A - B) C)) (D - E) c
    go true k = absurd (not-le_of_lt (k tt) less)
    go false k = record {
      sign = false;
      is = round_same f false (A - B) C (D - E) c (mul-pos (down_pos d) (down_pos e)) h
          (less_cross A B C D E c i j less l);
      none = λ g. absurd (false≢true g);
    }

-- ---- products and quotients

-- with a / c and b / c
pub mul_at : (f : Format) (x y : Float) (s t : Bool) (a b c : ℕ) → 0 < c → HasValue x s a c → HasValue y t b c
    → mul f x y ≡ round f (unlike s t) (a * b) (c * c)
unfolding mul
mul_at f nan y s t a b c h p q = absurd p
mul_at f (inf r) y s t a b c h p q = absurd p
mul_at f (fin r m e) nan s t a b c h p q = absurd q
mul_at f (fin r m e) (inf o) s t a b c h p q = absurd q
mul_at f (fin r m e) (fin o n d) s t a b c h p q =
    let cross : m * up e * (n * up d) * (c * c) ≡ a * b * (down e * down d) =
    mul-mul-mul_comm (m * up e) (n * up d) c c ∙ ap (λ (z : ℕ). z * (n * up d * c)) p.1
    ∙ ap (λ (z : ℕ). a * down e * z) q.1 ∙ mul-mul-mul_comm a (down e) b (down d) in
    ap (λ (z : Bool). round f (unlike z o) (m * up e * (n * up d)) (down e * down d)) p.0
    ∙ ap (λ (z : Bool). round f (unlike s z) (m * up e * (n * up d)) (down e * down d)) q.0
    ∙ round_same f (unlike s t) (m * up e * (n * up d)) (down e * down d) (a * b) (c * c)
    (mul-pos (down_pos e) (down_pos d)) (mul-pos h h) cross

quotient : (x y a b c d e : ℕ) → 0 < c → x * c ≡ a * e → y * c ≡ b * d → x * d * b ≡ a * (y * e)
quotient x y a b c d e h p q =
    eq_of_mul-eq-mul_right c h (x * d * b) (a * (y * e))
    (let u : x * d * b * c ≡ x * c * (d * b) = simp (mul_assoc, mul_comm, mul_left_comm) in
    let v : a * e * (d * b) ≡ a * e * (b * d) = ap (λ (z : ℕ). a * e * z) (mul_comm d b) in
    let w : a * e * (y * c) ≡ a * (y * e) * c = simp (mul_assoc, mul_comm, mul_left_comm) in
    u ∙ ap (λ (z : ℕ). z * (d * b)) p ∙ v ∙ ap (λ (z : ℕ). a * e * z) (sym q) ∙ w)

unlike_plus : (s : Bool) → unlike s false ≡ s
unlike_plus true = refl
unlike_plus false = refl

-- a / c by b / c
pub div-at : (f : Format) (x y : Float) (s : Bool) (a b c : ℕ) → 0 < c → 0 < b → HasValue x s a c
    → HasValue y false b c → div f x y ≡ round f s a b
unfolding div
div-at f nan y s a b c h k p q = absurd p
div-at f (inf r) y s a b c h k p q = absurd p
div-at f (fin r m e) nan s a b c h k p q = absurd q
div-at f (fin r m e) (inf o) s a b c h k p q = absurd q
div-at f (fin r m e) (fin true n d) s a b c h k p q = absurd (true≢false q.0)
div-at f (fin r m e) (fin false zero d) s a b c h k p q =
    absurd (not-le_of_lt k (le_of_eq (no_size zero (up d) c (down d) b (down_pos d) refl q.1)))
div-at f (fin r m e) (fin false (suc n) d) s a b c h k p q =
    rw (eqb-suc-zero n)
    (ap (λ (z : Bool). round f z (m * up e * down d) (suc n * up d * down e)) (unlike_plus r ∙ p.0)
    ∙ round_same f s (m * up e * down d) (suc n * up d * down e) a b
    (mul-pos (mul-pos (zero-lt-suc n) (up_pos d)) (down_pos e)) k
    (quotient (m * up e) (suc n * up d) a b c (down d) (down e) h p.1 q.1))
