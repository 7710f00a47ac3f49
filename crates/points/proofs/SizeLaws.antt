-- Numbers of bounded size give sums, products, quotients, roots and distances of bounded size: none overflows and none
-- is a NaN. Assumes nothing.
use mathlib.Core.Path.{◌≡◌, sym, ap, subst}
use mathlib.Core.Bool.{Bool, true, false, ◌&&◌, beq, cond, true≢false}
use mathlib.Mathlib.Data.Bool.Basic.{or-eq-false-eq-eq-false-and-eq-false}
use Prim.Native.Nat.{ℕ, zero, suc, ◌+◌, ◌-◌, ◌*◌, ◌/◌, ◌%◌, ◌^◌, ◌≤◌, ◌<◌}
use native.Mathlib.Nat.{le_trans, le_of_eq, lt_of_le_of_lt, mul_comm, mul_assoc, mul_left_comm, mul-one, mul-pos}
use native.Mathlib.Nat.{mul-le-mul, mul-le-mul_right, le_of_mul-le-mul_right, mul-lt-mul_of_pos_right}
use native.Mathlib.Nat.{div-lt_iff_lt-mul, div-le_of_le-mul, mod-le, pow-suc, zero-mul, zero-lt-suc, lt_irrefl}
use native.Mathlib.Omega.{arith}
use borrow.Author.Tests.{lt-ltb, ltb-false}
use lib.Dec.{ltb, eqb-suc-zero, lit<, lit≤}
use lib.Pow.{pow-add, pow_pos, pow_mono, pow-lt}
use lib.Ieee.{Float, nan, inf, fin, Format, binary64, prec, emax, low, up, down, unlike, round, neg, sum, add, sub, mul}
use lib.Ieee.{div, rem, lt, of_bits}
use lib.Ieee.Fits.{up_pos, down_pos}
use lib.Ieee.Exact.{HasValue}
use lib.Ieee.Scale.{grid}
use Rattle.answer.specs.declared.Point.{Point}
use Rattle.root.specs.Whole.{halves}
use Rattle.root.specs.Root.{root_finite, sqrt_of}
use Rattle.root.proofs.Rounding.{round-steps, grid-le}
use Rattle.root.proofs.WholeLaws.{halves-le_even}
use Rattle.points.specs.Bad.{largest, bad_number, bad_point}
use Rattle.points.specs.Distance.{squares, distance_sq_of, distance_of}
use Rattle.points.specs.Numbers.{tiny, huge}

-- finite, and at most 2^k in size
abbrev pub Under : ℕ → Float → Type 0
Under k nan = ⊥
Under k (inf s) = ⊥
Under k (fin s m e) = m * up e ≤ 2 ^ k * down e

-- and without a minus sign
abbrev pub Plus : ℕ → Float → Type 0
Plus k nan = ⊥
Plus k (inf s) = ⊥
Plus k (fin s m e) = (s ≡ false) × (m * up e ≤ 2 ^ k * down e)

-- finite, and at least 2^-i in size
abbrev pub Over : ℕ → Float → Type 0
Over i nan = ⊥
Over i (inf s) = ⊥
Over i (fin s m e) = down e ≤ m * up e * 2 ^ i

pub under_more : {j k : ℕ} (x : Float) → j ≤ k → Under j x → Under k x
under_more nan h u = u
under_more (inf s) h u = u
under_more (fin s m e) h u = le_trans u (mul-le-mul_right (down e) (pow_mono h))

pub plus_under : (k : ℕ) (x : Float) → Plus k x → Under k x
plus_under k nan p = p
plus_under k (inf s) p = p
plus_under k (fin s m e) p = p.1

pub plus_more : {j k : ℕ} (x : Float) → j ≤ k → Plus j x → Plus k x
plus_more nan h p = p
plus_more (inf s) h p = p
plus_more (fin s m e) h p = (p.0, le_trans p.1 (mul-le-mul_right (down e) (pow_mono h)))

-- ---- rounding

value_under : (x : Float) (s : Bool) (a k l : ℕ) → HasValue x s a (2 ^ l) → a ≤ 2 ^ (k + l) → Under k x
value_under nan s a k l v h = v
value_under (inf t) s a k l v h = v
value_under (fin t m e) s a k l v h =
    le_of_mul-le-mul_right
    (le_trans (le_of_eq v.1) (le_trans (mul-le-mul_right (down e) h)
    (le_of_eq (simp (pow-add, mul_assoc, mul_comm, mul_left_comm)))))
    (pow_pos l)

value_plus : (x : Float) (k : ℕ) (a c : ℕ) → HasValue x false a c → Under k x → Plus k x
value_plus nan k a c v u = u
value_plus (inf t) k a c v u = u
value_plus (fin t m e) k a c v u = (v.0, u)

twice : (k l d : ℕ) → 2 ^ (suc k + l) * d ≡ 2 * (2 ^ k * d * 2 ^ l)
twice k l d = rw (pow-add, pow-suc) (simp (mul_assoc, mul_comm, mul_left_comm))

module _ (f : Format) (s : Bool) (num den k t : ℕ) (D : 0 < den) (e : prec f + t ≡ suc k + low f) (small : k < emax f)
    (h : num ≤ 2 ^ k * den) where
  steps_small : num * 2 ^ low f / den < 2 ^ (prec f + t)
  steps_small =
      let L = 2 ^ low f in
      let p : 0 < 2 ^ k * den * L = mul-pos (mul-pos (pow_pos k) D) (pow_pos (low f)) in
      let a : num * L ≤ 2 ^ k * den * L = mul-le-mul_right L h in
      let b = twice k (low f) den in
      rw e ((div-lt_iff_lt-mul D).1 (omega arith))

  steps-le : grid f num den ≤ 2 ^ (suc k + low f)
  steps-le = subst (λ (z : ℕ). grid f num den ≤ 2 ^ z) e (grid-le f num den t steps_small)

  steps_value : HasValue (round f s num den) s (grid f num den) (2 ^ low f)
  steps_value = round-steps f s num den (lt_of_le_of_lt steps-le (pow-lt (omega arith)))

  size_at : Under (suc k) (round f s num den)
  size_at = value_under (round f s num den) s (grid f num den) (suc k) (low f) steps_value steps-le

pub rounded : (s : Bool) (num den k : ℕ) → 0 < den → k < 1023 → num ≤ 2 ^ k * den
    → Under (suc k) (round binary64 s num den)
rounded s num den k D small h = size_at binary64 s num den k (k + 1022) D (omega arith) small h

rounded_plus : (num den k : ℕ) → 0 < den → k < 1023 → num ≤ 2 ^ k * den → Plus (suc k) (round binary64 false num den)
rounded_plus num den k D small h =
    value_plus (round binary64 false num den) (suc k) (grid binary64 num den) (2 ^ low binary64)
    (steps_value binary64 false num den k (k + 1022) D (omega arith) small h)
    (rounded false num den k D small h)

-- ---- sums and differences

both_small : (k c a b : ℕ) → a ≤ 2 ^ k * c → b ≤ 2 ^ k * c → a + b ≤ 2 ^ suc k * c
both_small k c a b h g =
    let e : 2 ^ suc k * c ≡ 2 * (2 ^ k * c) = rw pow-suc (simp (mul_assoc, mul_comm)) in
    omega arith

sum_under : (s : Bool) (a : ℕ) (t : Bool) (b c k : ℕ) → 0 < c → k < 1022 → a ≤ 2 ^ k * c → b ≤ 2 ^ k * c
    → Under (suc (suc k)) (sum binary64 s a t b c)
unfolding sum
sum_under s a t b c k C small h g = go (beq s t) (ltb a b)
  where
    less : (x : ℕ) → x ≤ a + b → x ≤ 2 ^ suc k * c
    less x l = le_trans l (both_small k c a b h g)

    go : (p q : Bool)
        → Under (suc (suc k)) (cond p (round binary64 s (a + b) c)
        (cond q (round binary64 t (b - a) c) (round binary64 (s && ltb b a) (a - b) c)))
    go true q = rounded s (a + b) c (suc k) C (omega arith) (both_small k c a b h g)
    go false true = rounded t (b - a) c (suc k) C (omega arith) (less (b - a) (omega arith))
    go false false = rounded (s && ltb b a) (a - b) c (suc k) C (omega arith) (less (a - b) (omega arith))

-- numerators over a common denominator
left_over : (k x u v : ℕ) → x ≤ 2 ^ k * u → x * v ≤ 2 ^ k * (u * v)
left_over k x u v h = le_trans (mul-le-mul_right v h) (le_of_eq (mul_assoc (2 ^ k) u v))

right_over : (k x u v : ℕ) → x ≤ 2 ^ k * v → x * u ≤ 2 ^ k * (u * v)
right_over k x u v h = le_trans (left_over k x v u h) (le_of_eq (ap (λ (z : ℕ). 2 ^ k * z) (mul_comm v u)))

pub add_under : (k : ℕ) (x y : Float) → k < 1022 → Under k x → Under k y → Under (suc (suc k)) (add binary64 x y)
unfolding add
add_under k nan y small u w = absurd u
add_under k (inf s) y small u w = absurd u
add_under k (fin s m e) nan small u w = absurd w
add_under k (fin s m e) (inf t) small u w = absurd w
add_under k (fin s m e) (fin t n d) small u w =
    sum_under s (m * up e * down d) t (n * up d * down e) (down e * down d) k (mul-pos (down_pos e) (down_pos d)) small
    (left_over k (m * up e) (down e) (down d) u) (right_over k (n * up d) (down e) (down d) w)

pub sub_under : (k : ℕ) (x y : Float) → k < 1022 → Under k x → Under k y → Under (suc (suc k)) (sub binary64 x y)
unfolding sub
sub_under k x y small u w = add_under k x (neg y) small u (negated y w)
  where
    negated : (z : Float) → Under k z → Under k (neg z)
    negated nan v = v
    negated (inf s) v = v
    negated (fin s m e) v = v

pub add_plus : (k : ℕ) (x y : Float) → k < 1022 → Plus k x → Plus k y → Plus (suc (suc k)) (add binary64 x y)
unfolding add sum
add_plus k nan y small u w = absurd u
add_plus k (inf s) y small u w = absurd u
add_plus k (fin s m e) nan small u w = absurd w
add_plus k (fin s m e) (inf t) small u w = absurd w
add_plus k (fin true m e) (fin t n d) small u w = absurd (true≢false u.0)
add_plus k (fin false m e) (fin true n d) small u w = absurd (true≢false w.0)
add_plus k (fin false m e) (fin false n d) small u w =
    rounded_plus (m * up e * down d + n * up d * down e) (down e * down d) (suc k) (mul-pos (down_pos e) (down_pos d))
    (omega arith)
    (both_small k (down e * down d) (m * up e * down d) (n * up d * down e)
    (left_over k (m * up e) (down e) (down d) u.1) (right_over k (n * up d) (down e) (down d) w.1))

-- ---- products and quotients

product : (j k x y u v : ℕ) → x ≤ 2 ^ j * u → y ≤ 2 ^ k * v → x * y ≤ 2 ^ (j + k) * (u * v)
product j k x y u v h g = le_trans (mul-le-mul h g) (le_of_eq (simp (pow-add, mul_assoc, mul_comm, mul_left_comm)))

pub mul_under : (j k : ℕ) (x y : Float) → j + k < 1023 → Under j x → Under k y → Under (suc (j + k)) (mul binary64 x y)
unfolding mul
mul_under j k nan y small u w = absurd u
mul_under j k (inf s) y small u w = absurd u
mul_under j k (fin s m e) nan small u w = absurd w
mul_under j k (fin s m e) (inf t) small u w = absurd w
mul_under j k (fin s m e) (fin t n d) small u w =
    rounded (unlike s t) (m * up e * (n * up d)) (down e * down d) (j + k) (mul-pos (down_pos e) (down_pos d)) small
    (product j k (m * up e) (n * up d) (down e) (down d) u w)

square_plus : (k : ℕ) (x : Float) → k + k < 1023 → Under k x → Plus (suc (k + k)) (mul binary64 x x)
unfolding mul
square_plus k nan small u = absurd u
square_plus k (inf s) small u = absurd u
square_plus k (fin true m e) small u =
    rounded_plus (m * up e * (m * up e)) (down e * down e) (k + k) (mul-pos (down_pos e) (down_pos e)) small
    (product k k (m * up e) (m * up e) (down e) (down e) u u)
square_plus k (fin false m e) small u =
    rounded_plus (m * up e * (m * up e)) (down e * down e) (k + k) (mul-pos (down_pos e) (down_pos e)) small
    (product k k (m * up e) (m * up e) (down e) (down e) u u)

-- a number that is at least 2^-i is no zero
over_some : (i n u d : ℕ) → 0 < d → d ≤ n * u * 2 ^ i → 0 < n
over_some i zero u d D h = absurd (omega (arith, simp zero-mul at h))
over_some i (suc n) u d D h = zero-lt-suc n

quotient : (j i x y u v : ℕ) → x ≤ 2 ^ j * u → v ≤ y * 2 ^ i → x * v ≤ 2 ^ (j + i) * (y * u)
quotient j i x y u v h g = le_trans (mul-le-mul h g) (le_of_eq (simp (pow-add, mul_assoc, mul_comm, mul_left_comm)))

pub div_under : (j i : ℕ) (x y : Float) → j + i < 1023 → Under j x → Over i y → Under (suc (j + i)) (div binary64 x y)
unfolding div
div_under j i nan y small u w = absurd u
div_under j i (inf s) y small u w = absurd u
div_under j i (fin s m e) nan small u w = absurd w
div_under j i (fin s m e) (inf t) small u w = absurd w
div_under j i (fin s m e) (fin t zero d) small u w =
    absurd (lt_irrefl 0 (over_some i zero (up d) (down d) (down_pos d) w))
div_under j i (fin s m e) (fin t (suc n) d) small u w =
    rw (eqb-suc-zero n)
    (rounded (unlike s t) (m * up e * down d) (suc n * up d * down e) (j + i)
    (mul-pos (mul-pos (zero-lt-suc n) (up_pos d)) (down_pos e)) small
    (quotient j i (m * up e) (suc n * up d) (down e) (down d) u w))

pub rem_under : (j i : ℕ) (x y : Float) → j < 1023 → Under j x → Over i y → Under (suc j) (rem binary64 x y)
unfolding rem
rem_under j i nan y small u w = absurd u
rem_under j i (inf s) y small u w = absurd u
rem_under j i (fin s m e) nan small u w = absurd w
rem_under j i (fin s m e) (inf t) small u w = absurd w
rem_under j i (fin s m e) (fin t zero d) small u w =
    absurd (lt_irrefl 0 (over_some i zero (up d) (down d) (down_pos d) w))
rem_under j i (fin s m e) (fin t (suc n) d) small u w =
    rw (eqb-suc-zero n)
    (rounded s (m * up e * down d % (suc n * up d * down e)) (down e * down d) j (mul-pos (down_pos e) (down_pos d))
    small
    (le_trans (mod-le (m * up e * down d) (suc n * up d * down e)) (left_over j (m * up e) (down e) (down d) u)))

-- ---- roots

root-part : (i x d L : ℕ) → 0 < d → x ≤ 2 ^ (i + i) * d → halves (x * L / d * L) ≤ 2 ^ i * (2 * L)
root-part i x d L D h =
    let a : x * L ≤ d * (2 ^ (i + i) * L) = le_trans (mul-le-mul_right L h) (le_of_eq (simp (mul_assoc, mul_comm))) in
    let b : x * L / d * L ≤ 2 ^ i * L * (2 ^ i * L) =
    le_trans (mul-le-mul_right L (div-le_of_le-mul d a))
    (le_of_eq (simp (pow-add, mul_assoc, mul_comm, mul_left_comm))) in
    le_trans (halves-le_even (x * L / d * L) (2 ^ i * L) b) (le_of_eq (simp (mul_assoc, mul_comm)))

pub sqrt_plus : (i : ℕ) (x : Float) → i < 1023 → Plus (i + i) x → Plus (suc i) (sqrt_of x)
unfolding sqrt_of root_finite
sqrt_plus i nan small u = absurd u
sqrt_plus i (inf s) small u = absurd u
sqrt_plus i (fin true m e) small u = absurd (true≢false u.0)
sqrt_plus i (fin false m e) small u =
    rounded_plus _ (2 ^ 1075) i (pow_pos 1075) small (root-part i (m * up e) (down e) (2 ^ 1074) (down_pos e) u.1)

-- ---- points and their distances

-- both coordinates are at most 2^k in size
pub record Near (k : ℕ) (p : Point) : Type 0 where
  pub x_under : Under k p.x
  pub y_under : Under k p.y

pub near_more : (j k : ℕ) (p : Point) → j ≤ k → Near j p → Near k p
near_more j k p h n = record { x_under = under_more p.x h n.x_under; y_under = under_more p.y h n.y_under }

pub distance_plus : (k : ℕ) (a b : Point) → k ≤ 400 → Near k a → Near k b → Plus (k + 5) (distance_of a b)
unfolding distance_of distance_sq_of squares
distance_plus k a b small m n =
    let dx = sub binary64 b.x a.x in
    let dy = sub binary64 b.y a.y in
    let j = suc (suc k) in
    let xx = square_plus j dx (omega arith) (sub_under k b.x a.x (omega arith) n.x_under m.x_under) in
    let yy = square_plus j dy (omega arith) (sub_under k b.y a.y (omega arith) n.y_under m.y_under) in
    let all = add_plus (suc (j + j)) (mul binary64 dx dx) (mul binary64 dy dy) (omega arith) xx yy in
    let e : suc (k + 4) ≡ k + 5 = omega arith in
    subst (λ (z : ℕ). Plus z (sqrt_of (add binary64 (mul binary64 dx dx) (mul binary64 dy dy)))) e
    (sqrt_plus (k + 4) (add binary64 (mul binary64 dx dx) (mul binary64 dy dy)) (omega arith)
    (plus_more (add binary64 (mul binary64 dx dx) (mul binary64 dy dy)) (omega arith) all))

-- ---- what the house's tests tell

pub good_under : (x : Float) → bad_number x ≡ false → Under 20 x
unfolding bad_number
good_under nan h = absurd (true≢false h)
good_under (inf s) h = absurd (true≢false h)
good_under (fin s m e) h = ltb-false (largest * down e) (m * up e) h

pub good_near : (p : Point) → bad_point p ≡ false → Near 20 p
unfolding bad_point
good_near p h =
    let both = (or-eq-false-eq-eq-false-and-eq-false (bad_number p.x) (bad_number p.y)).0 h in
    record { x_under = good_under p.x both.0; y_under = good_under p.y both.1 }

strictly : (x d k H : ℕ) → x ≤ 2 ^ k * d → 2 ^ k < H → 0 < d → x * 1 < H * d
strictly x d k H h g D = rw mul-one (lt_of_le_of_lt h (mul-lt-mul_of_pos_right g D))

-- a number of that kind is below the largest finite one
pub below_huge : (k : ℕ) (x : Float) → k ≤ 1000 → Plus k x → lt x huge ≡ true
unfolding lt of_bits
below_huge k nan h u = absurd u
below_huge k (inf s) h u = absurd u
below_huge k (fin true m e) h u = absurd (true≢false u.0)
below_huge k (fin false m e) h u =
    lt-ltb _ _ (strictly (m * up e) (down e) k _ u.1 (lt_of_le_of_lt (pow_mono h) (lit< tt)) (down_pos e))

-- a length that is not under 1e-12 is at least 2^-40
pub not-tiny : (k : ℕ) (x : Float) → Plus k x → lt x tiny ≡ false → Over 40 x
unfolding lt of_bits
not-tiny k nan u h = absurd u
not-tiny k (inf s) u h = absurd u
not-tiny k (fin true m e) u h = absurd (true≢false u.0)
not-tiny k (fin false m e) u h =
    let g : 0x11_9799_812d_ea11 * down e ≤ m * up e * 2 ^ 92 = ltb-false _ _ h in
    le_of_mul-le-mul_right {k =
    2 ^ 52} (le_trans (le_of_eq (mul_comm (down e) (2 ^ 52)))
    (le_trans (mul-le-mul_right (down e) (lit≤ tt))
    (le_trans g (le_of_eq (sym (mul_assoc (m * up e) (2 ^ 40) (2 ^ 52))))))) (pow_pos 52)

-- so is a distance of points that are not too far out
pub distance_below : (k : ℕ) (a b : Point) → k ≤ 400 → Near k a → Near k b → lt (distance_of a b) huge ≡ true
distance_below k a b small m n = below_huge (k + 5) (distance_of a b) (omega arith) (distance_plus k a b small m n)
