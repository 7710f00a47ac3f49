-- How far a rounding moves a fraction: by half a unit of its last digit at most. Counted in steps of the format's
-- smallest value. Assumes nothing.
use mathlib.Core.Path.{◌≡◌, refl, sym, subst}
use mathlib.Core.Bool.{Bool, not}
use Prim.Native.Nat.{ℕ, zero, suc, ◌+◌, ◌-◌, ◌*◌, ◌/◌, ◌%◌, ◌^◌, ◌≤◌, ◌<◌, compare, Ordering}
use native.Mathlib.Nat.{le_trans, le_of_eq, div-add-mod', mod-lt, mul_assoc, mul_comm, mul_left_comm, mul-pos}
use native.Mathlib.Nat.{mul-le-mul, div-div-eq-div-mul}
use native.Mathlib.Omega.{arith}
use lib.Dec.{T, is_le, compare_is_eq, leb→le, nleb→lt, eqb→eq}
use lib.Pow.{pow-add, pow_pos, pow_mono}
use lib.Ieee.{Float, Format, prec, low, size, nearest, round}
use lib.Ieee.Digits.{size-le}
use lib.Ieee.Fits.{round_is, nearest-le, kept-lt}
use lib.Ieee.Exact.{HasValue, units_val}
use lib.Ieee.Nearest.{closest}
use lib.Ieee.Order.{drop, kept}
use lib.Ieee.Scale.{grid, overflow}

-- ---- a fraction a / b against the whole number nearest to it

-- q * b + r is 2 * q + 1 halves of b at most where the comparison says so, and at least where it says so
off : (q r b : ℕ) (o : Ordering) → r < b → (T (is_le o) → r * 2 ≤ b) → (T (not (is_le o)) → b < r * 2)
    → (T (compare_is_eq o) → r * 2 ≡ b)
    → (2 * (nearest q o * b) ≤ 2 * (q * b + r) + b) × (2 * (q * b + r) ≤ 2 * (nearest q o * b) + b)
off q r b Ordering.lt s h k e = let l = h tt in omega arith
off q r b Ordering.gt s h k e = let l = k tt in omega arith
off q r b Ordering.eq s h k e = go (q % 2) refl
  where
    l : r * 2 ≡ b
    l = e tt

    go : (z : ℕ) → q % 2 ≡ z
        → (2 * ((q + q % 2) * b) ≤ 2 * (q * b + r) + b) × (2 * (q * b + r) ≤ 2 * ((q + q % 2) * b) + b)
    go zero i = rw i (omega (arith, l))
    go (suc z) i =
        let j : q % 2 ≡ 1 = omega arith in
        rw j (omega (arith, l))

pub closest_off : (a b : ℕ) → 0 < b → (2 * (closest a b * b) ≤ 2 * a + b) × (2 * a ≤ 2 * (closest a b * b) + b)
closest_off a b h =
    let p = off (a / b) (a % b) b (compare (a % b * 2) b) (mod-lt a h) (leb→le (a % b * 2) b) (nleb→lt (a % b * 2) b)
    (eqb→eq (a % b * 2) b) in
    let d = div-add-mod' a b in
    (omega (arith, p.0), omega (arith, p.1))

-- ---- `round` of a / c

-- where it does not overflow it is `grid f a c` steps, with the sign given
pub round-steps : (f : Format) (s : Bool) (a c : ℕ) → grid f a c < overflow f
    → HasValue (round f s a c) s (grid f a c) (2 ^ low f)
round-steps f s a c h =
    subst (λ (z : Float). HasValue z s (grid f a c) (2 ^ low f)) (sym (round_is f s a c))
    (units_val f s (kept (prec f) (a * 2 ^ low f) c) (drop (prec f) (a * 2 ^ low f) c) h)

-- the unit of the last digit that is kept, in steps
abbrev pub ulp : Format → ℕ → ℕ → ℕ
ulp f a c = 2 ^ drop (prec f) (a * 2 ^ low f) c

-- half of that unit is the most that the rounding moves a / c, which is a * 2 ^ low / c steps
pub half_ulp : (f : Format) (a c : ℕ) → 0 < c
    → (2 * (grid f a c * c) ≤ 2 * (a * 2 ^ low f) + ulp f a c * c) ×
    (2 * (a * 2 ^ low f) ≤ 2 * (grid f a c * c) + ulp f a c * c)
half_ulp f a c h =
    let u = ulp f a c in
    let p = closest_off (a * 2 ^ low f) (c * u) (mul-pos h (pow_pos (drop (prec f) (a * 2 ^ low f) c))) in
    let e : kept (prec f) (a * 2 ^ low f) c * (c * u) ≡ grid f a c * c = simp (mul_assoc, mul_comm, mul_left_comm) in
    let d : c * u ≡ u * c = mul_comm c u in
    (omega (arith, p.0), omega (arith, p.1))

-- below 2 ^ (prec + t) steps the unit is at most 2 ^ t
pub ulp_le : (f : Format) (a c t : ℕ) → a * 2 ^ low f / c < 2 ^ (prec f + t) → ulp f a c ≤ 2 ^ t
ulp_le f a c t h = pow_mono (spare (size (a * 2 ^ low f / c)) (prec f) t (size-le (a * 2 ^ low f / c) (prec f + t) h))
  where
    spare : (z p t : ℕ) → z ≤ p + t → z - p ≤ t
    spare z p t g = omega arith

-- and the result is at most 2 ^ (prec + t)
pub grid-le : (f : Format) (a c t : ℕ) → a * 2 ^ low f / c < 2 ^ (prec f + t) → grid f a c ≤ 2 ^ (prec f + t)
grid-le f a c t h =
    let n = a * 2 ^ low f in
    let k = drop (prec f) n c in
    let u = c * 2 ^ k in
    let few : kept (prec f) n c ≤ 2 ^ prec f =
    le_trans (nearest-le (n / u) (compare (n % u * 2) u))
    (subst (λ (x : ℕ). x < 2 ^ prec f) (div-div-eq-div-mul n c (2 ^ k)) (kept-lt (prec f) (n / c))) in
    le_trans (mul-le-mul few (ulp_le f a c t h)) (le_of_eq (sym (pow-add 2 (prec f) t)))
