-- Bit patterns of binary64 and the numbers that they stand for, where a leading digit and an exponent are in hand; and
-- the bits of a rounded root. Assumes nothing.
use mathlib.Core.Path.{◌≡◌, refl, sym, ap, ◌∙◌, subst}
use mathlib.Core.Bool.{Bool, false}
use Prim.Native.Nat.{ℕ, zero, suc, ◌+◌, ◌-◌, ◌*◌, ◌/◌, ◌%◌, ◌^◌, ◌≤◌, ◌<◌}
use native.Mathlib.Nat.{le_trans, lt_irrefl, lt_of_lt_of_le, lt_of_le_of_lt, lt_of_not-le, zero-lt-suc, mul_assoc}
use native.Mathlib.Nat.{mul-le-mul_right, mul-lt-mul_of_pos_right, mul_comm, mul_left_comm, mod-eq_of_lt, div-eq_of_lt, pow-succ'}
use native.Mathlib.Omega.{arith}
use lib.Dec.{leb, ltb, lt→ltb}
use lib.Arith.{lt→nleb, digits_div, digits_mod}
use lib.Pow.{pow-add, pow_mono, pow_pos, shl_lt}
use lib.Count.{count_trailing_zeros, under}
use lib.Ieee.{binary64, odd, units, round, of_bits, of_fields}
use lib.Ieee.Bits.{is_true, is_false}
use borrow.Author.Tests.{ne_eqb}
use Rattle.root.specs.Whole.{whole_root, halves}
use Rattle.root.proofs.WholeLaws.{whole_le, square-lt}
use Rattle.root.proofs.HalfUp.{root_54, root_rounds}

-- ---- one digit more to look through changes nothing where there is a set digit below

zeros_more : (d n : ℕ) → 0 < n → n < 2 ^ d → count_trailing_zeros (suc d) n ≡ count_trailing_zeros d n
unfolding count_trailing_zeros
zeros_more zero n p h = absurd (omega arith)
zeros_more (suc d) n p h = go (n % 2) refl (zeros_more d (n / 2))
  where
    go : (r : ℕ) → n % 2 ≡ r → (0 < n / 2 → n / 2 < 2 ^ d → count_trailing_zeros (suc d) (n / 2) ≡ count_trailing_zeros d (n / 2))
        → under r (count_trailing_zeros (suc d) (n / 2)) ≡ under r (count_trailing_zeros d (n / 2))
    go zero e ih =
        ap suc (ih (omega arith) (let x : n < 2 * 2 ^ d = subst (λ (z : ℕ). n < z) (pow-succ' 2 d) h in omega arith))
    go (suc r) e ih = refl

odd_more : (d : ℕ) (s : Bool) (q k l : ℕ) → q < 2 ^ d → odd (suc d) s q k l ≡ odd d s q k l
unfolding odd
odd_more d s zero k l h = refl
odd_more d s (suc q) k l h = rw (zeros_more d (suc q) (zero-lt-suc q) h)

units_odd : (q k : ℕ) → q < 2 ^ 53 → q * 2 ^ k < 2 ^ 2098 → units binary64 false q k ≡ odd 53 false q k 1074
unfolding units
units_odd q k a b =
    rw (is_true (ltb (q * 2 ^ k) (2 ^ 2098)) (lt→ltb (q * 2 ^ k) (2 ^ 2098) b)) (odd_more 53 false q k 1074 a)

-- ---- patterns

pub of_normal : (e g : ℕ) → e < 2046 → g < 2 ^ 52
    → of_bits binary64 (suc e * 2 ^ 52 + g) ≡ odd 53 false (2 ^ 52 + g) e 1074
unfolding of_bits of_fields
of_normal e g a b =
    let n = suc e * 2 ^ 52 + g in
    let t : n < 2 ^ 63 = omega arith in
    rw (
      is_false (leb (2 ^ 63) n) (lt→nleb (2 ^ 63) n t),
      mod-eq_of_lt t,
      digits_div (suc e) b,
      digits_mod (suc e) b,
      ne_eqb (suc e) 2047 (omega arith),
    )

pub of_small : (g : ℕ) → g < 2 ^ 52 → of_bits binary64 g ≡ odd 53 false g 0 1074
unfolding of_bits of_fields
of_small g b =
    let t : g < 2 ^ 63 = omega arith in
    rw (is_false (leb (2 ^ 63) g) (lt→nleb (2 ^ 63) g t), mod-eq_of_lt t, div-eq_of_lt b, mod-eq_of_lt b)

-- ---- the bits of a root

-- a significand of 53 digits, doubled where w is odd
abbrev pub evened : ℕ → ℕ → ℕ
evened f w = (2 ^ 52 + f) * (1 + w % 2)

pub evened_low : (f w : ℕ) → 2 ^ 52 ≤ evened f w
evened_low f w = go (w % 2)
  where
    go : (r : ℕ) → 2 ^ 52 ≤ (2 ^ 52 + f) * (1 + r)
    go r = omega arith

pub evened_high : (f w : ℕ) → f < 2 ^ 52 → evened f w < 2 ^ 54
evened_high f w h = go (w % 2) (omega arith)
  where
    go : (r : ℕ) → r < 2 → (2 ^ 52 + f) * (1 + r) < 2 ^ 54
    go zero k = omega arith
    go (suc zero) k = omega arith
    go (suc (suc r)) k = absurd (omega arith)

-- the root's significand, 53 digits
abbrev pub rooted : ℕ → ℕ → ℕ
rooted f w = (whole_root (evened f w * 2 ^ 54) + 1) / 2

-- no carry to a 54th digit: the largest m is 2^54 - 2, and (2^54 - 1)^2 is above m * 2^54
even_top : (f w : ℕ) → f < 2 ^ 52 → evened f w ≤ 2 ^ 54 - 2
even_top f w h = go (w % 2) (omega arith)
  where
    go : (r : ℕ) → r < 2 → (2 ^ 52 + f) * (1 + r) ≤ 2 ^ 54 - 2
    go zero k = omega arith
    go (suc zero) k = omega arith
    go (suc (suc r)) k = absurd (omega arith)

pub rooted_53 : (f w : ℕ) → f < 2 ^ 52 → (2 ^ 52 ≤ rooted f w) × (rooted f w < 2 ^ 53)
rooted_53 f w h =
    let m = evened f w in
    let s = whole_root (m * 2 ^ 54) in
    let l = root_54 m (evened_low f w) (evened_high f w h) in
    let x : m * 2 ^ 54 < (2 ^ 54 - 1) * (2 ^ 54 - 1) = omega (arith, even_top f w h) in
    let y : s < 2 ^ 54 - 1 = square-lt s (2 ^ 54 - 1) (lt_of_le_of_lt (whole_le (m * 2 ^ 54)) x) in
    (omega arith, omega arith)

two_to : (r : ℕ) → r < 2 → 2 ^ r ≡ 1 + r
two_to zero k = refl
two_to (suc zero) k = refl
two_to (suc (suc r)) k = absurd (omega arith)

-- w is 54 + 2 * j and what is left over
parts : (f j r : ℕ) → r < 2 → (2 ^ 52 + f) * 2 ^ (54 + (j + j) + r) ≡ (2 ^ 52 + f) * (1 + r) * 2 ^ 54 * (2 ^ j * 2 ^ j)
parts f j r k =
    let e : 2 ^ (54 + (j + j) + r) ≡ 2 ^ 54 * (2 ^ j * 2 ^ j) * (1 + r) =
    pow-add 2 (54 + (j + j)) r ∙ ap (λ (x : ℕ). x * 2 ^ r)
    (pow-add 2 54 (j + j) ∙ ap (λ (x : ℕ). 2 ^ 54 * x) (pow-add 2 j j))
    ∙ ap (λ (x : ℕ). 2 ^ 54 * (2 ^ j * 2 ^ j) * x) (two_to r k) in
    ap (λ (x : ℕ). (2 ^ 52 + f) * x) e ∙ simp (mul_assoc, mul_comm, mul_left_comm)

-- what the code computes from f and w are the bits of the rounded root of (2^52 + f) * 2^w, counted as the definition
-- does
pub root_bits_lem : (f w : ℕ) → f < 2 ^ 52 → 54 ≤ w → w < 4000
    → of_bits binary64 ((w - 50) / 2 * 2 ^ 52 + (rooted f w - 2 ^ 52))
    ≡ round binary64 false (halves ((2 ^ 52 + f) * 2 ^ w)) (2 ^ 1075)
root_bits_lem f w h lo hi =
    let j = (w - 54) / 2 in
    let r = w % 2 in
    let t = rooted f w in
    let z = rooted_53 f w h in
    let ew : w ≡ 54 + (j + j) + r = omega arith in
    let ee : (w - 50) / 2 ≡ suc (suc j) = omega arith in
    let et : 2 ^ 52 + (t - 2 ^ 52) ≡ t = omega arith in
    let n : (2 ^ 52 + f) * 2 ^ w ≡ evened f w * 2 ^ 54 * (2 ^ j * 2 ^ j) =
    ap (λ (x : ℕ). (2 ^ 52 + f) * 2 ^ x) ew ∙ parts f j r (omega arith) in
    let big : t * 2 ^ suc j < 2 ^ 2098 =
    lt_of_lt_of_le (shl_lt 53 (suc j) z.1) (pow_mono {i = 53 + suc j} {j = 2098} (omega arith)) in
    ap (λ (x : ℕ). of_bits binary64 (x * 2 ^ 52 + (t - 2 ^ 52))) ee
    ∙ of_normal (suc j) (t - 2 ^ 52) (omega arith) (omega arith)
    ∙ ap (λ (x : ℕ). odd 53 false x (suc j) 1074) et
    ∙ sym (units_odd t (suc j) z.1 big)
    ∙ sym (root_rounds (evened f w) (evened_low f w) (evened_high f w h) j)
    ∙ ap (λ (x : ℕ). round binary64 false (halves x) (2 ^ 1075)) (sym n)

-- ---- moving a leading digit up to its place, 53 digits in all: times 2^up, and 2^(1074 - up) is left

pub few : (d k f : ℕ) → 2 ^ d ≤ f → f < 2 ^ k → d < k
few d k f l h = lt_of_not-le (λ (g : k ≤ d). lt_irrefl f (lt_of_lt_of_le h (le_trans (pow_mono g) l)))

pub lifted : (g d : ℕ) → 2 ^ d ≤ g → g < 2 * 2 ^ d → g < 2 ^ 52
    → (2 ^ 52 ≤ g * 2 ^ (52 - d)) × (g * 2 ^ (52 - d) < 2 ^ 53)
lifted g d l h b =
    let k : d < 52 = few d 52 g l b in
    let n : d + (52 - d) ≡ 52 = omega arith in
    let e : 2 ^ d * 2 ^ (52 - d) ≡ 2 ^ 52 = sym (pow-add 2 d (52 - d)) ∙ ap (λ (x : ℕ). 2 ^ x) n in
    let x : 2 ^ d * 2 ^ (52 - d) ≤ g * 2 ^ (52 - d) = mul-le-mul_right (2 ^ (52 - d)) l in
    let y : g * 2 ^ (52 - d) < 2 * 2 ^ d * 2 ^ (52 - d) = mul-lt-mul_of_pos_right h (pow_pos (52 - d)) in
    (omega arith, omega arith)

pub same_lifted : (g u : ℕ) → u ≤ 1074 → g * 2 ^ u * 2 ^ (1074 - u) ≡ g * 2 ^ 1074
same_lifted g u h =
    let n : u + (1074 - u) ≡ 1074 = omega arith in
    mul_assoc g (2 ^ u) (2 ^ (1074 - u))
    ∙ ap (λ (x : ℕ). g * x) (sym (pow-add 2 u (1074 - u)) ∙ ap (λ (x : ℕ). 2 ^ x) n)
