-- What the definition of the root comes to for each kind of bit pattern. Assumes nothing.
use Rattle.std.specs.Prelude.{Err, Ok}
use mathlib.Core.Path.{◌≡◌, refl, sym, ap, ◌∙◌, subst}
use mathlib.Core.Bool.{Bool, true, false, not, cond, true≢false}
use Prim.Native.Nat.{ℕ, zero, suc, ◌+◌, ◌-◌, ◌*◌, ◌/◌, ◌%◌, ◌^◌, ◌≤◌, ◌<◌}
use native.Mathlib.Nat.{mul_assoc, mul-one, mul-pos, mul-div_cancel, mod-eq_of_lt, eq-zero-or-pos, eq-or-lt_of_le}
use native.Mathlib.Nat.{zero-mul}
use native.Mathlib.Omega.{arith}
use mathlib.Core.Logic.{◌⊎◌, inl, inr}
use lib.IntN.{pos}
use lib.Dec.{T, leb, ltb, eqb, lt→ltb, leb→le, nleb→lt, not_T}
use lib.Arith.{le→nltb}
use lib.Pow.{pow-add, pow_pos}
use lib.Ieee.{Float, nan, inf, fin, binary64, up, down, odd, round, of_bits, of_fields, ne, is_nan, nan_bits, fits, div}
use lib.Ieee.Exact.{HasValue, odd_sign}
use lib.Ieee.Fits.{down_pos}
use lib.Ieee.Bits.{is_true, of_bits-fits, nan_bits_above}
use lib.Ieee.Compare.{differs_from_itself}
use borrow.Author.Tests.{ne_eqb}
use Rattle.root.specs.Whole.{halves}
use Rattle.root.specs.Root.{steps, root_finite, sqrt_of, root_of, no_root}
use Rattle.root.specs.Steps.{has_root}
use Rattle.root.proofs.Patterns.{of_normal, of_small}
use Rattle.root.proofs.RootLaws.{plus_real, root_real, root-zero, root_given, root-refused}

-- ---- a number by its value in steps

of_value : (x : Float) (a : ℕ) → HasValue x false a (2 ^ 1074)
    → sqrt_of x ≡ round binary64 false (halves (a * 2 ^ 1074)) (2 ^ 1075)
unfolding sqrt_of root_finite
of_value nan a v = absurd v
of_value (inf s) a v = absurd v
of_value (fin true m e) a v = absurd (true≢false v.0)
of_value (fin false m e) a v =
    let s : steps m e ≡ a = ap (λ (n : ℕ). n / down e) v.1 ∙ mul-div_cancel a (down_pos e) in
    ap (λ (n : ℕ). round binary64 false (halves (n * 2 ^ 1074)) (2 ^ 1075)) s

pub below_zero : (x : Float) (a c : ℕ) → 0 < a → HasValue x true a c → sqrt_of x ≡ nan
unfolding sqrt_of
below_zero nan a c p v = absurd v
below_zero (inf s) a c p v = absurd v
below_zero (fin false m e) a c p v = absurd (true≢false (sym v.0))
below_zero (fin true m e) a c p v =
    elim (eq-zero-or-pos m) [ inl z ↦ absurd (none z) | inr q ↦ rw (is_true (ltb 0 m) (lt→ltb 0 m q)) ]
  where
    none : m ≡ 0 → ⊥
    none z =
        let q : 0 < a * down e = mul-pos p (down_pos e) in
        let w : m * up e * c ≡ 0 =
        ap (λ (n : ℕ). n * up e * c) z ∙ ap (λ (n : ℕ). n * c) (zero-mul (up e)) ∙ zero-mul c in
        let r = v.1 in
        omega arith

-- ---- positive numbers

pub sqrt_normal : (e g : ℕ) → e < 2046 → g < 2 ^ 52
    → sqrt_of (of_bits binary64 (suc e * 2 ^ 52 + g))
    ≡ round binary64 false (halves ((2 ^ 52 + g) * 2 ^ (e + 1074))) (2 ^ 1075)
sqrt_normal e g a b =
    ap sqrt_of (of_normal e g a b)
    ∙ of_value (odd 53 false (2 ^ 52 + g) e 1074) ((2 ^ 52 + g) * 2 ^ e) (odd_sign 53 false (2 ^ 52 + g) e 1074)
    ∙ ap (λ (n : ℕ). round binary64 false (halves n) (2 ^ 1075))
    (mul_assoc (2 ^ 52 + g) (2 ^ e) (2 ^ 1074) ∙ ap (λ (n : ℕ). (2 ^ 52 + g) * n) (sym (pow-add 2 e 1074)))

-- by the number's bits, as the code takes them apart
pub sqrt_bits : (b : ℕ) → (b / 2 ^ 52 ≡ 0 → ⊥) → b / 2 ^ 52 < 2047
    → round binary64 false (halves ((2 ^ 52 + b % 2 ^ 52) * 2 ^ (b / 2 ^ 52 + 1073))) (2 ^ 1075)
    ≡ sqrt_of (of_bits binary64 b)
sqrt_bits b n h =
    let e = b / 2 ^ 52 - 1 in
    let g = b % 2 ^ 52 in
    let i : suc e * 2 ^ 52 + g ≡ b = omega arith in
    let w : b / 2 ^ 52 + 1073 ≡ e + 1074 = omega arith in
    ap (λ (z : ℕ). round binary64 false (halves ((2 ^ 52 + g) * 2 ^ z)) (2 ^ 1075)) w
    ∙ sym (sqrt_normal e g (omega arith) (omega arith)) ∙ ap (λ (z : ℕ). sqrt_of (of_bits binary64 z)) i

pub sqrt_small : (g : ℕ) → g < 2 ^ 52
    → sqrt_of (of_bits binary64 g) ≡ round binary64 false (halves (g * 2 ^ 1074)) (2 ^ 1075)
sqrt_small g b =
    ap sqrt_of (of_small g b)
    ∙ of_value (odd 53 false g 0 1074) (g * 1) (odd_sign 53 false g 0 1074)
    ∙ ap (λ (n : ℕ). round binary64 false (halves (n * 2 ^ 1074)) (2 ^ 1075)) (mul-one g)

-- ---- the zeros and infinity are their own roots

pub sqrt-zero : sqrt_of (of_bits binary64 0) ≡ of_bits binary64 0
unfolding of_bits of_fields odd
sqrt-zero = root-zero false

pub sqrt_minus_zero : sqrt_of (of_bits binary64 (2 ^ 63)) ≡ of_bits binary64 (2 ^ 63)
unfolding of_bits of_fields odd
sqrt_minus_zero = root-zero true

pub sqrt_infinity : sqrt_of (of_bits binary64 (2047 * 2 ^ 52)) ≡ of_bits binary64 (2047 * 2 ^ 52)
unfolding sqrt_of of_bits of_fields
sqrt_infinity = refl

pub own_root : (x : Float) (n : ℕ) {b : ℕ} → x ≡ of_bits binary64 b → b ≡ n
    → sqrt_of (of_bits binary64 n) ≡ of_bits binary64 n → x ≡ sqrt_of x
own_root x n e q h =
    let z : x ≡ of_bits binary64 n = e ∙ ap (of_bits binary64) q in
    z ∙ sym h ∙ ap sqrt_of (sym z)

-- ---- any other pattern above infinity's is a negative number's or none's, and has no root

negative_fields : (x t : ℕ) → (x ≡ 0 → 0 < t) → sqrt_of (of_fields binary64 true x t) ≡ nan
unfolding of_fields sqrt_of
negative_fields zero t h =
    below_zero (odd 53 true t 0 1074) (t * 1) (2 ^ 1074) (omega (arith, h refl)) (odd_sign 53 true t 0 1074)
negative_fields (suc x) t h = go (eqb (suc x) 2047) (eqb t 0)
  where
    go : (a b : Bool) → sqrt_of (cond a (cond b (inf true) nan) (odd 53 true (2 ^ 52 + t) x 1074)) ≡ nan
    go true true = refl
    go true false = refl
    go false b =
        below_zero (odd 53 true (2 ^ 52 + t) x 1074) ((2 ^ 52 + t) * 2 ^ x) (2 ^ 1074)
        (mul-pos (omega arith) (pow_pos x)) (odd_sign 53 true (2 ^ 52 + t) x 1074)

none_fields : (t : ℕ) → 0 < t → sqrt_of (of_fields binary64 false 2047 t) ≡ nan
unfolding of_fields sqrt_of
none_fields t h = rw (ne_eqb t 0 (omega arith))

pub sqrt-none : (b : ℕ) → 2047 * 2 ^ 52 < b → b < 2 ^ 64 → (b ≡ 2 ^ 63 → ⊥) → sqrt_of (of_bits binary64 b) ≡ nan
unfolding of_bits
sqrt-none b h k n = go (leb (2 ^ 63) b) (leb→le (2 ^ 63) b) (nleb→lt (2 ^ 63) b)
  where
    none_left : b < 2 ^ 63 → sqrt_of (of_fields binary64 false (b % 2 ^ 63 / 2 ^ 52) (b % 2 ^ 52)) ≡ nan
    none_left l =
        let q : b / 2 ^ 52 ≡ 2047 = omega arith in
        rw (mod-eq_of_lt l, q) (none_fields (b % 2 ^ 52) (omega arith))

    go : (s : Bool) → (T s → 2 ^ 63 ≤ b) → (T (not s) → b < 2 ^ 63)
        → sqrt_of (of_fields binary64 s (b % 2 ^ 63 / 2 ^ 52) (b % 2 ^ 52)) ≡ nan
    go true y z =
        let l = y tt in
        negative_fields (b % 2 ^ 63 / 2 ^ 52) (b % 2 ^ 52)
        (λ (q : b % 2 ^ 63 / 2 ^ 52 ≡ 0). positive l q (eq-zero-or-pos (b % 2 ^ 52)))
      where
        positive : 2 ^ 63 ≤ b → b % 2 ^ 63 / 2 ^ 52 ≡ 0 → (b % 2 ^ 52 ≡ 0) ⊎ (0 < b % 2 ^ 52) → 0 < b % 2 ^ 52
        positive l q (inl z) = absurd (n (omega arith))
        positive l q (inr p) = p
    go false y z = none_left (z tt)

-- what the code divides to say so
pub zero_by_zero : div binary64 (of_bits binary64 0) (of_bits binary64 0) ≡ nan
unfolding div of_bits of_fields odd
zero_by_zero = refl

-- ---- what tests in the code say

pub nan_own : (x : Float) → true ≡ is_nan x → x ≡ sqrt_of x
unfolding sqrt_of is_nan
nan_own nan t = refl
nan_own (inf s) t = absurd (true≢false t)
nan_own (fin s m e) t = absurd (true≢false t)

pub no_nan : (x : Float) → ne x x ≡ false → T (not (is_nan x))
unfolding ne is_nan
no_nan nan t = absurd (true≢false t)
no_nan (inf s) t = tt
no_nan (fin s m e) t = tt

pub finite_pattern : (b : ℕ) → b < 2047 * 2 ^ 52 → T (not (nan_bits binary64 b))
finite_pattern b h = rw (nan_bits_above binary64 b) (le→nltb (2047 * 2 ^ 52) (b % 2 ^ 63) (omega arith))

-- ---- the root for whoever asks

pub nan-told : (x : Float) → ne x x ≡ true → Err no_root ≡ root_of x
nan-told x t = rw (differs_from_itself x (subst T (sym t) tt)) (sym (root-refused nan tt))

pub minus_zero-told : root_of (of_bits binary64 (2 ^ 63)) ≡ Ok (of_bits binary64 (2 ^ 63))
unfolding of_bits of_fields odd
minus_zero-told = root_given (fin true 0 (pos 0)) tt ∙ ap Ok (root-zero true)

infinity_told : root_of (of_bits binary64 (2047 * 2 ^ 52)) ≡ Err no_root
unfolding of_bits of_fields
infinity_told = root-refused (inf false) tt

-- a root that is given is a number
no_root_lem : (x : Float) → T (fits binary64 x) → sqrt_of x ≡ nan → root_of x ≡ Err no_root
no_root_lem x t q =
    root-refused x (not_T (has_root x) (λ h. subst (λ (z : Float). T (has_root z)) q (root_real x t h)))

pub none_told : (b : ℕ) → 2047 * 2 ^ 52 ≤ b → b < 2 ^ 64 → (b ≡ 2 ^ 63 → ⊥)
    → root_of (of_bits binary64 b) ≡ Err no_root
none_told b h k n = elim (eq-or-lt_of_le h) [
  | inl e ↦ subst (λ (z : ℕ). root_of (of_bits binary64 z) ≡ Err no_root) e infinity_told
  | inr l ↦ no_root_lem (of_bits binary64 b) (of_bits-fits binary64 b) (sqrt-none b l k n)
]

value_told : (d q k : ℕ) → root_of (odd d false q k 1074) ≡ Ok (sqrt_of (odd d false q k 1074))
value_told d q k =
    let x = odd d false q k 1074 in
    root_given x (plus_real x (q * 2 ^ k) (2 ^ 1074) (odd_sign d false q k 1074))

pub root_told : (b : ℕ) → b < 2047 * 2 ^ 52 → root_of (of_bits binary64 b) ≡ Ok (sqrt_of (of_bits binary64 b))
root_told b h = go (b / 2 ^ 52) refl
  where
    go : (e : ℕ) → b / 2 ^ 52 ≡ e → root_of (of_bits binary64 b) ≡ Ok (sqrt_of (of_bits binary64 b))
    go zero q =
        let s : b < 2 ^ 52 = omega arith in
        rw (of_small b s) (value_told 53 b 0)
    go (suc e) q =
        let g = b % 2 ^ 52 in
        let i : suc e * 2 ^ 52 + g ≡ b = omega arith in
        rw (← i, of_normal e g (omega arith) (omega arith)) (value_told 53 (2 ^ 52 + g) e)
