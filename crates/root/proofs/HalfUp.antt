-- How the root is rounded: of a number m of 53 or 54 binary digits, scaled by any even power of two, the root rounds to
-- the whole root of m * 2^54, halved upwards. There are no ties: a root that ended in a half would have an odd square.
-- Assumes nothing.
use mathlib.Core.Path.{◌≡◌, refl, sym, ap, ◌∙◌, subst}
use mathlib.Core.Bool.{Bool, true, false, not, cond}
use Prim.Native.Nat.{ℕ, zero, suc, ◌+◌, ◌-◌, ◌*◌, ◌/◌, ◌%◌, ◌^◌, ◌≤◌, ◌<◌, compare, Ordering}
use native.Mathlib.Nat.{le_trans, le_of_lt, le_antisymm, lt_irrefl, lt_of_lt_of_le, lt_of_le_of_lt, lt_of_not-le}
use native.Mathlib.Nat.{mul-le-mul_right, mul-lt-mul_of_pos_right, mul-pos, mul_assoc, pow-succ', div-add-mod'}
use native.Mathlib.Nat.{div-eq_of_lt-le}
use native.Mathlib.Omega.{arith}
use lib.Dec.{T, is_le, compare_is_eq, le→leb, eqb→eq, eqb, lit<}
use lib.Arith.{lt→nleb}
use lib.Pow.{pow_pos, pow_mono, pow-add}
use lib.Ieee.{binary64, size, round, units}
use lib.Ieee.Digits.{size-lt, size-le}
use lib.Ieee.Fits.{core, round_is}
use lib.Ieee.Nearest.{closest, closest_same, div_same}
use Rattle.root.specs.Whole.{whole_root, halves}
use Rattle.root.proofs.WholeLaws.{whole_le, whole_lt, square-lt, halves_ge_even, halves_gt_even, halves-lt_even}

-- ---- a fraction's nearest whole number, away from a tie

compare-lt : (a b : ℕ) → a < b → compare a b ≡ Ordering.lt
compare-lt a b h = go (compare a b) (le→leb a b (le_of_lt h)) (eqb→eq a b)
  where
    go : (o : Ordering) → T (is_le o) → (T (compare_is_eq o) → a ≡ b) → o ≡ Ordering.lt
    go Ordering.lt t e = refl
    go Ordering.eq t e = let q : a ≡ b = e tt in absurd (omega arith)
    go Ordering.gt t e = absurd t

compare_gt : (a b : ℕ) → b < a → compare a b ≡ Ordering.gt
compare_gt a b h = go (compare a b) (lt→nleb a b h)
  where
    go : (o : Ordering) → T (not (is_le o)) → o ≡ Ordering.gt
    go Ordering.lt t = absurd t
    go Ordering.eq t = absurd t
    go Ordering.gt t = refl

closest_down : (t h u : ℕ) → t * u ≤ h → 2 * h < (2 * t + 1) * u → closest h u ≡ t
closest_down t h u a b =
    let q : h / u ≡ t = div-eq_of_lt-le u a (omega arith) in
    let e : t * u + h % u ≡ h = subst (λ (x : ℕ). x * u + h % u ≡ h) q (div-add-mod' h u) in
    rw (q, compare-lt (h % u * 2) u (omega arith))

closest_up : (t h u : ℕ) → (2 * t + 1) * u < 2 * h → h < (t + 1) * u → closest h u ≡ suc t
closest_up t h u a b =
    let q : h / u ≡ t = div-eq_of_lt-le u (omega arith) b in
    let e : t * u + h % u ≡ h = subst (λ (x : ℕ). x * u + h % u ≡ h) q (div-add-mod' h u) in
    rw (q, compare_gt (h % u * 2) u (omega arith))

-- ---- a number's digits

size_is : (w d : ℕ) → 2 ^ d ≤ w → w < 2 ^ suc d → size w ≡ suc d
size_is w d l h =
    le_antisymm (size-le w (suc d) h) (lt_of_not-le
    (λ (g : size w ≤ d). lt_irrefl w (lt_of_lt_of_le (size-lt w) (le_trans (pow_mono g) l))))

halves_half : (n : ℕ) → halves n / 2 ≡ whole_root n
unfolding halves
halves_half n = go (eqb (whole_root n * whole_root n) n)
  where
    go : (b : Bool) → (2 * whole_root n + cond b 0 1) / 2 ≡ whole_root n
    go true = omega arith
    go false = omega arith

-- ---- the root s of m * 2^54, and that of m * 2^54 * p * p between s * p and (s + 1) * p

module _ (m : ℕ) (low : 2 ^ 52 ≤ m) (high : m < 2 ^ 54) where
  pub root_54 : (2 ^ 53 ≤ whole_root (m * 2 ^ 54)) × (whole_root (m * 2 ^ 54) < 2 ^ 54)
  root_54 =
      let s = whole_root (m * 2 ^ 54) in
      let l : 2 ^ 53 < s + 1 =
      square-lt (2 ^ 53) (s + 1) (lt_of_le_of_lt (mul-le-mul_right (2 ^ 54) low) (whole_lt (m * 2 ^ 54))) in (
        omega arith,
        square-lt s (2 ^ 54) (lt_of_le_of_lt (whole_le (m * 2 ^ 54))
            (mul-lt-mul_of_pos_right high (lit< tt))),
      )

  module _ (p : ℕ) (pos : 0 < p) where
    scaled_le : (whole_root (m * 2 ^ 54) * p) * (whole_root (m * 2 ^ 54) * p) ≤ m * 2 ^ 54 * (p * p)
    scaled_le =
        let s = whole_root (m * 2 ^ 54) in
        let x : s * s * (p * p) ≤ m * 2 ^ 54 * (p * p) = mul-le-mul_right (p * p) (whole_le (m * 2 ^ 54)) in
        omega arith

    scaled_lt : m * 2 ^ 54 * (p * p) < ((whole_root (m * 2 ^ 54) + 1) * p) * ((whole_root (m * 2 ^ 54) + 1) * p)
    scaled_lt =
        let s = whole_root (m * 2 ^ 54) in
        let x : m * 2 ^ 54 * (p * p) < (s + 1) * (s + 1) * (p * p) =
        mul-lt-mul_of_pos_right (whole_lt (m * 2 ^ 54)) (mul-pos pos pos) in
        omega arith

    -- an odd root is never exact
    scaled_ne : whole_root (m * 2 ^ 54) % 2 ≡ 1
        → (whole_root (m * 2 ^ 54) * p) * (whole_root (m * 2 ^ 54) * p) < m * 2 ^ 54 * (p * p)
    scaled_ne o =
        let s = whole_root (m * 2 ^ 54) in
        let r = s / 2 in
        let e : s ≡ 2 * r + 1 = omega arith in
        let q : s * s ≡ (2 * r + 1) * (2 * r + 1) = ap (λ (x : ℕ). x * x) e in
        let n : s * s < m * 2 ^ 54 = omega (arith, whole_le (m * 2 ^ 54)) in
        let x : s * s * (p * p) < m * 2 ^ 54 * (p * p) = mul-lt-mul_of_pos_right n (mul-pos pos pos) in
        omega arith

    whole_from : whole_root (m * 2 ^ 54) * p ≤ whole_root (m * 2 ^ 54 * (p * p))
    whole_from =
        let n = m * 2 ^ 54 * (p * p) in
        let x : whole_root (m * 2 ^ 54) * p < whole_root n + 1 =
        square-lt _ (whole_root n + 1) (lt_of_le_of_lt scaled_le (whole_lt n)) in
        omega arith

    whole_to : whole_root (m * 2 ^ 54 * (p * p)) < (whole_root (m * 2 ^ 54) + 1) * p
    whole_to =
        let n = m * 2 ^ 54 * (p * p) in
        square-lt (whole_root n) _ (lt_of_le_of_lt (whole_le n) scaled_lt)

    -- halved upwards, in units of 4 * p
    halved_up : closest (halves (m * 2 ^ 54 * (p * p))) (2 * (2 * p)) ≡ (whole_root (m * 2 ^ 54) + 1) / 2
    halved_up =
        let s = whole_root (m * 2 ^ 54) in
        go (s % 2) refl
      where
        go : (r : ℕ) → whole_root (m * 2 ^ 54) % 2 ≡ r
            → closest (halves (m * 2 ^ 54 * (p * p))) (2 * (2 * p)) ≡ (whole_root (m * 2 ^ 54) + 1) / 2
        go zero z =
            let s = whole_root (m * 2 ^ 54) in
            let n = m * 2 ^ 54 * (p * p) in
            let t = s / 2 in
            let e : 2 * t ≡ s = omega arith in
            let f : 2 * t * p ≡ s * p = ap (λ (x : ℕ). x * p) e in
            let a = halves_ge_even n (s * p) scaled_le in
            let b = halves-lt_even n ((s + 1) * p) scaled_lt in
            let i : t ≡ (s + 1) / 2 = omega arith in
            closest_down t (halves n) (2 * (2 * p)) (omega arith) (omega arith) ∙ i
        go (suc r) z =
            let s = whole_root (m * 2 ^ 54) in
            let n = m * 2 ^ 54 * (p * p) in
            let t = s / 2 in
            let e : 2 * t + 1 ≡ s = omega arith in
            let f : (2 * t + 1) * p ≡ s * p = ap (λ (x : ℕ). x * p) e in
            let a = halves_gt_even n (s * p) (scaled_ne (omega arith)) in
            let b = halves-lt_even n ((s + 1) * p) scaled_lt in
            let i : suc t ≡ (s + 1) / 2 = omega arith in
            closest_up t (halves n) (2 * (2 * p)) (omega arith) (omega arith) ∙ i

  module _ (j : ℕ) where
    size_53 : size (whole_root (m * 2 ^ 54 * (2 ^ j * 2 ^ j))) ≡ suc (53 + j)
    size_53 =
        let s = whole_root (m * 2 ^ 54) in
        let l : 2 ^ (53 + j) ≤ s * 2 ^ j =
        subst (λ (x : ℕ). x ≤ s * 2 ^ j) (sym (pow-add 2 53 j)) (mul-le-mul_right (2 ^ j) root_54.0) in
        let h : (s + 1) * 2 ^ j ≤ 2 ^ (54 + j) =
        subst (λ (x : ℕ). (s + 1) * 2 ^ j ≤ x) (sym (pow-add 2 54 j))
        (mul-le-mul_right (2 ^ j) (omega (arith, root_54))) in
        size_is (whole_root (m * 2 ^ 54 * (2 ^ j * 2 ^ j))) (53 + j) (le_trans l (whole_from (2 ^ j) (pow_pos j)))
        (subst (λ (x : ℕ). whole_root (m * 2 ^ 54 * (2 ^ j * 2 ^ j)) < 2 ^ x)
        (let e : 54 + j ≡ suc (53 + j) = omega arith in e) (lt_of_lt_of_le (whole_to (2 ^ j) (pow_pos j)) h))

    -- the root of m * 2^54 * 2^j * 2^j half steps, rounded
    pub root_rounds : round binary64 false (halves (m * 2 ^ 54 * (2 ^ j * 2 ^ j))) (2 ^ 1075)
        ≡ units binary64 false ((whole_root (m * 2 ^ 54) + 1) / 2) (suc j)
    root_rounds =
        let n = m * 2 ^ 54 * (2 ^ j * 2 ^ j) in
        let h = halves n in
        let d : h * 2 ^ 1074 / 2 ^ 1075 ≡ whole_root n =
        div_same (h * 2 ^ 1074) (2 ^ 1075) h 2 (pow_pos 1075) (lit< tt) (mul_assoc h (2 ^ 1074) 2)
        ∙ halves_half n in
        let k : size (h * 2 ^ 1074 / 2 ^ 1075) - 53 ≡ suc j =
        ap (λ (x : ℕ). size x - 53) d ∙ ap (λ (x : ℕ). x - 53) size_53
        ∙ (let e : suc (53 + j) - 53 ≡ suc j = omega arith in e) in
        let c : closest (h * 2 ^ 1074) (2 ^ 1075 * 2 ^ suc j) ≡ closest h (2 * 2 ^ suc j) =
        closest_same (h * 2 ^ 1074) (2 ^ 1075 * 2 ^ suc j) h (2 * 2 ^ suc j)
        (mul-pos (pow_pos 1075) (pow_pos (suc j))) (mul-pos (lit< tt) (pow_pos (suc j)))
        (mul_assoc h (2 ^ 1074) (2 * 2 ^ suc j) ∙ ap (λ (x : ℕ). h * x) (sym (mul_assoc (2 ^ 1074) 2 (2 ^ suc j)))) in
        let u : closest h (2 * 2 ^ suc j) ≡ (whole_root (m * 2 ^ 54) + 1) / 2 =
        ap (λ (x : ℕ). closest h (2 * x)) (pow-succ' 2 j) ∙ halved_up (2 ^ j) (pow_pos j) in
        round_is binary64 false h (2 ^ 1075)
        ∙ ap (λ (x : ℕ). core binary64 false (h * 2 ^ 1074) (2 ^ 1075) x) k
        ∙ ap (λ (x : ℕ). units binary64 false x (suc j)) (c ∙ u)
