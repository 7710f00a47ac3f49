-- The whole number nearest to a fraction, a half taken up, as the code finds it: twice the fraction cut, one more, by
-- two. Assumes nothing.
use Rattle.std.proofs.Common.{◌≡◌, ℕ, zero, suc, ◌+◌, ◌*◌, ◌/◌, ◌<◌, ◌≤◌, sym, refl, ap, le_trans, le_of_eq, mul-le-mul_right, mod-lt, suc-mul, div-add-mod', arith}
use native.Mathlib.Decide.{dec_lt}
use Rattle.grid.specs.Words.{gap}

-- a product that is nothing, of a factor that is not
pub no_product : (w c : ℕ) → 0 < c → w * c ≡ 0 → w ≡ 0
no_product zero c C h = refl
no_product (suc w) c C h = absurd (omega (arith, suc-mul w c))

-- of A / c
abbrev pub near_up : ℕ → ℕ → ℕ
near_up A c = (2 * A / c + 1) / 2

-- it is at most half above A / c, and less than half below
pub record Beside (A c w : ℕ) : Type 0 where
  pub above : 2 * (w * c) ≤ 2 * A + c
  pub below : 2 * A < 2 * (w * c) + c

pub near_up_lem : (A c : ℕ) → 0 < c → Beside A c (near_up A c)
near_up_lem A c h =
    let k = 2 * A / c in
    let w = (k + 1) / 2 in
    let d = div-add-mod' (2 * A) c in
    let l = mod-lt (2 * A) h in
    let p : (w + w) * c ≤ (k + 1) * c = mul-le-mul_right c (omega arith) in
    let q : k * c ≤ (w + w) * c = mul-le-mul_right c (omega arith) in
    record { above = omega (arith, p, d); below = omega (arith, q, d, l) }

-- where one number is below another, so are their multiples, by c at least
step : (m n c : ℕ) → m < n → m * c + c ≤ n * c
step m n c h = le_trans (le_of_eq (omega (arith, suc-mul m c))) (mul-le-mul_right c h)

-- it is settled by that
beside_one : (A c v w : ℕ) → Beside A c v → Beside A c w → v ≡ w
beside_one A c v w p q = elim (dec_lt v w) [
  | yes l ↦ let g = step v w c l in absurd (omega (arith, p.below, q.above))
  | no i ↦ elim (dec_lt w v) [
    | yes l ↦ let g = step w v c l in absurd (omega (arith, q.below, p.above))
    | no j ↦ omega arith
  ]
]

-- a multiple of c is met exactly
pub near_exact : (n c : ℕ) → 0 < c → near_up (n * c) c ≡ n
near_exact n c h =
    beside_one (n * c) c (near_up (n * c) c) n (near_up_lem (n * c) c h)
    (record { above = omega arith; below = omega arith })

-- no multiple is nearer
pub nearest : (A c w n : ℕ) → Beside A c w → gap A (w * c) ≤ gap A (n * c)
nearest A c w n b = elim (dec_lt n w) [
  | yes l ↦ let g = step n w c l in omega (arith, b.above, b.below)
  | no i ↦ elim (dec_lt w n) [
    | yes l ↦ let g = step w n c l in omega (arith, b.above, b.below)
    | no j ↦ (let e : n ≡ w = omega arith in le_of_eq (ap (λ (z : ℕ). gap A (z * c)) (sym e)))
  ]
]

-- and of two as near it is the larger
pub larger : (A c w n : ℕ) → 0 < c → Beside A c w → gap A (n * c) ≡ gap A (w * c) → n ≤ w
larger A c w n h b e = elim (dec_lt w n) [
  | yes l ↦ let g = step w n c l in absurd (omega (arith, b.above, b.below, e))
  | no i ↦ omega arith
]

-- where the number is less than half a unit beyond n units, what it is moved to is not beyond them
pub not-past : (A c w n : ℕ) → Beside A c w → 2 * A < (2 * n + 1) * c → w ≤ n
not-past A c w n b l = elim (dec_lt n w) [
  | yes m ↦ let g = step n w c m in absurd (omega (arith, b.above, l))
  | no i ↦ omega arith
]
