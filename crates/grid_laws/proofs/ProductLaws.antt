-- What the steps along an edge add up to, in numbers: W steps of 2^-1074 mm are 2^-52 mm, so a grid unit is 2^42 * W of
-- them and a millimetre 2^52 * W. Assumes nothing.
use mathlib.Core.Path.{◌≡◌, refl}
use mathlib.Core.Bool.{Bool, true, false, not}
use Prim.Native.Nat.{ℕ, zero, suc, ◌+◌, ◌-◌, ◌*◌, ◌^◌, ◌≤◌, ◌<◌}
use native.Mathlib.Nat.{le_of_mul-le-mul_right, mul-le-mul_right, mul-lt-mul_of_pos_right, mul-pos, zero-mul}
use native.Mathlib.Omega.{arith}
use lib.Ieee.{unlike}
use Rattle.grid.specs.Words.{gap}
use Rattle.exact.proofs.GridLaws.{size_between}

-- ---- an edge

-- A units between two coordinates are at most twice the length, of l steps
pub covers : (W A R l : ℕ) → A * 2 ^ 30 ≤ R → R * (2 ^ 12 * W) ≤ l + 2 * (2 ^ 12 * W) → A * (2 ^ 42 * W) ≤ 2 * l
covers W zero R l h k = omega (arith, zero-mul (2 ^ 42 * W))
covers W (suc A) R l h k =
    let g : suc A * 2 ^ 30 * (2 ^ 12 * W) ≤ R * (2 ^ 12 * W) = mul-le-mul_right (2 ^ 12 * W) h in
    omega arith

-- ---- how far along it

-- the edge begins at B and ends at a, E is that and a little, D is not beyond E, g is the distance gone
pub gone_under : (W B l a e E D g : ℕ) → 2 * a ≤ 2 * (B + l) + 2 ^ 20 * W → e ≤ 2 ^ 13 * W
    → 2 * E ≤ 2 * (a + e) + 2 ^ 20 * W → D ≤ E → 2 * g ≤ 2 * (D - B) + 2 ^ 15 * W → g ≤ l + 2 ^ 21 * W
gone_under W B l a e E D g h k i j m = omega arith

-- the quotient is below 2^10
pub quotient_room : (W g l L : ℕ) → 0 < W → 0 < L → 2 ^ 12 * W ≤ l → g ≤ l + 2 ^ 21 * W → g * L < 2 ^ 10 * L * l
quotient_room W g l L w p h k =
    let a : g < 2 ^ 10 * l = omega arith in
    let b : g * L < 2 ^ 10 * l * L = mul-lt-mul_of_pos_right a p in
    omega arith

-- ---- the product with a difference of X steps

-- the quotient T is g / l, rounded
scaled : (T l g L h X d : ℕ) → 0 < l → 2 * (T * l) ≤ 2 * (g * L) + h * l → g ≤ l + d → X ≤ 2 * l
    → 2 * (T * X) ≤ 2 * (L * X) + 4 * (d * L) + h * X
scaled T l g L h X d p q k v =
    let a : 2 * (T * l) * X ≤ (2 * (g * L) + h * l) * X = mul-le-mul_right X q in
    let b : g * (L * X) ≤ (l + d) * (L * X) = mul-le-mul_right (L * X) k in
    let c : X * (d * L) ≤ 2 * l * (d * L) = mul-le-mul_right (d * L) v in
    le_of_mul-le-mul_right {k = l} (omega arith) p

pub product : (W T l g L X : ℕ) → 0 < l → 2 * (T * l) ≤ 2 * (g * L) + 2 ^ 9 * W * l → g ≤ l + 2 ^ 21 * W → X ≤ 2 * l
    → X ≤ 2 ^ 14 * L → T * X ≤ (X + 2 ^ 23 * W) * L
product W T l g L X p q k v u =
    let a = scaled T l g L (2 ^ 9 * W) X (2 ^ 21 * W) p q k v in
    let b : X * (2 ^ 9 * W) ≤ 2 ^ 14 * L * (2 ^ 9 * W) = mul-le-mul_right (2 ^ 9 * W) u in
    omega arith

pub product_room : (W T X L : ℕ) → 0 < W → 0 < L → L ≡ 2 ^ 52 * W → X ≤ 2 ^ 14 * L → T * X ≤ (X + 2 ^ 23 * W) * L
    → T * X * L < 2 ^ 67 * W * (L * L)
product_room W T X L w p e u h =
    let a : T * X * L ≤ (X + 2 ^ 23 * W) * L * L = mul-le-mul_right L h in
    let b : X + 2 ^ 23 * W < 2 ^ 67 * W = omega arith in
    let c : (X + 2 ^ 23 * W) * (L * L) < 2 ^ 67 * W * (L * L) = mul-lt-mul_of_pos_right b (mul-pos p p) in
    omega arith

pub product_steps : (W T X L P : ℕ) → 0 < L → T * X ≤ (X + 2 ^ 23 * W) * L
    → 2 * (P * (L * L)) ≤ 2 * (T * X * L) + 2 ^ 14 * W * (L * L) → P ≤ X + 2 ^ 24 * W
product_steps W T X L P p h k =
    let a : T * X * L ≤ (X + 2 ^ 23 * W) * L * L = mul-le-mul_right L h in
    let b : 2 * P ≤ 2 * (X + 2 ^ 23 * W) + 2 ^ 14 * W =
    le_of_mul-le-mul_right {k = L * L} (omega arith) (mul-pos p p) in
    omega arith

-- ---- the coordinate

gap_stays : (W a b A P : ℕ) → a ≤ 2 ^ 23 → b ≤ 2 ^ 23 → A ≤ a + b → P ≤ A * (2 ^ 42 * W) + 2 ^ 24 * W
    → gap P (a * (2 ^ 42 * W)) ≤ 2 ^ 65 * W + 2 ^ 24 * W
gap_stays W a b A P h k l p =
    let i : a * (2 ^ 42 * W) ≤ 2 ^ 23 * (2 ^ 42 * W) = mul-le-mul_right (2 ^ 42 * W) h in
    let j : b * (2 ^ 42 * W) ≤ 2 ^ 23 * (2 ^ 42 * W) = mul-le-mul_right (2 ^ 42 * W) k in
    let m : A * (2 ^ 42 * W) ≤ (a + b) * (2 ^ 42 * W) = mul-le-mul_right (2 ^ 42 * W) l in
    omega arith

sum_stays : (W a b A P : ℕ) → b ≤ 2 ^ 23 → a + A ≤ b → P ≤ A * (2 ^ 42 * W) + 2 ^ 24 * W
    → P + a * (2 ^ 42 * W) ≤ 2 ^ 65 * W + 2 ^ 24 * W
sum_stays W a b A P k l p =
    let j : b * (2 ^ 42 * W) ≤ 2 ^ 23 * (2 ^ 42 * W) = mul-le-mul_right (2 ^ 42 * W) k in
    let m : (a + A) * (2 ^ 42 * W) ≤ b * (2 ^ 42 * W) = mul-le-mul_right (2 ^ 42 * W) l in
    omega arith

none_stays : (W a P : ℕ) → a ≤ 2 ^ 23 → P ≡ 0 → P + a * (2 ^ 42 * W) ≤ 2 ^ 65 * W + 2 ^ 24 * W
none_stays W a P h p =
    let i : a * (2 ^ 42 * W) ≤ 2 ^ 23 * (2 ^ 42 * W) = mul-le-mul_right (2 ^ 42 * W) h in
    omega arith

-- from a, of sign s, by P, of the sign of the way A to b or none: within the reach and 2^24 * W
pub stays : (W : ℕ) (s r o : Bool) (a b A P : ℕ) → a ≤ 2 ^ 23 → b ≤ 2 ^ 23 → A ≤ a + b → (r ≡ s → a + A ≤ b)
    → P ≤ A * (2 ^ 42 * W) + 2 ^ 24 * W → (o ≡ true → P ≡ 0)
    → size_between (not (unlike o r)) P s (a * (2 ^ 42 * W)) ≤ 2 ^ 65 * W + 2 ^ 24 * W
stays W true true true a b A P h k l g p n = gap_stays W a b A P h k l p
stays W false false true a b A P h k l g p n = gap_stays W a b A P h k l p
stays W true false true a b A P h k l g p n = none_stays W a P h (n refl)
stays W false true true a b A P h k l g p n = none_stays W a P h (n refl)
stays W true true false a b A P h k l g p n = sum_stays W a b A P k (g refl) p
stays W false false false a b A P h k l g p n = sum_stays W a b A P k (g refl) p
stays W true false false a b A P h k l g p n = gap_stays W a b A P h k l p
stays W false true false a b A P h k l g p n = gap_stays W a b A P h k l p

-- below the reach and half a grid unit
pub below : (W c Z : ℕ) → 0 < W → Z ≤ 2 ^ 65 * W + 2 ^ 24 * W → 2 * c ≤ 2 * Z + 2 ^ 13 * W
    → 2 * 1024 * c < (2 * (8192 * 1024) + 1) * (2 ^ 52 * W)
below W c Z w h k = omega arith
