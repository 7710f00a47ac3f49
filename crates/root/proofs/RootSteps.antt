-- The rounded root in steps: what `round` makes of `halves`, for a format of p + 1 digits whose smallest value is 2 ^
-- -l. Whole numbers only. Assumes nothing.
use mathlib.Core.Path.{◌≡◌, refl, sym, ap, ◌∙◌, subst}
use Prim.Native.Nat.{ℕ, zero, suc, ◌+◌, ◌*◌, ◌/◌, ◌%◌, ◌^◌, ◌≤◌, ◌<◌, compare}
use native.Mathlib.Nat.{le_trans, le_of_eq, lt_of_lt_of_le, lt_of_le_of_lt, lt_of_not-le, not-le_of_lt, eq-zero-or-pos}
use native.Mathlib.Nat.{zero-mul, mul_assoc, mul-pos, mul-le-mul_right, le_of_mul-le-mul_right, mul-div-mul_right}
use native.Mathlib.Nat.{div-div-eq-div-mul, le-div_iff_mul-le, one-mul}
use native.Mathlib.Omega.{arith}
use mathlib.Core.Logic.{inl, inr}
use lib.Pow.{pow-add, pow_pos, pow_mono}
use lib.Ieee.{size}
use lib.Ieee.Digits.{size-lt, size_reaches}
use lib.Ieee.Nearest.{nearest-ge}
use lib.Ieee.Order.{drop, kept}
use Rattle.root.specs.Whole.{halves}
use Rattle.root.proofs.WholeLaws.{halves-lt_even, halves-le_even, halves_ge_even, even_le-halves}
use Rattle.root.proofs.Rounding.{closest_off}
use Rattle.root.proofs.Middle.{Cut, Short, near_above, near_below}

-- the digits dropped and kept of the root of X steps, and the rounded root in steps
abbrev pub dropped : ℕ → ℕ → ℕ → ℕ
dropped p l X = drop (suc p) (halves (X * 2 ^ l) * 2 ^ l) (2 * 2 ^ l)

abbrev pub digits_kept : ℕ → ℕ → ℕ → ℕ
digits_kept p l X = kept (suc p) (halves (X * 2 ^ l) * 2 ^ l) (2 * 2 ^ l)

abbrev pub root_steps : ℕ → ℕ → ℕ → ℕ
root_steps p l X = digits_kept p l X * 2 ^ dropped p l X

-- ---- the rounding, freed of its scale

scale_low : (c K h L : ℕ) → 0 < L → 2 * (c * (2 * L * K)) ≤ 2 * (h * L) + 2 * L * K → 2 * (c * K) ≤ h + K
scale_low c K h L p q = le_of_mul-le-mul_right {k = 2 * L} (omega arith) (omega arith)

scale_high : (c K h L : ℕ) → 0 < L → 2 * (h * L) ≤ 2 * (c * (2 * L * K)) + 2 * L * K → h ≤ 2 * (c * K) + K
scale_high c K h L p q = le_of_mul-le-mul_right {k = 2 * L} (omega arith) (omega arith)

-- the whole part is half of `halves`
half : (l h : ℕ) → h * 2 ^ l / (2 * 2 ^ l) ≡ h / 2
half l h = mul-div-mul_right h 2 (pow_pos l)

-- the rounded root is within half a unit of its last digit of the exact one, seen through `halves`
pub root_off : (p l X : ℕ)
    → (2 * root_steps p l X ≤ halves (X * 2 ^ l) + 2 ^ dropped p l X) ×
    (halves (X * 2 ^ l) ≤ 2 * root_steps p l X + 2 ^ dropped p l X)
root_off p l X =
    let h = halves (X * 2 ^ l) in
    let k = dropped p l X in
    let o = closest_off (h * 2 ^ l) (2 * 2 ^ l * 2 ^ k)
    (mul-pos (mul-pos {m = 2} (omega arith) (pow_pos l)) (pow_pos k)) in (
      scale_low (digits_kept p l X) (2 ^ k) h (2 ^ l) (pow_pos l) o.0,
      scale_high (digits_kept p l X) (2 ^ k) h
          (2 ^ l) (pow_pos l) o.1,
    )

-- ---- the root of zero is zero

halves-zero : (l : ℕ) → halves (0 * 2 ^ l) ≤ 0
halves-zero l = halves-le_even (0 * 2 ^ l) 0 (le_of_eq (zero-mul (2 ^ l)))

none : (c b : ℕ) → 0 < b → 2 * (c * b) ≤ b → c ≡ 0
none zero b h k = refl
none (suc c) b h k = absurd (not-le_of_lt h (omega arith))

pub root_of_zero : (p l : ℕ) → root_steps p l 0 ≡ 0
root_of_zero p l =
    let k = dropped p l 0 in
    let c = digits_kept p l 0 in
    ap (λ (z : ℕ). z * 2 ^ k) (none c (2 ^ k) (pow_pos k) (omega (arith, root_off p l 0, halves-zero l)))
    ∙ zero-mul (2 ^ k)

-- ---- any other root keeps all its digits and drops some

size_gt : (n j : ℕ) → 2 ^ j ≤ n → j < size n
size_gt n j h = lt_of_not-le (λ (g : size n ≤ j). not-le_of_lt (lt_of_lt_of_le (size-lt n) (pow_mono g)) h)

pub record Kept (p l X : ℕ) : Type 0 where
  pub k : ℕ
  pub one_more : dropped p l X ≡ suc k
  pub cut : Cut p k (digits_kept p l X) (X * 2 ^ l)

long_enough : (p l X : ℕ) → 2 * suc p ≤ l → 0 < X → 2 ^ suc p ≤ halves (X * 2 ^ l) / 2
long_enough p l X h x =
    let s : 2 ^ suc p * 2 ^ suc p ≤ X * 2 ^ l =
    le_trans (le_of_eq (sym (pow-add 2 (suc p) (suc p))))
    (le_trans (pow_mono {i = suc p + suc p} {j = l} (omega arith))
    (le_trans (le_of_eq (sym (one-mul (2 ^ l)))) (mul-le-mul_right (2 ^ l) x))) in
    omega (arith, halves_ge_even (X * 2 ^ l) (2 ^ suc p) s)

pub root_kept : (p l X : ℕ) → 2 * suc p ≤ l → 0 < X → Kept p l X
root_kept p l X h x = go (dropped p l X) refl
  where
    H : ℕ
    H = halves (X * 2 ^ l)

    enough : suc p < size (H * 2 ^ l / (2 * 2 ^ l))
    enough = size_gt (H * 2 ^ l / (2 * 2 ^ l)) (suc p)
        (subst (λ (z : ℕ). 2 ^ suc p ≤ z) (sym (half l H)) (long_enough p l X h x))

    go : (d : ℕ) → dropped p l X ≡ d → Kept p l X
    go zero e = absurd (not-le_of_lt enough (omega arith))
    go (suc k) e =
        let reach : 2 ^ (p + suc k) ≤ H * 2 ^ l / (2 * 2 ^ l) =
        size_reaches (H * 2 ^ l / (2 * 2 ^ l)) (p + suc k) (omega (arith, enough)) in
        let far : 2 ^ p * 2 ^ suc k ≤ H / 2 =
        le_trans (le_of_eq (sym (pow-add 2 p (suc k)))) (subst (λ (z : ℕ). 2 ^ (p + suc k) ≤ z) (half l H) reach) in
        let u = 2 * 2 ^ l * 2 ^ dropped p l X in
        let here : 2 ^ p ≤ H * 2 ^ l / u =
        subst (λ (z : ℕ). 2 ^ p ≤ z) (div-div-eq-div-mul (H * 2 ^ l) (2 * 2 ^ l) (2 ^ dropped p l X))
        ((le-div_iff_mul-le (pow_pos (dropped p l X))).1
        (subst (λ (z : ℕ). 2 ^ p * 2 ^ z ≤ H * 2 ^ l / (2 * 2 ^ l)) (sym e)
        (le_trans (le_of_eq (sym (pow-add 2 p (suc k)))) reach))) in
        record {
          k = k;
          one_more = e;
          cut = record {
            long = le_trans here (nearest-ge (H * 2 ^ l / u) (compare (H * 2 ^ l % u * 2) u));
            least = even_le-halves (X * 2 ^ l) (2 ^ p * 2 ^ suc k) (omega (arith, far));
            high = subst (λ (z : ℕ). H ≤ 2 * (digits_kept p l X * 2 ^ z) + 2 ^ z) e (root_off p l X).1;
            low = subst (λ (z : ℕ). 2 * (digits_kept p l X * 2 ^ z) ≤ H + 2 ^ z) e (root_off p l X).0;
          };
        }

-- ---- no other number of p + 1 digits is as near to the root of X * 2 ^ l

zeros_behind : (p l X : ℕ) → Short p X → Short p (X * 2 ^ l)
zeros_behind p l X s =
    record {
      j = s.j;
      i = s.i + l;
      small = s.small;
      is =
          ap (λ (z : ℕ). z * 2 ^ l) s.is ∙ mul_assoc s.j (2 ^ s.i) (2 ^ l)
          ∙ ap (λ (z : ℕ). s.j * z) (sym (pow-add 2 s.i l));
    }

pub root_near_above : (p l X Y : ℕ) → 2 * suc p ≤ l → Short p X → Short p Y → root_steps p l X < Y
    → 4 * (X * 2 ^ l) < (root_steps p l X + Y) * (root_steps p l X + Y)
root_near_above p l X Y h s y g = elim (eq-zero-or-pos X) [ inl e ↦ at_zero e | inr x ↦ beyond (root_kept p l X h x) ]
  where
    at_zero : X ≡ 0 → 4 * (X * 2 ^ l) < (root_steps p l X + Y) * (root_steps p l X + Y)
    at_zero e =
        let a : X * 2 ^ l ≡ 0 = ap (λ (z : ℕ). z * 2 ^ l) e ∙ zero-mul (2 ^ l) in
        lt_of_le_of_lt (omega arith) (mul-pos {m = root_steps p l X + Y} {n = root_steps p l X + Y} (omega arith)
        (omega arith))

    beyond : Kept p l X → 4 * (X * 2 ^ l) < (root_steps p l X + Y) * (root_steps p l X + Y)
    beyond r =
        subst (λ (d : ℕ). 4 * (X * 2 ^ l) < (digits_kept p l X * 2 ^ d + Y) * (digits_kept p l X * 2 ^ d + Y))
        (sym r.one_more)
        (near_above p r.k (digits_kept p l X) (X * 2 ^ l) Y r.cut (zeros_behind p l X s) y
        (subst (λ (d : ℕ). digits_kept p l X * 2 ^ d < Y) r.one_more g))

pub root_near_below : (p l X Y : ℕ) → 2 * suc p ≤ l → Short p X → Short p Y → Y < root_steps p l X
    → (root_steps p l X + Y) * (root_steps p l X + Y) < 4 * (X * 2 ^ l)
root_near_below p l X Y h s y g = elim (eq-zero-or-pos X) [ inl e ↦ at_zero e | inr x ↦ beyond (root_kept p l X h x) ]
  where
    at_zero : X ≡ 0 → (root_steps p l X + Y) * (root_steps p l X + Y) < 4 * (X * 2 ^ l)
    at_zero e = let r : root_steps p l X ≡ 0 =
        ap (root_steps p l) e ∙ root_of_zero p l in absurd (not-le_of_lt g (le_trans (le_of_eq r) (omega arith)))

    beyond : Kept p l X → (root_steps p l X + Y) * (root_steps p l X + Y) < 4 * (X * 2 ^ l)
    beyond r =
        subst (λ (d : ℕ). (digits_kept p l X * 2 ^ d + Y) * (digits_kept p l X * 2 ^ d + Y) < 4 * (X * 2 ^ l))
        (sym r.one_more)
        (near_below p r.k (digits_kept p l X) (X * 2 ^ l) Y r.cut (zeros_behind p l X s) y
        (subst (λ (d : ℕ). Y < digits_kept p l X * 2 ^ d) r.one_more g))

-- ---- how large the root is before it is rounded

pub root-part_under : (l z X : ℕ) → X * 2 ^ l < 2 ^ z * 2 ^ z → halves (X * 2 ^ l) * 2 ^ l / (2 * 2 ^ l) < 2 ^ z
root-part_under l z X h =
    lt_of_le_of_lt (le_of_eq (half l (halves (X * 2 ^ l)))) (omega (arith, halves-lt_even (X * 2 ^ l) (2 ^ z) h))
