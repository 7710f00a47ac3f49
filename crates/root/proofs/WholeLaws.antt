-- What `whole_root` and `halves` are: the largest whole number whose square fits, and twice the root as a rounding needs
-- to see it. Assumes nothing.
use mathlib.Core.Path.{◌≡◌, refl, sym, subst}
use mathlib.Core.Bool.{Bool, true, false, not, cond}
use Prim.Native.Nat.{ℕ, zero, suc, ◌+◌, ◌*◌, ◌/◌, ◌^◌, ◌≤◌, ◌<◌}
use native.Mathlib.Nat.{le_antisymm, lt_of_lt_of_le, lt_of_not-le, not-le_of_lt, pow-suc, pow-le-pow_left, mul-le-mul}
use native.Mathlib.Omega.{arith}
use lib.Dec.{T, leb, eqb, lit≤, leb→le, nleb→lt, eqb→eq, eqb_refl}
use lib.Arith.{lt_of_le-ne}
use lib.Ieee.{size}
use lib.Ieee.Digits.{size-lt}
use Rattle.root.specs.Whole.{last_digit, digits, whole_root, halves}

-- r is the whole part of n's root
pub record RootPart (n r : ℕ) : Type 0 where
  pub fits : r * r ≤ n
  pub largest : n < (r + 1) * (r + 1)

-- ---- digit by digit

next_digit : (n r : ℕ) → RootPart (n / 4) r → RootPart n (last_digit n r)
next_digit n r h =
    go (leb ((2 * r + 1) * (2 * r + 1)) n) (leb→le ((2 * r + 1) * (2 * r + 1)) n)
    (nleb→lt ((2 * r + 1) * (2 * r + 1)) n)
  where
    go : (b : Bool) → (T b → (2 * r + 1) * (2 * r + 1) ≤ n) → (T (not b) → n < (2 * r + 1) * (2 * r + 1))
        → RootPart n (cond b (2 * r + 1) (2 * r))
    go true y k = record { fits = y tt; largest = omega (arith, h.largest) }
    go false y k = record { fits = omega (arith, h.fits); largest = k tt }

digits-part : (d n : ℕ) → n < 4 ^ d → RootPart n (digits d n)
unfolding digits
digits-part zero n h = record { fits = omega arith; largest = omega arith }
digits-part (suc d) n h =
    let e = pow-suc 4 d in
    next_digit n (digits d (n / 4)) (digits-part d (n / 4) (omega arith))

pub whole_part : (n : ℕ) → RootPart n (whole_root n)
unfolding whole_root
whole_part n = digits-part (size n) n (lt_of_lt_of_le (size-lt n) (pow-le-pow_left (lit≤ tt) (size n)))

-- ---- the whole part of the root

pub whole_le : (n : ℕ) → whole_root n * whole_root n ≤ n
whole_le n = (whole_part n).fits

pub whole_lt : (n : ℕ) → n < (whole_root n + 1) * (whole_root n + 1)
whole_lt n = (whole_part n).largest

-- of two numbers the one with the smaller square is the smaller
pub square-lt : (a b : ℕ) → a * a < b * b → a < b
square-lt a b h = lt_of_not-le (λ (g : b ≤ a). not-le_of_lt h (mul-le-mul g g))

pub square_le : (a b : ℕ) → a * a ≤ b * b → a ≤ b
square_le a b h = omega (arith, square-lt a (b + 1) (omega arith))

part_mono : (n m r s : ℕ) → RootPart n r → RootPart m s → n ≤ m → r ≤ s
part_mono n m r s p q h = omega (arith, square-lt r (s + 1) (omega (arith, p.fits, q.largest)))

pub whole_unique : (n r : ℕ) → r * r ≤ n → n < (r + 1) * (r + 1) → whole_root n ≡ r
whole_unique n r f l =
    let p : RootPart n r = record { fits = f; largest = l } in
    le_antisymm (part_mono n n (whole_root n) r (whole_part n) p (omega arith))
    (part_mono n n r (whole_root n) p (whole_part n) (omega arith))

pub whole_mono : (n m : ℕ) → n ≤ m → whole_root n ≤ whole_root m
whole_mono n m h = part_mono n m (whole_root n) (whole_root m) (whole_part n) (whole_part m) h

-- ---- twice the root, odd where it goes on: against even numbers, which is all that a rounding asks, it stands as
-- twice the exact root does

-- with the whole part r in hand
pub halves-at : (n r : ℕ) → r * r ≤ n → n < (r + 1) * (r + 1) → halves n ≡ 2 * r + cond (eqb (r * r) n) 0 1
unfolding halves
halves-at n r f l = rw (whole_unique n r f l)

-- the two cases: a whole root, and one that goes on
pub data Halved (n h : ℕ) : Type 0 where
  whole : (r : ℕ) → r * r ≡ n → h ≡ 2 * r → Halved n h
  beyond : (r : ℕ) → r * r < n → n < (r + 1) * (r + 1) → h ≡ 2 * r + 1 → Halved n h

pub halved : (n : ℕ) → Halved n (halves n)
unfolding halves
halved n =
    let r = whole_root n in
    go (eqb (r * r) n) (eqb→eq (r * r) n) (λ (e : r * r ≡ n). subst (λ (z : ℕ). T (eqb (r * r) z)) e (eqb_refl (r * r)))
  where
    go : (b : Bool) → (T b → whole_root n * whole_root n ≡ n) → (whole_root n * whole_root n ≡ n → T b)
        → Halved n (2 * whole_root n + cond b 0 1)
    go true y z = whole (whole_root n) (y tt) (omega arith)
    go false y z = beyond (whole_root n) (lt_of_le-ne (whole_le n) z) (whole_lt n) refl

pub halves-lt_even : (n a : ℕ) → n < a * a → halves n < 2 * a
halves-lt_even n a h = go (halved n)
  where
    go : Halved n (halves n) → halves n < 2 * a
    go (whole r e q) = omega (arith, square-lt r a (omega arith))
    go (beyond r f l q) = omega (arith, square-lt r a (omega arith))

pub halves-le_even : (n a : ℕ) → n ≤ a * a → halves n ≤ 2 * a
halves-le_even n a h = go (halved n)
  where
    go : Halved n (halves n) → halves n ≤ 2 * a
    go (whole r e q) = omega (arith, square_le r a (omega arith))
    go (beyond r f l q) = omega (arith, square-lt r a (omega arith))

pub halves_gt_even : (n a : ℕ) → a * a < n → 2 * a < halves n
halves_gt_even n a h = go (halved n)
  where
    go : Halved n (halves n) → 2 * a < halves n
    go (whole r e q) = omega (arith, square-lt a r (omega arith))
    go (beyond r f l q) = omega (arith, square-lt a (r + 1) (omega arith))

pub halves_ge_even : (n a : ℕ) → a * a ≤ n → 2 * a ≤ halves n
halves_ge_even n a h = go (halved n)
  where
    go : Halved n (halves n) → 2 * a ≤ halves n
    go (whole r e q) = omega (arith, square_le a r (omega arith))
    go (beyond r f l q) = omega (arith, square-lt a (r + 1) (omega arith))

-- and the other way
pub even_ge_halves : (n a : ℕ) → halves n ≤ 2 * a → n ≤ a * a
even_ge_halves n a h =
    omega (arith, lt_of_not-le (λ (g : a * a + 1 ≤ n). not-le_of_lt (halves_gt_even n a (omega arith)) h))

pub even_le-halves : (n a : ℕ) → 2 * a ≤ halves n → a * a ≤ n
even_le-halves n a h =
    omega (arith, lt_of_not-le (λ (g : n + 1 ≤ a * a). not-le_of_lt (halves-lt_even n a (omega arith)) h))

pub halves_mono : (n m : ℕ) → n ≤ m → halves n ≤ halves m
halves_mono n m h = go (halved m)
  where
    go : Halved m (halves m) → halves n ≤ halves m
    go (whole r e q) = subst (λ (z : ℕ). halves n ≤ z) (sym q) (halves-le_even n r (omega arith))
    go (beyond r f l q) = omega (arith, halves-lt_even n (r + 1) (omega arith))
