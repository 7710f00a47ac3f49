-- A root cut to p + 1 digits, against the middles between those numbers: it never meets one, so it is strictly on one
-- side. Whole numbers only. Assumes nothing.
use mathlib.Core.Path.{◌≡◌, sym, ap, ◌∙◌, subst}
use mathlib.Core.Logic.{◌⊎◌, inl, inr}
use Prim.Native.Nat.{ℕ, zero, suc, ◌+◌, ◌*◌, ◌/◌, ◌%◌, ◌^◌, ◌≤◌, ◌<◌}
use native.Mathlib.Decide.{dec_le}
use native.Mathlib.Nat.{le_trans, le_of_lt, le-mul_of_pos_right, le_of_eq, lt_of_lt_of_le, lt_of_le_of_lt, le_dest}
use native.Mathlib.Nat.{lt_of_not-le, not-le_of_lt, eq-or-lt_of_le, mul_assoc, mul_comm, mul_left_comm, mul-le-mul}
use native.Mathlib.Nat.{mul-le-mul_right, mul-le-mul_left, mul-lt-mul_of_pos_right, lt_of_mul-lt-mul_right}
use native.Mathlib.Nat.{le_of_mul-le-mul_right, eq_of_mul-eq-mul_right, mul-pos, pow-suc}
use native.Mathlib.Omega.{arith}
use lib.Arith.{lt_of_le-ne}
use lib.Pow.{pow-add, pow_pos, pow_mono}
use Rattle.root.specs.Whole.{halves}
use Rattle.root.proofs.WholeLaws.{square_le, even_ge_halves, even_le-halves}

-- ---- the square of an odd number of p + 1 digits or more has too many digits to be one of p + 1 digits times a power
-- of two

parity : (o q : ℕ) → o % 2 ≡ 1 → o * o ≡ q * 2 → ⊥
parity o q h e =
    let d : o ≡ 2 * (o / 2) + 1 = omega arith in
    let z : (2 * (o / 2) + 1) * (2 * (o / 2) + 1) ≡ q * 2 = subst (λ (x : ℕ). x * x ≡ q * 2) d e in
    omega (arith, z)

too_long : (o P j t : ℕ) → P ≤ o → j < P → o * o * t ≤ j → 0 < t → ⊥
too_long o P j t h k e p =
    let a : o ≤ o * (o * t) = le-mul_of_pos_right o (mul-pos (omega arith) p) in
    let b : o * o * t ≡ o * (o * t) = mul_assoc o o t in
    omega arith

odd_square : (o P j t : ℕ) → o % 2 ≡ 1 → P ≤ o → j < P → o * o ≡ j * 2 ^ t → ⊥
odd_square o P j zero h k l e = too_long o P j 1 k l (omega arith) (omega arith)
odd_square o P j (suc t) h k l e =
    parity o (j * 2 ^ t) h (e ∙ ap (λ (z : ℕ). j * z) (pow-suc 2 t) ∙ sym (mul_assoc j (2 ^ t) 2))

split_power : (a t : ℕ) (x y : ℕ) → x * 2 ^ a ≡ y * 2 ^ (a + t) → x ≡ y * 2 ^ t
split_power a t x y e =
    eq_of_mul-eq-mul_right (2 ^ a) (pow_pos a) x (y * 2 ^ t)
    (e ∙ ap (λ (z : ℕ). y * z) (pow-add 2 a t ∙ mul_comm (2 ^ a) (2 ^ t)) ∙ sym (mul_assoc y (2 ^ t) (2 ^ a)))

order : (a b : ℕ) → ((t : ℕ) × (a + t ≡ b)) ⊎ ((t : ℕ) × (b + t ≡ a))
order a b = elim (dec_le a b) [ yes h ↦ inl (le_dest h) | no h ↦ inr (le_dest (le_of_lt (lt_of_not-le h))) ]

pub no_tie : (o P j a b : ℕ) → o % 2 ≡ 1 → P ≤ o → j < P → o * o * 2 ^ a ≡ j * 2 ^ b → ⊥
no_tie o P j a b h k l e = go (order a b)
  where
    go : ((t : ℕ) × (a + t ≡ b)) ⊎ ((t : ℕ) × (b + t ≡ a)) → ⊥
    go (inl (t, q)) = odd_square o P j t h k l (split_power a t (o * o) j (e ∙ ap (λ (z : ℕ). j * 2 ^ z) (sym q)))
    go (inr (t, q)) =
        too_long o P j (2 ^ t) k l (le_of_eq (sym (split_power b t j (o * o)
        (sym e ∙ ap (λ (z : ℕ). o * o * 2 ^ z) (sym q))))) (pow_pos t)

-- ---- a root's p + 1 leading digits c, with k + 1 digits dropped

-- c * 2 ^ (k + 1) is within half a unit of the root of N, seen through `halves`, and N has all the digits
pub record Cut (p k c N : ℕ) : Type 0 where
  pub long : 2 ^ p ≤ c
  pub least : 2 ^ p * 2 ^ suc k * (2 ^ p * 2 ^ suc k) ≤ N
  pub high : halves N ≤ 2 * (c * 2 ^ suc k) + 2 ^ suc k
  pub low : 2 * (c * 2 ^ suc k) ≤ halves N + 2 ^ suc k

-- N is of few digits: j of at most p + 1, and zeros
pub record Short (p N : ℕ) : Type 0 where
  pub j : ℕ
  pub i : ℕ
  pub small : j < 2 ^ suc p
  pub is : N ≡ j * 2 ^ i

-- the root is strictly below the middle above
upper : (p k c N : ℕ) → Cut p k c N → Short p N → N < (2 * c + 1) * 2 ^ k * ((2 * c + 1) * 2 ^ k)
upper p k c N g s =
    let J = 2 ^ k in
    let e = pow-suc 2 k in
    let f : c * 2 ^ suc k ≡ c * (J * 2) = ap (λ (z : ℕ). c * z) e in
    let l : N ≤ (2 * c + 1) * J * ((2 * c + 1) * J) = even_ge_halves N ((2 * c + 1) * J) (omega (arith, g.high)) in
    lt_of_le-ne l (λ (q : N ≡ (2 * c + 1) * J * ((2 * c + 1) * J)).
    no_tie (2 * c + 1) (2 ^ suc p) s.j (k + k) s.i (omega arith) (omega (arith, g.long, pow-suc 2 p)) s.small
    (simp (mul_assoc, mul_comm, mul_left_comm, pow-add) (simp (mul_assoc, mul_comm, mul_left_comm) at (sym q ∙ s.is))))

-- and strictly above the middle below
lower : (p k c N : ℕ) → Cut p k (suc c) N → Short p N → (2 * c + 1) * 2 ^ k * ((2 * c + 1) * 2 ^ k) < N
lower p k c N g s =
    let J = 2 ^ k in
    let e = pow-suc 2 k in
    let f : suc c * 2 ^ suc k ≡ suc c * (J * 2) = ap (λ (z : ℕ). suc c * z) e in
    let l : (2 * c + 1) * J * ((2 * c + 1) * J) ≤ N = even_le-halves N ((2 * c + 1) * J) (omega (arith, g.low)) in
    lt_of_le-ne l (λ (q : (2 * c + 1) * J * ((2 * c + 1) * J) ≡ N).
    let b : 2 ^ p * 2 ^ suc k ≤ (2 * c + 1) * J =
    square_le (2 ^ p * 2 ^ suc k) ((2 * c + 1) * J) (le_trans g.least (le_of_eq (sym q))) in
    let d : 2 ^ p * 2 ^ suc k ≡ 2 ^ suc p * J = simp (mul_assoc, mul_comm, mul_left_comm, pow-suc) in
    no_tie (2 * c + 1) (2 ^ suc p) s.j (k + k) s.i (omega arith)
    (le_of_mul-le-mul_right (le_trans (le_of_eq (sym d)) b) (pow_pos k)) s.small
    (simp (mul_assoc, mul_comm, mul_left_comm, pow-add) (simp (mul_assoc, mul_comm, mul_left_comm) at (q ∙ s.is))))

-- ---- other numbers of p + 1 digits: multiples of our unit, or below 2 ^ p units

finer : (p k j i : ℕ) → j < 2 ^ suc p → i < k → j * 2 ^ i < 2 ^ p * 2 ^ k
finer p k j i h l =
    lt_of_lt_of_le (mul-lt-mul_of_pos_right h (pow_pos i))
    (le_trans (le_of_eq (simp (mul_assoc, mul_comm, mul_left_comm, pow-suc))) (mul-le-mul_left (2 ^ p) (pow_mono l)))

sorted : (p k Y : ℕ) → Short p Y → ((b : ℕ) × (Y ≡ b * 2 ^ k)) ⊎ (Y < 2 ^ p * 2 ^ k)
sorted p k Y s =
    elim (dec_le k s.i) [
      | yes h ↦ inl (coarser (le_dest h))
      | no h ↦ inr
          (subst (λ (z : ℕ). z < 2 ^ p * 2 ^ k) (sym s.is) (finer p k s.j s.i s.small (lt_of_not-le h)))
    ]
  where
    coarser : (t : ℕ) × (k + t ≡ s.i) → (b : ℕ) × (Y ≡ b * 2 ^ k)
    coarser (t, q) = (s.j * 2 ^ t, s.is ∙ ap (λ (z : ℕ). s.j * 2 ^ z) (sym q) ∙ simp (mul_assoc, mul_comm, pow-add))

next_up : (a b K : ℕ) → a * K < b * K → a * K + K ≤ b * K
next_up a b K h = let l : suc a ≤ b = lt_of_mul-lt-mul_right K h in le_trans (omega arith) (mul-le-mul_right K l)

-- twice as far, four times the square
twice_lt : (N m s : ℕ) → N < m * m → 2 * m ≤ s → 4 * N < s * s
twice_lt N m s h l = lt_of_lt_of_le (omega arith) (mul-le-mul l l)

twice_gt : (N m s : ℕ) → m * m < N → s ≤ 2 * m → s * s < 4 * N
twice_gt N m s h l = lt_of_le_of_lt (mul-le-mul l l) (omega arith)

-- ---- the root is nearer to c * 2 ^ (k + 1) than to any other: it is strictly on our side of the middle

pub near_above : (p k c N Y : ℕ) → Cut p k c N → Short p N → Short p Y → c * 2 ^ suc k < Y
    → 4 * N < (c * 2 ^ suc k + Y) * (c * 2 ^ suc k + Y)
near_above p k c N Y g s y l = go (sorted p (suc k) Y y)
  where
    go : ((b : ℕ) × (Y ≡ b * 2 ^ suc k)) ⊎ (Y < 2 ^ p * 2 ^ suc k) → 4 * N < (c * 2 ^ suc k + Y) * (c * 2 ^ suc k + Y)
    go (inl (b, q)) =
        let d = next_up c b (2 ^ suc k) (lt_of_lt_of_le l (le_of_eq q)) in
        let f : c * 2 ^ suc k ≡ c * (2 ^ k * 2) = ap (λ (z : ℕ). c * z) (pow-suc 2 k) in
        twice_lt N ((2 * c + 1) * 2 ^ k) (c * 2 ^ suc k + Y) (upper p k c N g s) (omega (arith, pow-suc 2 k))
    go (inr h) = absurd (not-le_of_lt l (le_trans (le_of_lt h) (mul-le-mul_right (2 ^ suc k) g.long)))

pub near_below : (p k c N Y : ℕ) → Cut p k c N → Short p N → Short p Y → Y < c * 2 ^ suc k
    → (c * 2 ^ suc k + Y) * (c * 2 ^ suc k + Y) < 4 * N
near_below p k zero N Y g s y l = absurd (not-le_of_lt (pow_pos p) g.long)
near_below p k (suc c) N Y g s y l = go (sorted p (suc k) Y y)
  where
    apart : Y + 2 ^ suc k ≤ suc c * 2 ^ suc k → (suc c * 2 ^ suc k + Y) * (suc c * 2 ^ suc k + Y) < 4 * N
    apart h =
        let f : suc c * 2 ^ suc k ≡ suc c * (2 ^ k * 2) = ap (λ (z : ℕ). suc c * z) (pow-suc 2 k) in
        twice_gt N ((2 * c + 1) * 2 ^ k) (suc c * 2 ^ suc k + Y) (lower p k c N g s) (omega (arith, pow-suc 2 k))

    least : 2 ^ p ≡ suc c → Y < 2 ^ p * 2 ^ suc k → (suc c * 2 ^ suc k + Y) * (suc c * 2 ^ suc k + Y) < 4 * N
    least q h =
        let f : suc c * 2 ^ suc k ≡ 2 ^ p * 2 ^ suc k = ap (λ (z : ℕ). z * 2 ^ suc k) (sym q) in
        let r : suc c * 2 ^ suc k + Y + 1 ≤ 2 * (2 ^ p * 2 ^ suc k) = omega arith in
        lt_of_lt_of_le (omega arith) (le_trans (mul-le-mul r r) (omega (arith, g.least)))

    go : ((b : ℕ) × (Y ≡ b * 2 ^ suc k)) ⊎ (Y < 2 ^ p * 2 ^ suc k)
        → (suc c * 2 ^ suc k + Y) * (suc c * 2 ^ suc k + Y) < 4 * N
    go (inl (b, q)) = apart (let d = next_up b (suc c) (2 ^ suc k) (lt_of_le_of_lt (le_of_eq (sym q)) l) in omega arith)
    go (inr h) =
        elim (eq-or-lt_of_le g.long) [
          | inl q ↦ least q h
          | inr m ↦ apart
              (let d = next_up (2 ^ p) (suc c) (2 ^ suc k) (mul-lt-mul_of_pos_right m (pow_pos (suc k))) in omega arith)
        ]
