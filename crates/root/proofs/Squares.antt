-- Laws on squares of whole numbers that the proofs of the code share. Assumes nothing.
use mathlib.Core.Path.{◌≡◌, sym, ap, subst}
use mathlib.Core.Logic.{inl, inr}
use Prim.Native.Nat.{ℕ, ◌+◌, ◌-◌, ◌*◌, ◌/◌, ◌%◌, ◌^◌, ◌≤◌, ◌<◌}
use native.Mathlib.Nat.{le_refl, le_of_lt, lt_of_le_of_lt, mul-le-mul, mul-lt-mul_of_pos_right}
use native.Mathlib.Nat.{eq-zero-or-pos, not-suc-le-zero, mod-lt, div-add-mod', div-le_of_le-mul}
use native.Mathlib.Omega.{arith}
use lib.Dec.{lit<}
use Rattle.root.proofs.WholeLaws.{square-lt, whole_le, whole_lt, whole_unique}
use Rattle.root.specs.Whole.{whole_root}

pub square_mono : {a b : ℕ} → a ≤ b → a * a ≤ b * b
square_mono h = mul-le-mul h h

-- what has a square above something is not 0
pub square_pos : {a n : ℕ} → n < a * a → 0 < a
square_pos {a} {n} h =
    elim (eq-zero-or-pos a) [
      | inl z ↦ absurd (not-suc-le-zero (subst (λ (x : ℕ). n < x) (ap (λ (x : ℕ). x * x) z) h))
      | inr p ↦ p
    ]

-- ---- sizes: what a 64-bit number holds

pub root-lt : {r m : ℕ} → r * r ≤ m → m < 2 ^ 54 → r < 2 ^ 27
root-lt {r} h k = square-lt r (2 ^ 27) (lt_of_le_of_lt h k)

pub square_fits : {a : ℕ} → a < 2 ^ 28 → a * a < 2 ^ 64
square_fits h = lt_of_le_of_lt (square_mono (le_of_lt h)) (lit< tt)

-- ---- From the root a of m to the root of m * P * P: with d = m - a * a, and q and u the quotient and the rest of d *
-- P by 2 * a,
-- it is a * P + q, or one less where u * P is below q * q.

pub longer-square : (a P q u d : ℕ) → d * P ≡ q * (2 * a) + u
    → (a * a + d) * (P * P) + q * q ≡ (a * P + q) * (a * P + q) + u * P
longer-square a P q u d h =
    let e : d * P * P ≡ (q * (2 * a) + u) * P = ap (λ (z : ℕ). z * P) h in
    omega arith

-- not taken back
pub longer_fits : (a P q u d : ℕ) → d * P ≡ q * (2 * a) + u → u < 2 * a → 0 < P → q * q ≤ u * P
    → ((a * P + q) * (a * P + q) ≤ (a * a + d) * (P * P)) × ((a * a + d) * (P * P) < (a * P + q + 1) * (a * P + q + 1))
longer_fits a P q u d h lt p k =
    let e = longer-square a P q u d h in
    let x : u * P < 2 * a * P = mul-lt-mul_of_pos_right lt p in
    (omega arith, omega arith)

-- one taken back; s is the number after
pub longer-back : (a P q u d s : ℕ) → d * P ≡ q * (2 * a) + u → u * P < q * q → q ≤ P → P ≤ 2 * a → s + 1 ≡ a * P + q
    → (s * s ≤ (a * a + d) * (P * P)) × ((a * a + d) * (P * P) < (s + 1) * (s + 1))
longer-back a P q u d s h k qp pa e =
    let f = longer-square a P q u d h in
    let g : (a * P + q) * (a * P + q) ≡ (s + 1) * (s + 1) = ap (λ (z : ℕ). z * z) (sym e) in
    let x : q * q ≤ q * P = mul-le-mul (le_refl q) qp in
    let y : q * P ≤ P * P = mul-le-mul qp (le_refl P) in
    let z : P * P ≤ 2 * a * P = mul-le-mul pa (le_refl P) in
    let o : 0 < q = square_pos k in
    (omega arith, omega arith)

-- ---- the same at P = 2 ^ 27, for an m of 53 or 54 digits

pub record Sized (m a : ℕ) : Type 0 where
  pub low : 2 ^ 26 ≤ a
  pub high : a < 2 ^ 27
  pub fits : a * a ≤ m
  pub rest : m ≤ a * a + 2 * a

pub sized : {m a : ℕ} → 2 ^ 52 ≤ m → m < 2 ^ 54 → a ≡ whole_root m → Sized m a
sized {m} {a} l h e =
    let f : a * a ≤ m = rw e (whole_le m) in
    let g : m < (a + 1) * (a + 1) = rw e (whole_lt m) in
    let n : 2 ^ 26 < a + 1 = square-lt (2 ^ 26) (a + 1) (lt_of_le_of_lt l g) in
    record { low = omega arith; high = root-lt f h; fits = f; rest = omega arith }

pub quotient_le : (m a : ℕ) → Sized m a → (m - a * a) * 0x800_0000 / (2 * a) ≤ 0x800_0000
quotient_le m a z =
    let x : (m - a * a) * 0x800_0000 ≤ 2 * a * 0x800_0000 = omega (arith, z.rest) in
    div-le_of_le-mul (2 * a) x

pub rest_lt : (m a : ℕ) → Sized m a → (m - a * a) * 0x800_0000 % (2 * a) < 2 * a
rest_lt m a z = mod-lt _ (omega (arith, z.low))

division : (m a : ℕ)
    → (m - a * a) * 0x800_0000 ≡ (m - a * a) * 0x800_0000 / (2 * a) * (2 * a) + (m - a * a) * 0x800_0000 % (2 * a)
division m a = sym (div-add-mod' ((m - a * a) * 0x800_0000) (2 * a))

whole : (m a : ℕ) → Sized m a → (a * a + (m - a * a)) * (0x800_0000 * 0x800_0000) ≡ m * 2 ^ 54
whole m a z = ap (λ (x : ℕ). x * 2 ^ 54) (let x : a * a + (m - a * a) ≡ m = omega (arith, z.fits) in x)

pub longer-kept : (m a : ℕ) → Sized m a
    → (let n = (m - a * a) * 0x800_0000 in n / (2 * a) * (n / (2 * a)) ≤ n % (2 * a) * 0x800_0000
    → whole_root (m * 2 ^ 54) ≡ a * 0x800_0000 + n / (2 * a))
longer-kept m a z k =
    let n = (m - a * a) * 0x800_0000 in
    let w = longer_fits a 0x800_0000 (n / (2 * a)) (n % (2 * a)) (m - a * a) (division m a) (rest_lt m a z) (lit< tt)
    k in
    whole_unique (m * 2 ^ 54) (a * 0x800_0000 + n / (2 * a)) (rw (whole m a z) at w.0) (rw (whole m a z) at w.1)

pub longer-lowered : (m a s : ℕ) → Sized m a
    → (let n = (m - a * a) * 0x800_0000 in n % (2 * a) * 0x800_0000 < n / (2 * a) * (n / (2 * a))
    → s + 1 ≡ a * 0x800_0000 + n / (2 * a) → whole_root (m * 2 ^ 54) ≡ s)
longer-lowered m a s z k e =
    let n = (m - a * a) * 0x800_0000 in
    let w = longer-back a 0x800_0000 (n / (2 * a)) (n % (2 * a)) (m - a * a) s (division m a) k (quotient_le m a z)
    (omega (arith, z.low)) e in
    whole_unique (m * 2 ^ 54) s (rw (whole m a z) at w.0) (rw (whole m a z) at w.1)
