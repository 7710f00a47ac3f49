-- The order of two signed sizes, as a comparison of floats tests it and as it is said without a test. Assumes nothing.
use mathlib.Core.Path.{◌≡◌, sym, ◌∙◌}
use mathlib.Core.Bool.{Bool, true, false, ◌&&◌, ◌||◌}
use Prim.Native.Nat.{ℕ, ◌+◌, ◌≤◌}
use native.Mathlib.Nat.{le_of_eq, le_of_lt}
use native.Mathlib.Omega.{arith}
use lib.Dec.{T, ltb, eqb, ltb→lt, nltb→le, eqb→eq}
use lib.Ieee.{below, level}
use lib.Ieee.Fits.{and_i, and_l, and_r, eq→eqb}
use Rattle.answer.proofs.Truth.{or_e, or_i}

-- ±a at most ±b, a minus sign where true stands
abbrev pub AtMost : Bool → ℕ → Bool → ℕ → Type 0
AtMost false a false b = a ≤ b
AtMost false a true b = (a ≡ 0) × (b ≡ 0)
AtMost true a false b = Unit {0}
AtMost true a true b = b ≤ a

-- what the test tells
pub at_most : (s : Bool) (a : ℕ) (t : Bool) (b : ℕ) → T (below s a t b || level s a t b) → AtMost s a t b
at_most false a false b h =
    or_e (ltb a b) (eqb a b && true) (a ≤ b) (λ k. le_of_lt (ltb→lt a b k))
    (λ k. le_of_eq (eqb→eq a b (and_l (eqb a b) true k))) h
at_most false a true b h =
    let e : a ≡ b = eqb→eq a b (and_l (eqb a b) (eqb a 0) h) in
    let z : a ≡ 0 = eqb→eq a 0 (and_r (eqb a b) (eqb a 0) h) in
    (z, sym e ∙ z)
at_most true a false b h = tt
at_most true a true b h =
    or_e (ltb b a) (eqb a b && true) (b ≤ a) (λ k. le_of_lt (ltb→lt b a k))
    (λ k. le_of_eq (sym (eqb→eq a b (and_l (eqb a b) true k)))) h

-- and the other way: where the strict test fails, the sizes are level
pub tested : (s : Bool) (a : ℕ) (t : Bool) (b : ℕ) → AtMost s a t b → T (below s a t b || level s a t b)
tested false a false b h =
    or_i (ltb a b) (eqb a b && true) (λ n.
    let g : b ≤ a = nltb→le a b n in
    and_i (eqb a b) true (eq→eqb {a = a} {b = b} (omega arith)) tt)
tested false a true b h = and_i (eqb a b) (eqb a 0) (eq→eqb (h.0 ∙ sym h.1)) (eq→eqb h.0)
tested true a false b h =
    or_i (ltb 0 (a + b)) (eqb a b && eqb a 0) (λ n.
    let g : a + b ≤ 0 = nltb→le 0 (a + b) n in
    and_i (eqb a b) (eqb a 0) (eq→eqb {a = a} {b = b} (omega arith)) (eq→eqb {a = a} {b = 0} (omega arith)))
tested true a true b h =
    or_i (ltb b a) (eqb a b && true) (λ n.
    let g : a ≤ b = nltb→le b a n in
    and_i (eqb a b) true (eq→eqb {a = a} {b = b} (omega arith)) tt)
