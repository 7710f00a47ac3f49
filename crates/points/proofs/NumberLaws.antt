-- What comparisons tell of a number: whether it can be a coordinate. Assumes nothing.
use mathlib.Core.Path.{◌≡◌, refl, sym, subst}
use mathlib.Core.Bool.{Bool, true, false, not, false≢true}
use Prim.Native.Nat.{◌*◌, ◌≤◌, ◌<◌}
use native.Mathlib.Nat.{mul-one, lt_of_not-le}
use borrow.Author.Tests.{lt-ltb, le-ltb}
use lib.Dec.{T}
use lib.Ieee.{Float, nan, inf, fin, binary64, up, down, lt, eq, le, neg, of_bits}
use Rattle.root.proofs.AtMost.{at_most, tested}
use Rattle.points.specs.Bad.{largest, bad_number}

-- the limit as the code has it
abbrev pub limit64 : Float
limit64 = of_bits binary64 0x4130_0000_0000_0000

pub within_is : (x : Float) → le x limit64 ≡ true → le (neg limit64) x ≡ true → bad_number x ≡ false
unfolding bad_number le lt eq neg of_bits
within_is nan p q = absurd (false≢true p)
within_is (inf true) p q = absurd (false≢true q)
within_is (inf false) p q = absurd (false≢true p)
within_is (fin true m e) p q =
    let a = m * up e * 1 in
    let b = largest * down e in
    let h : a ≤ b = at_most true b true a (subst T (sym q) tt) in
    le-ltb b (m * up e) (rw mul-one at h)
within_is (fin false m e) p q =
    let a = m * up e * 1 in
    let b = largest * down e in
    let h : a ≤ b = at_most false a false b (subst T (sym p) tt) in
    le-ltb b (m * up e) (rw mul-one at h)

pub above_is : (x : Float) → le x limit64 ≡ false → bad_number x ≡ true
unfolding bad_number le lt eq of_bits
above_is nan p = refl
above_is (inf s) p = refl
above_is (fin true m e) p = absurd (subst T p (tested true (m * up e * 1) false (largest * down e) tt))
above_is (fin false m e) p =
    let a = m * up e * 1 in
    let b = largest * down e in
    let h : b < a = lt_of_not-le (λ l. subst T p (tested false a false b l)) in
    lt-ltb b (m * up e) (rw mul-one at h)

pub under_is : (x : Float) → le (neg limit64) x ≡ false → bad_number x ≡ true
unfolding bad_number le lt eq neg of_bits
under_is nan p = refl
under_is (inf s) p = refl
under_is (fin true m e) p =
    let a = m * up e * 1 in
    let b = largest * down e in
    let h : b < a = lt_of_not-le (λ l. subst T p (tested true b true a l)) in
    lt-ltb b (m * up e) (rw mul-one at h)
under_is (fin false m e) p = absurd (subst T p (tested true (largest * down e) false (m * up e * 1) tt))

-- both sides at once, as the code asks
pub up_to_is : (x : Float) → le (neg limit64) x ≡ true → not (le x limit64) ≡ bad_number x
up_to_is x q = go (le x limit64) (λ p. within_is x p q) (above_is x)
  where
    go : (b : Bool) → (b ≡ true → bad_number x ≡ false) → (b ≡ false → bad_number x ≡ true) → not b ≡ bad_number x
    go true good bad = sym (good refl)
    go false good bad = sym (bad refl)
