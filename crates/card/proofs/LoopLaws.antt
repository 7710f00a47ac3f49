-- A loop that looks for the lowest place at which a test holds: what it knows at each turn, and what it may answer.
-- Assumes nothing.
use Rattle.std.specs.Prelude.{None, Some}
use mathlib.Core.Path.{◌≡◌, sym}
use mathlib.Core.Bool.{Bool, true, false}
use Prim.Native.Nat.{ℕ, ◌+◌, ◌≤◌, ◌<◌}
use native.Mathlib.Omega.{arith}
use borrow.Author.Count.{below_none, below_more}
use Rattle.answer.specs.Lowest.{lowest}
use Rattle.answer.proofs.LowestLaws.{Nowhere, at_is, absent_is}

module _ (test : ℕ → Bool) where
  pub none_yet : Nowhere test 0
  none_yet = below_none (λ j. test j ≡ false)

  pub one_more : (k : ℕ) → Nowhere test k → test k ≡ false → Nowhere test (k + 1)
  one_more k = below_more (λ j. test j ≡ false) k

  pub found_here : (n k : ℕ) → k < n → Nowhere test k → test k ≡ true → Some k ≡ lowest test n
  found_here n k h before e = sym (at_is test n k (record { within = h; holds = e; before = before }))

  pub none_found : (n k : ℕ) → n ≤ k → Nowhere test k → None ≡ lowest test n
  none_found n k h before = sym (absent_is test n (λ j g. before j (omega arith)))
