-- `hierarchy::list_others` meets its contract. Assumes nothing.
use mathlib.Core.Bool.{Bool}
use Prim.Native.Nat.{ℕ, ◌≤◌}
use Rattle.closure.specs.Limits.{pair_limit}
use Rattle.closure.specs.Pairs.{Pair}
use Rattle.hierarchy.specs.Code.{Finds}
use Rattle.hierarchy.proofs.FillLaws.{PickPart}
use Rattle.hierarchy.proofs.list_others.Given as goal

abbrev pub invariant-loop-b : goal.invariant-loop-b
invariant-loop-b g l =
    record {
      few : l.count ≤ l.b-index;
      picked : (test : Pair → Bool) (pick : Pair → ℕ) → Finds (λ b a r. goal.F-post g l.other b a r) test pick
          → PickPart pair_limit test pick l.b-items l.b-index l.items l.count;
    }
