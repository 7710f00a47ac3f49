-- `bridge::marks_of` meets its contract: a mark put into its place, and at last all of them. Assumes nothing.
use native.Mathlib.Omega.{arith}
use Rattle.bridge.proofs.MarkLaws.{marked_start, marked_step, marked_all}
use Rattle.bridge.proofs.marks_of.Goals as goal

pub loop-k-init : goal.loop-k-init
loop-k-init c = marked_start _

pub loop-k-preserved : goal.loop-k-preserved
loop-k-preserved c =
    rw (c.length_of-sum.ensures, c.edge_at.ensures)
    (marked_step _ _ _ _ c.loop-k-test.true (omega arith) c.loop-k.invariant)

pub returns : goal.returns
returns c = marked_all _ _ _ _ (omega arith) c.loop-k.invariant
