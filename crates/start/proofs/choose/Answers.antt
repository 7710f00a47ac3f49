-- `start::choose` meets its contract. The invariant: the contours still to come make of this choice what all of them
-- make of none. Assumes nothing.
use Rattle.table.proofs.EachLaws.{begin-zero, carry, arrive}
use Rattle.start.proofs.StepLaws.{passed_over, looked_at, chosen_is}
use Rattle.start.proofs.choose.Goals as goal
use Rattle.start.proofs.choose.Goals.{then-is_open, else-is_open}

pub loop-k-init : goal.loop-k-init
loop-k-init c g w tells f p v = begin-zero _ _ _

pub loop-k-preserved : goal.loop-k-preserved
loop-k-preserved c g w tells f p v =
    carry _ _ _ _ _ _ (c.loop-k.invariant g w tells f p v) c.loop-k-test.true
    (elim c.if-is_open.branch [
      | then-is_open u ↦
          rw u.best-is
          (looked_at g w _ _ _ (c.is_open.ensures g w v p) _ u.if-is_open.true (u.offers-best.ensures g w tells f))
      | else-is_open u ↦ rw u.best-is (passed_over g w _ _ _ (c.is_open.ensures g w v p) u.if-is_open.false)
    ])

pub returns : goal.returns
returns c g w tells f p v =
    chosen_is g w _ _ (arrive _ _ _ _ _ (c.loop-k.invariant g w tells f p v) c.loop-k-test.false)
