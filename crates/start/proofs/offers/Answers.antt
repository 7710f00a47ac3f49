-- `start::offers` meets its contract: what is read are the numbers that the definition reads. The invariant: the
-- candidates still to come make of this choice what all of them make of the first. Assumes nothing.
use mathlib.Core.Path.{sym}
use Rattle.table.proofs.EachLaws.{begin, carry, arrive}
use Rattle.start.proofs.StepLaws.{offer_is, offered_is}
use Rattle.start.proofs.offers.Goals as goal

pub loop-a-init : goal.loop-a-init
loop-a-init c g w tells = sym (begin _ _ _ _)

pub loop-a-preserved : goal.loop-a-preserved
loop-a-preserved c g w tells =
    carry _ _ _ _ _ _ (c.loop-a.invariant g w tells) c.loop-a-test.true
    (offer_is g w _ _ _ _ _ (c.reach.ensures g w tells) c.nearer-choice.ensures)

pub returns : goal.returns
returns c g w tells q =
    offered_is _ g w _ _ _ _ _ q (rw c.from-at.ensures at c.byte_at-from.ensures)
    (rw c.from-at.ensures at c.byte_at-end.ensures)
    (arrive _ _ _ _ _ (c.loop-a.invariant g w tells) c.loop-a-test.false)
