-- `bridge::off_the_way` meets its contract: the second test is asked only where the first holds. Assumes nothing.
use Rattle.bridge.specs.Question.{off_the_way}
use Rattle.bridge.proofs.off_the_way.Goals as goal
use Rattle.bridge.proofs.off_the_way.Goals.{then-c, else-c}

pub returns : goal.returns
unfolding off_the_way
returns c =
    elim c.if-c.branch [
      | then-c w ↦ rw (w.result-is, w.if-c.true)
      | else-c w ↦ rw (w.result-is, w.if-c.false)
    ]
