-- `points::bad_number` meets its contract: each side of the limit is a law of comparisons. Assumes nothing.
use mathlib.Core.Path.{sym}
use Rattle.points.proofs.NumberLaws.{under_is, up_to_is}
use Rattle.points.proofs.bad_number.Goals as goal
use Rattle.points.proofs.bad_number.Goals.{then-x, else-x}

pub returns : goal.returns
returns c =
    elim c.if-x.branch [
      | then-x w ↦ rw w.result-is (up_to_is _ w.if-x.true)
      | else-x w ↦ rw (w.result-is, w.if-x.false) (sym (under_is _ w.if-x.false))
    ]
