-- `points::bad_point` meets its contract: the second number is asked only where the first is good, as `||` has it.
-- Assumes nothing.
use Rattle.points.specs.Bad.{bad_point}
use Rattle.points.proofs.bad_point.Goals as goal

pub returns-then-bad_number : goal.returns-then-bad_number
unfolding bad_point
returns-then-bad_number c = rw (← c.bad_number.ensures, c.if-bad_number.true)

pub returns-else-bad_number : goal.returns-else-bad_number
unfolding bad_point
returns-else-bad_number c =
    rw (← c.bad_number.ensures, c.if-bad_number.false) c.bad_number-else-bad_number.ensures
