-- `cost::foot` meets its contract: the test on the squared length decides it. Assumes nothing.
use Rattle.cost.specs.Closest.{foot_of}
use Rattle.cost.proofs.foot.Goals as goal

pub returns-then-length_sq : goal.returns-then-length_sq
unfolding foot_of
returns-then-length_sq c = rw (← c.distance_sq-length_sq.ensures, c.if-length_sq.true)

pub returns-else-length_sq : goal.returns-else-length_sq
unfolding foot_of
returns-else-length_sq c = rw (← c.distance_sq-length_sq.ensures, c.if-length_sq.false)
