-- `grid::moved` meets its contract: by the side of zero on which the number lies, and by how far out. Assumes nothing.
use Rattle.grid.proofs.MoveLaws.{moved_below, moved-zero, above_of_below, stays_above, stays_below}
use Rattle.grid.proofs.moved.Goals as goal

pub returns-else-x-2 : goal.returns-else-x-2
returns-else-x-2 c =
    stays_above c.args.x (rw c.well_formed.0.1 tt) c.if-x.true c.if-x-2.false

pub moved_up-requires-then-x-4 : goal.moved_up-requires-then-x-4
moved_up-requires-then-x-4 c = (above_of_below c.args.x c.if-x-3.true, c.if-x-4.true)

pub returns-then-x-4 : goal.returns-then-x-4
returns-then-x-4 c =
    rw c.moved_up-then-x-4.ensures (moved_below c.args.x (rw c.well_formed.0.1 tt) c.if-x-3.true)

pub returns-else-x-4 : goal.returns-else-x-4
returns-else-x-4 c =
    stays_below c.args.x (rw c.well_formed.0.1 tt) c.if-x-3.true c.if-x-4.false

pub returns-else-x-3 : goal.returns-else-x-3
returns-else-x-3 c = moved-zero c.args.x c.if-x.false c.if-x-3.false
