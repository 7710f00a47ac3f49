-- `grid::moved_up` meets its contract: so many units are a number, and so is their share of a millimetre. Assumes
-- nothing.
use Rattle.grid.proofs.MoveLaws.{moved_up, small_is, units_small}
use Rattle.grid.proofs.moved_up.Goals as goal

pub returns : goal.returns
returns c =
    let small = small_is c.args.a c.requires.0 c.requires.1 in
    rw (c.nearest_u64_to_f64.ensures, c.units_near.ensures.value)
    (moved_up c.args.a small (units_small c.args.a small))
