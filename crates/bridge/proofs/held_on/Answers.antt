-- `bridge::held_on` meets its contract: the test on the length decides it. Assumes nothing.
use Rattle.bridge.specs.Lookup.{held_on}
use Rattle.bridge.proofs.held_on.Goals as goal

pub returns-then-length : goal.returns-then-length
unfolding held_on
returns-then-length c = rw (← c.length_of-length.ensures, c.if-length.true)

pub returns-else-length : goal.returns-else-length
unfolding held_on
returns-else-length c =
    rw (
      ← c.length_of-length.ensures,
      c.if-length.false,
      c.along-point.ensures,
      c.clamp.ensures,
    )
