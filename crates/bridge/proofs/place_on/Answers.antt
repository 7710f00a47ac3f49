-- `bridge::place_on` meets its contract: the test on the length decides it. Assumes nothing.
use Rattle.bridge.specs.Create.{place_on}
use Rattle.bridge.proofs.place_on.Goals as goal

pub returns-then-length : goal.returns-then-length
unfolding place_on
returns-then-length c = rw c.if-length.true

pub returns-else-length : goal.returns-else-length
unfolding place_on
returns-else-length c = rw c.if-length.false
