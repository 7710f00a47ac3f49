-- `candidates::on_the_way` meets its contract: the second test is asked only where the first holds, as `&&` has it.
-- Assumes nothing.
use Rattle.candidates.specs.Along.{reaches}
use Rattle.candidates.proofs.on_the_way.Goals as goal

pub returns-then-before-d : goal.returns-then-before-d
unfolding reaches
returns-then-before-d c = rw c.if-before-d.true

pub returns-else-before-d : goal.returns-else-before-d
unfolding reaches
returns-else-before-d c = rw c.if-before-d.false
