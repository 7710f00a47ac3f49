-- `keep::ready_by` meets its contract. Assumes nothing.
use borrow.Author.Tests.{eq-eqb, ne_eqb}
use Rattle.keep.specs.Keep.{ready_by}
use Rattle.keep.proofs.ready_by.Goals as goal

pub returns-then-a-k : goal.returns-then-a-k
unfolding ready_by
returns-then-a-k c = rw (ne_eqb _ _ c.if-a-k.true)

pub returns-else-a-k : goal.returns-else-a-k
unfolding ready_by
returns-else-a-k c = rw (eq-eqb _ _ c.if-a-k.false, c.flag_at.ensures)
