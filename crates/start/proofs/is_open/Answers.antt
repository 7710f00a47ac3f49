-- `start::is_open` meets its contract. Assumes nothing.
use borrow.Author.Tests.{ne_eqb}
use Rattle.start.proofs.StepLaws.{open_not, open_ready}
use Rattle.start.proofs.is_open.Goals as goal

pub returns-then-byte_at-eq0 : goal.returns-then-byte_at-eq0
returns-then-byte_at-eq0 c g w v p =
    open_ready _ _ g w v p _ _ (rw c.from.ensures at c.byte_at.ensures) _ c.if-byte_at-eq0.true c.is_ready.ensures

pub returns-else-byte_at-eq0 : goal.returns-else-byte_at-eq0
returns-else-byte_at-eq0 c g w v p =
    rw (ne_eqb _ 0 c.if-byte_at-eq0.false)
    (open_not _ _ g w v p _ _ (rw c.from.ensures at c.byte_at.ensures) c.if-byte_at-eq0.false)
