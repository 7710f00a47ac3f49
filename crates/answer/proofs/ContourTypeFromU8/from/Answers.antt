-- A contour's type from a byte meets its contract: the test decides. Assumes nothing.
use borrow.Author.Tests.{eq-eqb, ne_eqb}
use Rattle.answer.specs.Kinds.{as_type}
use Rattle.answer.proofs.ContourTypeFromU8.from.Goals as goal

pub returns-then-b-eq0 : goal.returns-then-b-eq0
unfolding as_type
returns-then-b-eq0 c = rw (eq-eqb _ _ c.if-b-eq0.true)

pub returns-else-b-eq0 : goal.returns-else-b-eq0
unfolding as_type
returns-else-b-eq0 c = rw (ne_eqb _ _ c.if-b-eq0.false)
