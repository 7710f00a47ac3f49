-- `block::is_checked` meets its contract. Assumes nothing.
use mathlib.Core.Path.{◌∙◌}
use borrow.Author.Tests.{le-leb}
use Rattle.block.proofs.BlockLaws.{checked-none, checked_is}
use Rattle.block.proofs.is_checked.Goals as goal

pub returns-then-s-at : goal.returns-then-s-at
returns-then-s-at c = le-leb _ _ c.if-s-at.true ∙ checked-none _ _ c.if-s-at.true

pub returns-else-s-at : goal.returns-else-s-at
returns-else-s-at c = checked_is _ _ _ _ c.check_at.ensures c.u32_at.ensures
