-- `block::u32_at` meets its contract. Assumes nothing.
use mathlib.Core.Path.{◌∙◌}
use Rattle.block.proofs.FieldLaws.{u32_of_bytes}
use Rattle.block.proofs.u32_at.Goals as goal

pub returns : goal.returns
returns c = c.from_le_bytes.ensures ∙ u32_of_bytes _ _ _ c.bytes_at.ensures
