-- `block::u64_at` meets its contract. Assumes nothing.
use mathlib.Core.Path.{◌∙◌}
use Rattle.block.proofs.FieldLaws.{u64_of_bytes}
use Rattle.block.proofs.u64_at.Goals as goal

pub returns : goal.returns
returns c = c.from_le_bytes.ensures ∙ u64_of_bytes _ _ _ c.bytes_at.ensures
