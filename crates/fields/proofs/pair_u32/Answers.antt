-- `fields::pair_u32` meets its contract. Assumes nothing.
use Rattle.block.proofs.Readings.{u32_on}
use Rattle.fields.proofs.pair_u32.Goals as goal

pub returns : goal.returns
returns c = u32_on _ _ _ c.pair_offset.ensures _ _ c.u32_at.ensures
