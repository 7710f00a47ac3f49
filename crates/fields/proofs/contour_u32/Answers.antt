-- `fields::contour_u32` meets its contract. Assumes nothing.
use Rattle.block.proofs.Readings.{u32_of}
use Rattle.fields.proofs.contour_u32.Goals as goal

pub returns : goal.returns
returns c = u32_of _ _ _ c.contour_offset.ensures _ c.u32_at.ensures
