-- `fields::vertices` meets its contract. Assumes nothing.
use Rattle.block.proofs.Readings.{u16_of}
use Rattle.fields.proofs.vertices.Goals as goal

pub returns : goal.returns
returns c = u16_of _ _ _ c.contour_offset.ensures _ c.u16_at.ensures
