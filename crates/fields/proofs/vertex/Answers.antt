-- `fields::vertex` meets its contract. Assumes nothing.
use Rattle.fields.proofs.ValueLaws.{point_is}
use Rattle.fields.proofs.vertex.Goals as goal

pub returns : goal.returns
returns c =
    point_is _ _ _ _ _ c.vertex_offset-at.ensures c.f64_at.ensures c.f64_at-2.ensures
