-- `fields::home` meets its contract. Assumes nothing.
use Rattle.fields.specs.Values.{point_at}
use Rattle.fields.proofs.home.Goals as goal

pub returns : goal.returns
unfolding point_at
returns c = rw (c.f64_at.ensures, c.f64_at-2.ensures)
