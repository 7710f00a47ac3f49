-- `cost::leg_at` meets its contract: a leg's two points stand side by side. Assumes nothing.
use Rattle.std.proofs.Common.{sym}
use Rattle.points.proofs.PointLaws.{leg_of_lem}
use Rattle.cost.proofs.leg_at.Goals as goal

pub returns : goal.returns
returns c = rw (c.point_at.ensures, c.point_at-2.ensures) (sym (leg_of_lem _ _ c.requires))
