-- `list::way` meets its contract. Assumes nothing.
use Rattle.list.proofs.LineLaws.{way_is}
use Rattle.list.proofs.way.Goals as goal

pub returns : goal.returns
returns c =
    way_is c.args.card.now c.args.k _ _ _ _ c.contour_type.ensures c.exterior.ensures c.interior.ensures
    c.determine_direction.ensures
