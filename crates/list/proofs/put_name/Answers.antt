-- `list::put_name` meets its contract. Assumes nothing.
use Rattle.list.proofs.LineLaws.{name_put}
use Rattle.list.proofs.put_name.Goals as goal

pub returns : goal.returns
returns c = name_put _ _ _ _ _ _ c.contour_head-name.ensures c.put_decimal.ensures c.put_number.ensures
