-- `list::put_place` meets its contract. Assumes nothing.
use Rattle.list.proofs.LineLaws.{place_put}
use Rattle.list.proofs.put_place.Goals as goal

pub returns : goal.returns
returns c = place_put _ _ _ _ _ _ _ c.way.ensures c.put_name.ensures c.put_number.ensures c.put_way.ensures
