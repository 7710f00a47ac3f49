-- `list::put_tour` meets its contract. Assumes nothing.
use Rattle.list.proofs.LineLaws.{tour-put}
use Rattle.list.proofs.put_tour.Goals as goal

pub returns : goal.returns
returns c = tour-put _ _ _ _ _ _ _ c.put_head.ensures c.put_stops.ensures c.put_outcome.ensures
