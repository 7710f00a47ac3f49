-- `list::put_way` meets its contract. Assumes nothing.
use Rattle.list.proofs.LineLaws.{ccw_put, cw_put}
use Rattle.list.proofs.put_way.Goals as goal

pub returns-in-Ccw : goal.returns-in-Ccw
returns-in-Ccw c = ccw_put _ _ _ c.in-Ccw.is c.put.ensures

pub returns-in-Cw : goal.returns-in-Cw
returns-in-Cw c = cw_put _ _ _ c.in-Cw.is c.put-in-Cw.ensures
