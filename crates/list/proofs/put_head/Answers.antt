-- `list::put_head` meets its contract. Assumes nothing.
use Rattle.list.proofs.LineLaws.{head_put}
use Rattle.list.proofs.put_head.Goals as goal

pub returns : goal.returns
returns c = head_put _ _ _ _ _ _ c.read_head-head.ensures c.put_number.ensures c.put_number-2.ensures c.put.ensures
