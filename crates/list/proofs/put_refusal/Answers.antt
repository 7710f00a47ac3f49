-- `list::put_refusal` meets its contract. Assumes nothing.
use Rattle.list.proofs.LineLaws.{refusal_put}
use Rattle.list.proofs.put_refusal.Goals as goal

pub returns : goal.returns
returns c = refusal_put _ _ _ _ _ (rw (← c.from.ensures) c.put_number.ensures) c.put_number-2.ensures c.put.ensures
