-- `list::put_outcome` meets its contract. Assumes nothing.
use Rattle.list.proofs.LineLaws.{outcome_put}
use Rattle.list.proofs.put_outcome.Goals as goal

pub returns : goal.returns
returns c =
    outcome_put _ _ _ _ _ _ _ c.bits_of.ensures c.put_number.ensures c.put.ensures c.put_hex.ensures c.put-2.ensures
