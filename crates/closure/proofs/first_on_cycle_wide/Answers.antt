-- `closure::first_on_cycle_wide` meets its contract. Assumes nothing.
use Rattle.closure.proofs.PairLaws.{same_chunks}
use Rattle.closure.proofs.first_on_cycle_wide.Goals as goal

pub returns : goal.returns
returns c = c.lowest_on_cycle.ensures c.args.pairs.now (same_chunks c.args.pairs.now _ c.as_chunks.ensures.front)
