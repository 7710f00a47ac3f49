-- `hierarchy::sorted` meets its contract. Assumes nothing.
use Rattle.hierarchy.proofs.SortLaws.{stands_first, sorted_is}
use borrow.Author.Rules.{rules}
use Rattle.hierarchy.proofs.sorted.Goals as goal

pub take_queue-count-requires : goal.take_queue-count-requires
take_queue-count-requires c = (
  search rules,
  (stands_first c.args.n c.args.pairs.now _ _ _ c.requires
      c.tally-waits.ensures c.list_free-free.ensures).roomy,
)

pub returns : goal.returns
returns c =
    sorted_is c.args.n c.args.pairs.now _ _ _ _ _
    (stands_first c.args.n c.args.pairs.now _ _ _ c.requires
    c.tally-waits.ensures c.list_free-free.ensures)
    c.take_queue-count.ensures
