-- `card::bad_spare` meets its contract. Assumes nothing.
use borrow.Author.Tests.{le-ltb}
use Rattle.card.proofs.SpareLaws.{none_spare}
use Rattle.card.proofs.bad_spare.Goals as goal

pub returns-else-u-end : goal.returns-else-u-end
returns-else-u-end c = rw (le-ltb c.used-u.result c.spare_end-end.result c.if-u-end.false)
    (none_spare c.args.card.now _ _ _ c.used-u.ensures c.spare_end-end.ensures c.if-u-end.false)
