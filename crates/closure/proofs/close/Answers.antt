-- `closure::close` meets its contract. Assumes nothing.
use borrow.Author.Rules.{rules}
use Rattle.closure.proofs.FlagLaws.{closed_none, closed_more, closed_all}
use Rattle.closure.proofs.close.Goals as goal

pub loop-k-init : goal.loop-k-init
loop-k-init c = closed_none _ _ c.requires.1

pub loop-k-preserved : goal.loop-k-preserved
loop-k-preserved c = closed_more _ _ _ _ _ (search rules) c.loop-k.invariant c.join_rows.ensures

pub returns : goal.returns
returns c = closed_all _ _ _ _ c.loop-k-test.false c.loop-k.invariant
