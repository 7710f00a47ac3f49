-- `closure::join_rows` meets its contract. Assumes nothing.
use borrow.Author.Rules.{rules}
use Rattle.closure.proofs.FlagLaws.{rows_none, rows_more, rows_joined}
use Rattle.closure.proofs.join_rows.Goals as goal

pub loop-i-init : goal.loop-i-init
loop-i-init c = rows_none _ _ _ c.requires.2

pub loop-i-preserved : goal.loop-i-preserved
loop-i-preserved c =
    rows_more _ _ _ _ _ _ (search rules) (search rules) c.loop-i.invariant c.join_row.ensures

pub returns : goal.returns
returns c = rows_joined _ _ _ _ _ c.loop-i-test.false c.loop-i.invariant
