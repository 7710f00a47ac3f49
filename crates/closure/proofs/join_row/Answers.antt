-- `closure::join_row` meets its contract. Assumes nothing.
use borrow.Author.Rules.{rules}
use Rattle.closure.proofs.FlagLaws.{row-none, row_more, row-joined, row_kept}
use Rattle.closure.proofs.join_row.Goals as goal

pub loop-j-init : goal.loop-j-init
loop-j-init c = row-none _ _ _ _ c.requires.3

pub loop-j-preserved : goal.loop-j-preserved
loop-j-preserved c =
    row_more _ _ _ _ _ _ (search rules) (search rules) (search rules) c.loop-j.invariant

pub returns-after-loop-j : goal.returns-after-loop-j
returns-after-loop-j c = row-joined _ _ _ _ _ _ c.if-flags-i.true c.loop-j-test.false c.loop-j.invariant

pub returns-else-flags-i : goal.returns-else-flags-i
returns-else-flags-i c = row_kept _ _ _ _ c.requires.3 c.if-flags-i.false
