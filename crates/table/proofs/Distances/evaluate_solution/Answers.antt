-- `Distances::evaluate_solution` meets its contract. The invariant: walking on from here gives the whole length.
-- Assumes nothing.
use Rattle.table.proofs.WalkLaws.{length_none, length-first, leg_more, legs_done}
use mathlib.Core.Path.{sym, ◌∙◌}
use borrow.Author.Tests.{eqb-true, eqb-false}
use Rattle.table.proofs.Distances.evaluate_solution.Goals as goal

pub returns-then-is_empty : goal.returns-then-is_empty
returns-then-is_empty c = length_none _ _ _ _ (eqb-true _ _ (sym c.is_empty.ensures ∙ c.if-is_empty.true))

pub loop-next-init : goal.loop-next-init
loop-next-init c =
    length-first _ _ _ _ _ (eqb-false _ _ (sym c.is_empty.ensures ∙ c.if-is_empty.false)) c.home_at-total.ensures

pub loop-next-preserved : goal.loop-next-preserved
loop-next-preserved c =
    leg_more _ _ _ _ _ _ _ _ c.loop-next.invariant c.loop-next-test.true c.distance_at-total.ensures

pub returns : goal.returns
returns c = legs_done _ _ _ _ _ _ _ c.loop-next.invariant c.loop-next-test.false
