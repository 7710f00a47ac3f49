-- `improve::run` meets its contract. Each loop's invariant: what is still to come in it makes of this state what the
-- whole loop makes of the state at its beginning. Assumes nothing.
use mathlib.Core.Path.{refl, sym, ◌∙◌}
use native.Mathlib.Omega.{arith}
use Rattle.table.proofs.EachLaws.{begin, begin-zero, carry, arrive}
use Rattle.improve.proofs.IdleLaws.{halt}
use Rattle.improve.proofs.PassLaws.{turns_cut, turns_done, repeat_over, repeat_more, last_cut, last_quiet}
use Rattle.improve.proofs.PassLaws.{row_is, reached}
use Rattle.improve.proofs.TrialLaws.{turn_idle, row_idle, reversal_idle, reversal-stops, reversal_goes}
use Rattle.improve.proofs.run.Goals as goal

pub loop-p-init : goal.loop-p-init
loop-p-init c = (begin-zero _ _ _, omega arith)

pub loop-p-preserved : goal.loop-p-preserved
loop-p-preserved c = (
  carry _ _ _ _ _ _ c.loop-p.invariant.0 c.loop-p-test.true
      (sym (rw (sym c.is_err.ensures.value ∙ c.if-is_err.false) at c.turn_at.ensures.result_after)),
  omega (arith, c.turn_at.ensures.moves_bound_2),
)

pub loop-i-init : goal.loop-i-init
loop-i-init c = (begin-zero _ _ _, omega arith)

pub loop-j-init : goal.loop-j-init
loop-j-init c = (sym (begin _ _ _ _), omega arith)

pub loop-j-preserved : goal.loop-j-preserved
loop-j-preserved c = (
  carry _ _ _ _ _ _ c.loop-j.invariant.0 c.loop-j-test.true
      (rw c.count.ensures
      (reversal_goes _ _ _ _ _ _ _ c.at_limit.ensures _ _ c.if-at_limit.false c.try_reversal-accepted.ensures)),
  rw c.count.ensures (omega arith),
)

pub loop-i-preserved : goal.loop-i-preserved
loop-i-preserved c = (
  carry _ _ _ _ _ _ c.loop-i.invariant.0 (omega arith)
      (sym (row_is _ _ _ _ _ _ (arrive _ _ _ _ _ c.loop-j.invariant.0 c.loop-j-test.false))),
  omega arith,
)

pub search-preserved : goal.search-preserved
search-preserved c = (
  repeat_more _ _ _ _ _ _ _ c.search.invariant.0 c.search-test.true _
      (turns_done _ _ _ _ _ _ _ c.loop-p.invariant.0 c.loop-p-test.false
      (arrive _ _ _ _ _ c.loop-i.invariant.0 (omega arith))) c.search.invariant.1 refl,
  c.if-not-progress.false,
  omega arith,
)

pub returns-after-search : goal.returns-after-search
returns-after-search c = reached _ _ (repeat_over _ _ _ _ _ _ _ c.search.invariant.0 c.search-test.false)

pub returns-then-is_err : goal.returns-then-is_err
returns-then-is_err c =
    let ended = sym c.is_err.ensures.value ∙ c.if-is_err.true in
    reached _ _ (last_cut _ _ _ _ _ _ _ c.search.invariant.0 c.search-test.true _
    (turns_cut _ _ _ _ _ (halt _ _ _ _ _ _ (turn_idle _ _) c.loop-p.invariant.0 c.loop-p-test.true
    (sym c.turn_at.ensures.result_after) ended) ended) c.search.invariant.1 refl ended)

pub returns-then-at_limit : goal.returns-then-at_limit
returns-then-at_limit c =
    reached _ _ (last_cut _ _ _ _ _ _ _ c.search.invariant.0 c.search-test.true _
    (turns_done _ _ _ _ _ _ _ c.loop-p.invariant.0 c.loop-p-test.false
    (halt _ _ _ _ _ _ (row_idle _ _ _) c.loop-i.invariant.0 (omega arith)
    (sym (row_is _ _ _ _ _ _ (halt _ _ _ _ _ _ (reversal_idle _ _ _) c.loop-j.invariant.0 c.loop-j-test.true
    (reversal-stops _ _ _ _ _ _ _ c.at_limit.ensures c.if-at_limit.true) refl))) refl))
    c.search.invariant.1 refl refl)

pub returns-then-not-progress : goal.returns-then-not-progress
returns-then-not-progress c =
    reached _ _ (last_quiet _ _ _ _ _ _ _ c.search.invariant.0 c.search-test.true _
    (turns_done _ _ _ _ _ _ _ c.loop-p.invariant.0 c.loop-p-test.false
    (arrive _ _ _ _ _ c.loop-i.invariant.0 (omega arith))) c.search.invariant.1 refl c.if-not-progress.true)
