-- `improve::turn_at` meets its contract. The invariant: the candidates still to come make of this state what all of
-- them make of the first; the count has grown by no more than the candidates passed. Assumes nothing.
use mathlib.Core.Path.{refl, sym, ◌∙◌}
use native.Mathlib.Omega.{arith}
use Rattle.table.proofs.EachLaws.{begin, carry, arrive}
use Rattle.improve.proofs.IdleLaws.{halt}
use Rattle.improve.proofs.TrialLaws.{alternative_idle, alternative-held, alternative-stops, alternative_goes, turn_is}
use Rattle.improve.proofs.turn_at.Goals as goal

pub loop-a-init : goal.loop-a-init
loop-a-init c = (sym (begin _ _ _ _), omega arith, omega arith)

pub loop-a-preserved-then-a-held : goal.loop-a-preserved-then-a-held
loop-a-preserved-then-a-held c = (
  carry _ _ _ _ _ _ c.loop-a.invariant.0 c.loop-a-test.true (alternative-held _ _ _ _ _ _ c.if-a-held.true),
  omega arith,
  omega arith,
)

pub returns-then-at_limit-clause-result_after : goal.returns-then-at_limit-clause-result_after
returns-then-at_limit-clause-result_after c =
    turn_is _ _ _ _ _ _ _ _ (c.from-k.ensures ∙ c.owner_of.ensures) c.byte_at-from.ensures c.byte_at-end.ensures
    (halt _ _ _ _ _ _ (alternative_idle _ _ _ _) c.loop-a.invariant.0 c.loop-a-test.true
    (alternative-stops _ _ _ _ _ _ _ _ c.if-a-held.false c.at_limit.ensures c.if-at_limit.true) refl)

pub loop-a-preserved : goal.loop-a-preserved
loop-a-preserved c = (
  carry _ _ _ _ _ _ c.loop-a.invariant.0 c.loop-a-test.true
      (rw c.count.ensures
      (alternative_goes _ _ _ _ _ _ _ _ c.if-a-held.false c.at_limit.ensures _ _ _ c.if-at_limit.false refl
      c.try_candidate.ensures)),
  omega arith,
  rw c.count.ensures (omega arith),
)

pub returns-clause-result_after : goal.returns-clause-result_after
returns-clause-result_after c =
    turn_is _ _ _ _ _ _ _ _ (c.from-k.ensures ∙ c.owner_of.ensures) c.byte_at-from.ensures c.byte_at-end.ensures
    (arrive _ _ _ _ _ c.loop-a.invariant.0 c.loop-a-test.false)
