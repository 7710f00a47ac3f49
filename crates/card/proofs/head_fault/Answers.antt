-- `card::head_fault` meets its contract. Assumes nothing.
use Rattle.std.proofs.Common.{rules}
use Rattle.answer.proofs.SearchLaws.{found_by}
use Rattle.card.specs.Stages.{head_faults, head_fault_within}
use Rattle.std.specs.Prelude.{get_or, false}
use Rattle.card.proofs.head_fault.Goals as goal

pub returns : goal.returns
unfolding head_fault_within
returns c =
    found_by (λ f. get_or (head_faults c.args.card.now) f false) _ _ _ _ c.find.ensures.ran
    (λ k q e. search rules) (λ k q e. search rules)
