-- `card::check_fault` meets its contract. Assumes nothing.
use Rattle.std.proofs.Common.{rules}
use Rattle.answer.proofs.SearchLaws.{found_by}
use Rattle.card.specs.Stages.{bad_check, check_fault}
use Rattle.card.proofs.check_fault.Goals as goal

pub returns : goal.returns
unfolding check_fault
returns c =
    found_by (bad_check c.args.card.now) _ _ _ _ c.find.ensures.ran (λ k q e. search rules) (λ k q e. search rules)
