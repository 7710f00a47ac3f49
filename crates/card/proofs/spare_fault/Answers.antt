-- `card::spare_fault` meets its contract. Assumes nothing.
use Rattle.std.proofs.Common.{rules}
use Rattle.answer.proofs.SearchLaws.{found_by}
use Rattle.card.specs.Stages.{bad_spare, spare_fault}
use Rattle.card.proofs.spare_fault.Goals as goal

pub returns : goal.returns
unfolding spare_fault
returns c =
    found_by (bad_spare c.args.card.now) _ _ _ _ c.find.ensures.ran (λ k q e. search rules) (λ k q e. search rules)
