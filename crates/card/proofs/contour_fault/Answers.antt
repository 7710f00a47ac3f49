-- `card::contour_fault` meets its contract. Assumes nothing.
use Rattle.std.proofs.Common.{rules}
use Rattle.answer.proofs.SearchLaws.{found_by}
use Rattle.card.specs.Stages.{bad_contour, contour_fault}
use Rattle.card.proofs.contour_fault.Goals as goal

pub returns : goal.returns
unfolding contour_fault
returns c =
    rw (← c.contours.ensures) (found_by (bad_contour c.args.card.now) _ _ _ _ c.find.ensures.ran
    (λ k q e. search rules) (λ k q e. search rules))
