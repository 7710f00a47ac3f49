-- `card::repeat_fault` meets its contract. Assumes nothing.
use Rattle.std.proofs.Common.{rules}
use Rattle.answer.proofs.SearchLaws.{found_by}
use Rattle.card.specs.Stages.{repeats, repeat_fault}
use Rattle.card.proofs.repeat_fault.Goals as goal

pub returns : goal.returns
unfolding repeat_fault
returns c =
    rw (← c.contours.ensures) (found_by (repeats c.args.card.now) _ _ _ _ c.find.ensures.ran
    (λ k q e. search rules) (λ k q e. search rules))
