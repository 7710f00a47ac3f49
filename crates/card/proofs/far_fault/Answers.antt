-- `card::far_fault` meets its contract. Assumes nothing.
use Rattle.std.proofs.Common.{rules}
use Rattle.answer.proofs.SearchLaws.{found_by}
use Rattle.card.specs.Stages.{far_place, far_fault}
use Rattle.card.proofs.far_fault.Goals as goal

pub returns : goal.returns
unfolding far_fault
returns c =
    rw (← c.u16_at-n.ensures) (found_by (far_place c.args.card.now) _ _ _ _ c.find.ensures.ran
    (λ k q e. search rules) (λ k q e. search rules))
