-- `card::tag_fault` meets its contract. Assumes nothing.
use Rattle.std.proofs.Common.{rules}
use Rattle.answer.proofs.SearchLaws.{found_by}
use Rattle.card.specs.Stages.{other_tag, tag_fault}
use Rattle.card.proofs.tag_fault.Goals as goal

pub returns : goal.returns
unfolding tag_fault
returns c = rw (← c.pairs.ensures)
    (found_by (other_tag c.args.card.now) _ _ _ _ c.find.ensures.ran (λ k q e. search rules) (λ k q e. search rules))
