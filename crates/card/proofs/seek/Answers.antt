-- `card::seek` meets its contract. Assumes nothing.
use Rattle.std.proofs.Common.{rules}
use Rattle.answer.proofs.SearchLaws.{found_by}
use Rattle.card.specs.Stages.{seek_of}
use Rattle.std.specs.Prelude.{eqb}
use Rattle.fields.specs.Layout.{id_of}
use Rattle.card.proofs.seek.Goals as goal

pub returns : goal.returns
unfolding seek_of
returns c =
    found_by (λ k. eqb (id_of c.args.card.now k) c.args.wanted) _ _ _ _ c.find.ensures.ran
    (λ k q e. search rules) (λ k q e. search rules)
