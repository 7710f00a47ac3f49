-- `points::first_bad` meets its contract. Assumes nothing.
use Rattle.std.proofs.Common.{rules}
use Rattle.answer.proofs.SearchLaws.{found_by}
use Rattle.points.specs.Bad.{bad_at, first_bad}
use Rattle.points.proofs.first_bad.Goals as goal

pub returns : goal.returns
unfolding first_bad bad_at
returns c =
    found_by (bad_at c.args.numbers.now) _ _ _ _ c.find.ensures.ran (λ k q e. search rules) (λ k q e. search rules)
