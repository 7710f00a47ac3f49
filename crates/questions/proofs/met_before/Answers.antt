-- `questions::met_before` meets its contract. Assumes nothing.
use Rattle.std.specs.Prelude.{eqb}
use Rattle.std.proofs.Common.{rules}
use Rattle.answer.proofs.SearchLaws.{any_by}
use Rattle.questions.specs.Order.{stop_at}
use Rattle.questions.proofs.met_before.Goals as goal

pub returns : goal.returns
returns c =
    let owner = c.args.owner.now in
    let order = c.args.order.now in
    any_by (λ j. eqb (stop_at owner order j) (stop_at owner order c.args.p)) _ _ _ _ c.any.ensures.ran
    (λ j q e. search rules) (λ j q e. search rules)
