-- `questions::first_bad_stop` meets its contract. Assumes nothing.
use Rattle.std.proofs.Common.{rules}
use Rattle.answer.proofs.SearchLaws.{found_by}
use Rattle.questions.specs.Order.{bad_stop, first_bad_stop}
use Rattle.questions.proofs.first_bad_stop.Goals as goal

pub returns : goal.returns
unfolding first_bad_stop
returns c =
    found_by (bad_stop c.args.owner.now c.args.t c.args.order.now) _ _ _ _ c.find.ensures.ran (λ k q e. search rules) (λ k q e. search rules)
