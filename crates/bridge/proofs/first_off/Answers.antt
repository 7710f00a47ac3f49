-- `bridge::first_off` meets its contract. Assumes nothing.
use Rattle.std.proofs.Common.{rules}
use Rattle.answer.proofs.SearchLaws.{found_by}
use Rattle.std.specs.Prelude.{get_or}
use Rattle.std.specs.Float.{nan}
use Rattle.bridge.specs.Question.{off_the_way, first_off}
use Rattle.bridge.proofs.first_off.Goals as goal

pub returns : goal.returns
unfolding first_off
returns c =
    found_by (λ k. off_the_way c.args.whole (get_or c.args.centres.now k nan)) _ _ _ _ c.find.ensures.ran (λ k q e. search rules) (λ k q e. search rules)
