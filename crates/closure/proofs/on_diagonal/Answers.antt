-- `closure::on_diagonal` meets its contract. Assumes nothing.
use Rattle.std.proofs.Common.{rules}
use Rattle.answer.proofs.SearchLaws.{found_by}
use Rattle.closure.specs.Flags.{flag}
use Rattle.closure.proofs.on_diagonal.Goals as goal

pub returns : goal.returns
returns c =
    found_by (λ k. flag c.args.flags.now k k) _ _ _ _ c.find.ensures.ran (λ k q e. search rules) (λ k q e. search rules)
