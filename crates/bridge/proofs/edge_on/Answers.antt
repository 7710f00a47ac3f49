-- `bridge::edge_on` meets its contract. Assumes nothing.
use Rattle.std.proofs.Common.{rules}
use Rattle.answer.proofs.SearchLaws.{found_by}
use Rattle.bridge.specs.Lookup.{falls_on, edge_on}
use Rattle.bridge.proofs.edge_on.Goals as goal

pub returns : goal.returns
unfolding edge_on
returns c =
    rw (← c.saturating_sub.ensures) (found_by (falls_on c.args.marks.now c.args.d) _ _ _ _ c.find.ensures.ran (λ k q e. search rules) (λ k q e. search rules))
