-- `card::cycle_fault` meets its contract. Assumes nothing.
use Rattle.std.specs.Prelude.{None}
use Rattle.card.specs.Names.{pairs_on}
use Rattle.card.proofs.GroupLaws.{cycle_is}
use Rattle.card.proofs.NameLaws.{named_front}
use Rattle.card.proofs.cycle_fault.Goals as goal

pub returns : goal.returns
returns c = let s = c.args.card.now in
    cycle_is s _ _ _ c.contours.ensures (named_front None (pairs_on s) c.join_rules-joined.ensures)
    c.first_on_cycle.ensures
