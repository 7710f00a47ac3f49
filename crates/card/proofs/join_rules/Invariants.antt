-- `card::join_rules` meets its contract. Assumes nothing.
use mathlib.Core.Path.{◌≡◌}
use lib.ListN.{length}
use Rattle.answer.specs.Room.{padded}
use Rattle.card.specs.Names.{seat_limit}
use Rattle.card.proofs.RuleLaws.{joined_to}
use Rattle.card.proofs.join_rules.Given as goal

-- the pairs by rule of the first k contours stand behind the written ones
abbrev pub invariant-loop-k : goal.invariant-loop-k
invariant-loop-k l =
    (l.positions ≡ padded seat_limit 0 (joined_to l.card l.k)) × (l.count ≡ length (joined_to l.card l.k))
