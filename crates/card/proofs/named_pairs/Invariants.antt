-- `card::named_pairs` meets its contract. Assumes nothing.
use mathlib.Core.Path.{◌≡◌}
use Rattle.answer.specs.Room.{padded}
use Rattle.answer.proofs.LowestLaws.{Nowhere}
use Rattle.card.specs.Stages.{unnamed}
use Rattle.card.specs.Names.{seats_of, seat_limit}
use Rattle.card.proofs.named_pairs.Given as goal

-- the first q pairs are known and placed
abbrev pub invariant-loop-q : goal.invariant-loop-q
invariant-loop-q l = Nowhere (unnamed l.card) l.q × (l.positions ≡ padded seat_limit 0 (seats_of l.card l.q))
