-- Demand 1 holds: the card's rows by the crate `card`, 13 and the rooms by the definition of the tour. Assumes nothing.
use mathlib.Core.List.{List}
use Prim.Native.Nat.{ℕ}
use Rattle.card_laws.proofs.OrderRows.{twelve_exactly}
use Rattle.card_laws.proofs.Verdicts.{exactly}
use Rattle.demands.specs.Demand1.{Checked, Claim}
use Rattle.demands.proofs.AskedLaws.{asked}
use Rattle.demands.proofs.Doors.{doors}

checked : (s : List ℕ) → Checked s
checked s = record {
  refused = λ r. ((exactly s).refused_only r, (exactly s).refused-if r);
  fine = ((exactly s).fine_only, (exactly s).fine_if);
  impossible = λ past. ((twelve_exactly s).no_order past, (twelve_exactly s).sent_back past);
}

pub claim : Claim
claim = (checked, asked, doors)
