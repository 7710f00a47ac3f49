-- `card::pair_places` meets its contract. Assumes nothing.
use native.Mathlib.Omega.{arith}
use Rattle.card.proofs.NameLaws.{too_many_contours, too_many_pairs, all_named, stopped_named, joined_named}
use Rattle.card.proofs.pair_places.Goals as goal
use Rattle.card.proofs.pair_places.Goals.{then-contours-gt-CONTOURS-via-then-contours-gt-CONTOURS}
use Rattle.card.proofs.pair_places.Goals.{then-contours-gt-CONTOURS-via-else-contours-gt-CONTOURS+then-pairs-gt-PAIRS}

pub returns-then-contours-gt-CONTOURS : goal.returns-then-contours-gt-CONTOURS
returns-then-contours-gt-CONTOURS c = elim c.then-contours-gt-CONTOURS.branch [
  | then-contours-gt-CONTOURS-via-then-contours-gt-CONTOURS w ↦ too_many_contours _ (omega arith)
  | then-contours-gt-CONTOURS-via-else-contours-gt-CONTOURS+then-pairs-gt-PAIRS w ↦ too_many_pairs _ (omega arith)
]

pub join_rules-requires : goal.join_rules-requires
join_rules-requires c = all_named _ _ (omega arith) (omega arith) c.named_pairs-named.ensures c.in-None.is

pub returns-in-Some : goal.returns-in-Some
returns-in-Some c = stopped_named _ (omega arith) (omega arith) _ c.named_pairs-named.ensures _ c.in-Some.is

pub returns-in-None : goal.returns-in-None
returns-in-None c = joined_named _ (omega arith) (omega arith) _ c.named_pairs-named.ensures _ c.in-None.is
    c.join_rules.ensures
