-- The cards on which the rule shows, computed from their bytes. Assumes nothing.
use mathlib.Core.Path.{refl}
use Rattle.card_laws.specs.Card.{tabulated}
use Rattle.tour_laws.proofs.Computes.{tour_computes}
use Rattle.parts.specs.Holes.{HoleFirst, InOneList, FirstWaits, other_copy, loose, Unbound, Claim}

hole_first : HoleFirst
unfolding tour_computes tabulated
hole_first = record { read_back = refl; fine = refl; bound = refl; tour_is = refl; tour_long = refl }

in_one_list : InOneList
unfolding tour_computes
in_one_list = record { twice = refl; by_holes = refl }

first-waits : FirstWaits
unfolding tour_computes
first-waits = record { fine = refl; bound = refl; tour_is = refl }

other_copy_lem : Unbound other_copy
unfolding tour_computes
other_copy_lem = record { fine = refl; unbound = refl; tour_is = refl }

no_part : Unbound loose
unfolding tour_computes
no_part = record { fine = refl; unbound = refl; tour_is = refl }

pub claim : Claim
unfolding tour_computes
claim = record {
  hole_first = hole_first;
  in_one_list = in_one_list;
  first-waits = first-waits;
  other_copy_lem = other_copy_lem;
  no_part = no_part;
  told_otherwise = refl;
}
