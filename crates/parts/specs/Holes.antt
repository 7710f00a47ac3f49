-- Job 41 as a card of version 2, its pair forgotten and its contours of one part or another: what the rule binds, and
-- what it leaves free. Assumes nothing.
use Rattle.std.specs.Prelude.{◌≡◌, List, [], ◌∷◌, ℕ, pos, Err, Ok}
use Rattle.std.specs.Float.{binary64}
use Rattle.std.specs.Float.Ieee.{of_int}
use Rattle.answer.specs.declared.ContourType.TheVariants.{Interior}
use Rattle.card.specs.Verdict.{check_of}
use Rattle.card.specs.Names.{pairs_on}
use Rattle.card_laws.specs.Card.{Card, Contour, Pair, card_of}
use Rattle.card_laws.specs.Examples.{as_job, dot, seven, nine, two, waits, verdict_on}
use Rattle.card_laws.specs.Write.{written}
use Rattle.tour.specs.Search.{tour_on, outcome_on}

-- a contour as one of a part and a copy
abbrev pub in_part : ℕ → ℕ → Contour → Contour
in_part part copy c =
    record { id = c.id; tag = c.tag; kind = c.kind; vertices = c.vertices; part = part; copy = copy }

-- job 41 in version 2, under another number
abbrev pub parted : List Contour → List Pair → Card
parted = as_job 2 47

-- the hole and the outline at (3,0) are one part
abbrev pub holes : List Pair → Card
holes = parted (seven ∷ in_part 5 1 nine ∷ in_part 5 1 two ∷ [])

-- two holes and then their two outlines, the second hole's first
abbrev pub interleaved : List ℕ
interleaved =
    let inner = in_part 6 1 (dot 3 30 Interior 0 0) in
    written (parted (in_part 5 1 two ∷ inner ∷ in_part 6 1 nine ∷ in_part 5 1 seven ∷ []) [])

-- no pair is written: the hole goes before its outline, which is nearer home, and the tour is job 41's; written and
-- read back, the card is itself
pub record HoleFirst : Type 0 where
  pub read_back : card_of (written (holes [])) ≡ holes []
  pub fine : check_of (written (holes [])) ≡ Ok tt
  pub bound : pairs_on (written (holes [])) ≡ 2 ∷ 1 ∷ []
  pub tour_is : tour_on (written (holes [])) ≡ 2 ∷ 1 ∷ 0 ∷ []
  pub tour_long : (outcome_on (written (holes []))).length ≡ of_int binary64 (pos 24)

-- a pair that is written too stands twice; and with two parts, one inside the other in file order, those by rule follow
-- their holes
pub record InOneList : Type 0 where
  pub twice : pairs_on (written (holes (waits 2 9 ∷ []))) ≡ 2 ∷ 1 ∷ 2 ∷ 1 ∷ []
  pub by_holes : pairs_on interleaved ≡ 0 ∷ 3 ∷ 1 ∷ 2 ∷ []

-- both outlines and the hole are of one part and copy
abbrev pub doubled : List ℕ
doubled = written (parted (in_part 5 1 seven ∷ in_part 5 1 nine ∷ in_part 5 1 two ∷ []) [])

-- only the first waits: the second goes before the hole
pub record FirstWaits : Type 0 where
  pub fine : check_of doubled ≡ Ok tt
  pub bound : pairs_on doubled ≡ 2 ∷ 0 ∷ []
  pub tour_is : tour_on doubled ≡ 1 ∷ 2 ∷ 0 ∷ []

-- the hole is of another copy of the part; or all are of no part, in one copy
abbrev pub other_copy : List ℕ
other_copy = written (parted (seven ∷ in_part 5 1 nine ∷ in_part 5 2 two ∷ []) [])

abbrev pub loose : List ℕ
loose = written (parted (in_part 0 1 seven ∷ in_part 0 1 nine ∷ in_part 0 1 two ∷ []) [])

-- nothing waits: the nearest goes first
pub record Unbound (s : List ℕ) : Type 0 where
  pub fine : check_of s ≡ Ok tt
  pub unbound : pairs_on s ≡ []
  pub tour_is : tour_on s ≡ 1 ∷ 2 ∷ 0 ∷ []

-- and where the outline is written before its hole, both are on a cycle, the outline at position 1
pub record Claim : Type 0 where
  pub hole_first : HoleFirst
  pub in_one_list : InOneList
  pub first-waits : FirstWaits
  pub other_copy_lem : Unbound other_copy
  pub no_part : Unbound loose
  pub told_otherwise : verdict_on (holes (waits 9 2 ∷ [])) ≡ Err (record { number = 12; place = 1 })
