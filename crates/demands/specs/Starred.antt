-- The starred cases of the scope document's section "Both sides of each edge", one table, each as whoever asks is
-- answered: root_of is what `root::root` promises, offered_of what `candidates::contour_candidates` does,
-- closest_on_polygon_of what `cost::closest_point_on_polygon`, check_of `card::check`, tour_of `tour::tour` and list_of
-- `list::write_list`. A card is its bytes, `written` from what it says; floats are given by their bits. Assumes
-- nothing.
use Rattle.std.specs.Prelude.{◌≡◌, false, List, [], ◌∷◌, ◌++◌, ℕ, ◌*◌, ◌≤◌, Float, length, get_or, drop, Err, Ok, Some}
use Prim.Native.String.{String}
use Rattle.std.specs.Float.{binary64}
use Rattle.std.specs.Float.Ieee.{of_bits}
use Rattle.answer.specs.declared.ContourType.{ContourType}
use Rattle.answer.specs.declared.CutDirectionPreference.{CutDirectionPreference}
use Rattle.answer.specs.declared.Refusal.{Refusal}
use Rattle.root.specs.Root.{sqrt_of, root_of}
use Rattle.points.specs.Numbers.{zero64}
use Rattle.points.specs.Points.{point}
use Rattle.points.specs.Square.{four64, square}
use Rattle.cost.specs.Closest.{closest_on_polygon_of}
use Rattle.candidates.specs.declared.Candidate.{Candidate}
use Rattle.candidates.specs.Direction.{direction_of}
use Rattle.candidates.specs.Along.{spot}
use Rattle.candidates.specs.Generate.{candidate_at, blank, Candidates, filled}
use Rattle.candidates.specs.Question.{offered_of}
use Rattle.card.specs.Verdict.{check_of}
use Rattle.card_laws.specs.Card.{Card}
use Rattle.card_laws.specs.Write.{written}
use Rattle.card_laws.specs.Examples.{as_job41, job41, self_pair, waiting}
use Rattle.instance.specs.Search.{table_on}
use Rattle.tour.specs.Tour.{left, tour_of}
use Rattle.text.specs.Text.{bytes}
use Rattle.list.specs.Lines.{list_of}

-- ---- roots: of 4, of 0.25, of 1 + 2^-52, of 1 - 2^-53, of 2^-1074

-- the root of one pattern of bits is another: as it is asked for, and as the distances take it
pub record HasRoot (x r : ℕ) : Type 0 where
  pub asked : root_of (of_bits binary64 x) ≡ Ok (of_bits binary64 r)
  pub within : sqrt_of (of_bits binary64 x) ≡ of_bits binary64 r

pub record OfRoots : Type 0 where
  pub root_four : HasRoot 0x4010_0000_0000_0000 0x4000_0000_0000_0000
  pub root_quarter : HasRoot 0x3fd0_0000_0000_0000 0x3fe0_0000_0000_0000
  pub root-above-one : HasRoot 0x3ff0_0000_0000_0001 0x3ff0_0000_0000_0000
  pub root_below_one : HasRoot 0x3fef_ffff_ffff_ffff 0x3fef_ffff_ffff_ffff
  pub root_smallest : HasRoot 1 0x1e60_0000_0000_0000

-- ---- the square: two candidates, the second of four, the point closest to (2,2)

-- 0.5 and 2
abbrev pub half64 : Float
half64 = of_bits binary64 0x3fe0_0000_0000_0000

abbrev pub two64 : Float
two64 = of_bits binary64 0x4000_0000_0000_0000

-- the candidate at (x, y), found from this vertex on, of a contour of this type cut as these preferences say
abbrev pub pierced_at : Float → Float → ℕ → ContourType → CutDirectionPreference → CutDirectionPreference → Candidate
pierced_at x y vertex kind exterior interior = candidate_at (direction_of kind exterior interior) (spot (point x y) vertex)

pub record OfSquare : Type 0 where
  pub two_candidates : (kind : ContourType) (exterior interior : CutDirectionPreference)
      → offered_of square 2 false kind exterior interior
      ≡ Ok (filled (pierced_at zero64 zero64 0 kind exterior interior
      ∷ pierced_at four64 four64 1 kind exterior interior ∷ []))
  pub second_of_four : (kind : ContourType) (exterior interior : CutDirectionPreference)
      → (found : Candidates) × (offered_of square 4 false kind exterior interior ≡ Ok found) × (found.count ≡ 4)
      × (get_or found.items 1 blank ≡ pierced_at four64 zero64 0 kind exterior interior)
  pub closest : closest_on_polygon_of square (point two64 two64)
      ≡ Ok (Some (record { point = point two64 zero64; vertex = 0; t = half64 }))

-- ---- cards

-- a card goes through, in every room for n contours and table for t candidates: whoever asks for its tour is told so
-- many trials and a length of these bits, and finds the tour at the front of the room. The list reads so
pub record GoesThrough (c : Card) (n t : ℕ) (tour : List ℕ) (moves bits : ℕ) (list : String) : Type 0 where
  pub checked : check_of (written c) ≡ Ok tt
  pub toured : (room : List ℕ) (table : List Float) → n ≤ length room → t * t ≤ length table
      → tour_of (written c) room table
      ≡ left (Ok (record { moves = moves; length = of_bits binary64 bits })) (tour ++ drop n room)
      (table_on (written c) ++ drop (t * t) table)
  pub printed : list_of (written c) ≡ bytes list

-- a card goes back with this number and place, whatever is lent, and that stays as it was
pub record GoesBack (c : Card) (r : Refusal) (list : String) : Type 0 where
  pub checked : check_of (written c) ≡ Err r
  pub toured : (room : List ℕ) (table : List Float) → tour_of (written c) room table ≡ left (Err r) room table
  pub printed : list_of (written c) ≡ bytes list

-- no contours and no pairs: an empty tour, no trial, length 0
abbrev pub OfNothing : Type 0
OfNothing = GoesThrough (as_job41 [] []) 0 0 [] 0 0 "JOB 41 CONTOURS 0\nMOVES 0\nRAPID 0000000000000000\n"

-- position 3 waits on itself; position 0 waits on a cycle of 1 and 2
pub record OfCycles : Type 0 where
  pub self_pair_lem : GoesBack self_pair (record { number = 12; place = 3 }) "REFUSED 12 AT 3\n"
  pub waiting_only : GoesBack waiting (record { number = 12; place = 1 }) "REFUSED 12 AT 1\n"

-- job 41
abbrev pub OfJob41 : Type 0
OfJob41 = GoesThrough job41 3 3 (2 ∷ 1 ∷ 0 ∷ []) 1 0x4038_0000_0000_0000
    "JOB 41 CONTOURS 3\n2 20 0 cw\n9 90 0 ccw\n7 70 0 ccw\nMOVES 1\nRAPID 4038000000000000\n"

-- ---- the table: what stands apart is proved apart

pub record Starred : Type 0 where
  pub roots : OfRoots
  pub of_square : OfSquare
  pub of_nothing : OfNothing
  pub of_cycles : OfCycles
  pub of_job41 : OfJob41

abbrev pub Claim : Type 0
Claim = Starred
