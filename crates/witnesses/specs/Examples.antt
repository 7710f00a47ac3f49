-- Cards that meet what the demands ask for, so that none of them speaks of nothing: job 41, one whose search is cut,
-- and one sent back with 12. And what is printed of the first and the last, byte for byte. Assumes nothing.
use Rattle.std.specs.Prelude.{◌≡◌, false, [], ◌∷◌, ℕ, ◌*◌, ◌<◌, replicate, Ok}
use Rattle.std.specs.Float.{binary64}
use Rattle.std.specs.Float.Ieee.{of_bits}
use Rattle.answer.specs.declared.ContourType.TheVariants.{Exterior}
use Rattle.answer.specs.declared.CutDirectionPreference.TheVariants.{Auto}
use Rattle.answer.specs.declared.Point.{Point}
use Rattle.card_laws.specs.Card.{Card, Contour}
use Rattle.card_laws.specs.Table.{Past11}
use Rattle.card_laws.specs.Orders.{RefusedWith}
use Rattle.card_laws.specs.Write.{written}
use Rattle.card_laws.specs.Examples.{partless, waits, job41, waiting}
use Rattle.tour.specs.Search.{outcome_on}
use Rattle.tour.specs.Tour.{tour_of}
use Rattle.text.specs.Text.{bytes}
use Rattle.list.specs.Lines.{list_of}
use Rattle.demands.specs.Demand2.{search_on}
use Rattle.demands.specs.Demand3.{OnGrid}

-- a point by the bits of its coordinates
abbrev pub at : ℕ → ℕ → Point
at x y = record { x = of_bits binary64 x; y = of_bits binary64 y }

-- a square with two opposite corners
abbrev pub boxed : ℕ → ℕ → ℕ → ℕ → ℕ → Contour
boxed id x y u v = partless id (10 * id) Exterior (at x y ∷ at u y ∷ at u v ∷ at x v ∷ [])

-- three squares, two candidates each, the first before the second, and a limit of two trials
abbrev pub limited : Card
limited =
    record {
      version = 1;
      job = 42;
      per_contour_lem = 2;
      passes = 10;
      move_limit_lem = 2;
      home = at 0 0;
      exterior = Auto;
      interior = Auto;
      grid = false;
      contours = boxed 5 0 0 0x4010_0000_0000_0000 0x4010_0000_0000_0000
          ∷ boxed 6 0x4020_0000_0000_0000 0 0x4028_0000_0000_0000 0x4010_0000_0000_0000
          ∷ boxed 7 0x4020_0000_0000_0000 0x4020_0000_0000_0000 0x4028_0000_0000_0000 0x4028_0000_0000_0000
          ∷ [];
      pairs = waits 5 6 ∷ [];
    }

-- the card is answered with a tour, in rooms for n contours and t candidates
abbrev pub Answered : Card → ℕ → ℕ → Type 0
Answered c n t =
    (tour_of (written c) (replicate n 0) (replicate (t * t) (of_bits binary64 0))).answer ≡ Ok (outcome_on (written c))

-- demands 2 and 3: an answer with a tour, on the grid
pub record AnsweredOnGrid : Type 0 where
  pub job41_answered : Answered job41 3 3
  pub job41-on-grid : OnGrid (written job41)
  pub limited_answered : Answered limited 3 6
  pub limited-on-grid : OnGrid (written limited)

-- demand 2: a limit that cuts
pub record CutByLimit : Type 0 where
  pub limited_needs_more : 2 < (search_on (written limited) 0).moves
  pub limited_cut : (outcome_on (written limited)).moves ≡ 2

-- demand 1: no fault before 12, and 12
pub record SentBackWith12 : Type 0 where
  pub waiting-past : Past11 (written waiting)
  pub waiting-refused : RefusedWith 12 (written waiting)

-- the lists, as `list::write_list` writes them
pub record Printed : Type 0 where
  pub job41_printed :
      list_of (written job41)
      ≡ bytes "JOB 41 CONTOURS 3\n2 20 0 cw\n9 90 0 ccw\n7 70 0 ccw\nMOVES 1\nRAPID 4038000000000000\n"
  pub waiting_printed : list_of (written waiting) ≡ bytes "REFUSED 12 AT 1\n"

-- all of them: what stands apart is proved apart
abbrev pub Claim : Type 0
Claim = AnsweredOnGrid × CutByLimit × SentBackWith12 × Printed
