-- Cards that ask for the grid: a square whose candidates are moved, with its tour, and ties of half a step on either
-- side of zero. They meet the premise of demand 3 on such cards; the first without asking does not meet the other one.
-- Assumes nothing.
use Rattle.std.specs.Prelude.{◌≡◌, Bool, true, false, List, [], ◌∷◌, map, ℕ}
use Rattle.std.specs.Float.{binary64}
use Rattle.std.specs.Float.Ieee.{of_bits}
use Rattle.answer.specs.declared.CutDirectionPreference.TheVariants.{Auto}
use Rattle.answer.specs.declared.Point.{Point}
use Rattle.card_laws.specs.Card.{Card}
use Rattle.card_laws.specs.Write.{written}
use Rattle.table.specs.Distances.{pierced}
use Rattle.candidates.specs.declared.Candidate.{Candidate}
use Rattle.instance.specs.Search.{candidates_on}
use Rattle.tour.specs.Search.{tour_on, outcome_on}
use Rattle.text.specs.Text.{bytes}
use Rattle.list.specs.Lines.{list_of}
use Rattle.demands.specs.Demand3.{OnGrid, OutlinesOnGrid}
use Rattle.witnesses.specs.Examples.{at, boxed, Answered}
use Rattle.witnesses.specs.Taken.{along}

-- a third of the square's side of 4 is 1.333.. mm and no grid point: 1365 steps are nearest to it
abbrev pub third : ℕ
third = 0x3ff5_5400_0000_0000

-- the square (0,0) to (4,4), of which candidate 1 is a third up its right side, and candidate 2 on its upper one as far
-- from its left end; home at 8, dots at 9 and at 10, candidates 3 and 4, all three a third up; asking for the grid or
-- not
abbrev pub thirds : Bool → Card
thirds asking =
    record {
      version = 2;
      job = 49;
      per_contour_lem = 3;
      passes = 10;
      move_limit_lem = 0;
      home = at 0x4020_0000_0000_0000 third;
      exterior = Auto;
      interior = Auto;
      grid = asking;
      contours = boxed 5 0 0 0x4010_0000_0000_0000 0x4010_0000_0000_0000
          ∷ along 6 (at 0x4022_0000_0000_0000 third ∷ []) ∷ along 7 (at 0x4024_0000_0000_0000 third ∷ []) ∷ [];
      pairs = [];
    }

-- where the candidates of a card are pierced
abbrev pub stops : Card → List Point
stops c = map pierced (candidates_on (written c))

-- its candidates are on the grid where it asks, two of them moved there, and not all where it does not; and its tour
pub record SquareMoved : Type 0 where
  pub answered : Answered (thirds true) 3 5
  pub outlines_on-grid : OutlinesOnGrid (written (thirds true))
  pub stops_are : stops (thirds true)
      ≡ at 0 0 ∷ at 0x4010_0000_0000_0000 third ∷ at third 0x4010_0000_0000_0000 ∷ at 0x4022_0000_0000_0000 third
      ∷ at 0x4024_0000_0000_0000 third ∷ []
  pub tour_is : tour_on (written (thirds true)) ≡ 3 ∷ 4 ∷ 1 ∷ []
  pub tour_long : (outcome_on (written (thirds true))).length ≡ of_bits binary64 0x4020_0000_0000_0000
  pub moves_are : (outcome_on (written (thirds true))).moves ≡ 3
  pub printed : list_of (written (thirds true))
      ≡ bytes "JOB 49 CONTOURS 3\n6 60 0 ccw\n7 70 0 ccw\n5 50 1 ccw\nMOVES 3\nRAPID 4020000000000000\n"
  pub not_asking_answered : Answered (thirds false) 3 5
  pub not_asking_off : OnGrid (written (thirds false)) → ⊥

-- a step of the grid, and half a step; and the same below zero
abbrev pub one_step : ℕ
one_step = 0x3f50_0000_0000_0000

abbrev pub half_step : ℕ
half_step = 0x3f40_0000_0000_0000

abbrev pub one_step_down : ℕ
one_step_down = 0xbf50_0000_0000_0000

abbrev pub half_step_down : ℕ
half_step_down = 0xbf40_0000_0000_0000

-- a slit a step long above zero and one below, with c candidates each: of four the second and the fourth are half a
-- step from zero. Home three steps below zero
abbrev pub ties : ℕ → Bool → Card
ties c asking =
    record {
      version = 2;
      job = 50;
      per_contour_lem = c;
      passes = 10;
      move_limit_lem = 0;
      home = at 0xbf68_0000_0000_0000 0;
      exterior = Auto;
      interior = Auto;
      grid = asking;
      contours = along 5 (at 0 0 ∷ at one_step 0 ∷ []) ∷ along 6 (at 0 0 ∷ at one_step_down 0 ∷ []) ∷ [];
      pairs = [];
    }

-- each of the halves goes to the step farther from zero; the vertex is the one found. A quarter of a step goes to +0
-- from either side, three quarters to the step
pub record TiesMoved : Type 0 where
  pub answered : Answered (ties 4 true) 2 8
  pub outlines_on-grid : OutlinesOnGrid (written (ties 4 true))
  pub stops_are : stops (ties 4 true)
      ≡ at 0 0 ∷ at one_step 0 ∷ at one_step 0 ∷ at one_step 0
      ∷ at 0 0 ∷ at one_step_down 0 ∷ at one_step_down 0 ∷ at one_step_down 0 ∷ []
  pub vertices_are : map (λ (c : Candidate). c.vertex) (candidates_on (written (ties 4 true)))
      ≡ 0 ∷ 0 ∷ 0 ∷ 1 ∷ 0 ∷ 0 ∷ 0 ∷ 1 ∷ []
  pub not_asking : stops (ties 4 false)
      ≡ at 0 0 ∷ at half_step 0 ∷ at one_step 0 ∷ at half_step 0
      ∷ at 0 0 ∷ at half_step_down 0 ∷ at one_step_down 0 ∷ at half_step_down 0 ∷ []
  pub of_eighths : stops (ties 8 true)
      ≡ at 0 0 ∷ at 0 0 ∷ at one_step 0 ∷ at one_step 0 ∷ at one_step 0 ∷ at one_step 0 ∷ at one_step 0 ∷ at 0 0
      ∷ at 0 0 ∷ at 0 0 ∷ at one_step_down 0 ∷ at one_step_down 0 ∷ at one_step_down 0 ∷ at one_step_down 0
      ∷ at one_step_down 0 ∷ at 0 0 ∷ []
  pub printed : list_of (written (ties 4 true))
      ≡ bytes "JOB 50 CONTOURS 2\n6 60 1 ccw\n5 50 0 ccw\nMOVES 0\nRAPID 3f68000000000000\n"

abbrev pub Claim : Type 0
Claim = SquareMoved × TiesMoved
