-- A card on which the search of demand 2 accepts trials of both kinds, and still does in its second pass, so that its
-- tour is another than its start; the same card with a limit that cuts inside that pass; and a card where a pair
-- forbids a shorter tour. Assumes nothing.
use Rattle.std.specs.Prelude.{◌≡◌, true, false, List, [], ◌∷◌, ℕ, zero, suc, ◌*◌, pos, Float, set}
use Rattle.std.specs.Float.{binary64}
use Rattle.std.specs.Float.Ieee.{of_int}
use Rattle.answer.specs.declared.ContourType.TheVariants.{Exterior}
use Rattle.answer.specs.declared.CutDirectionPreference.TheVariants.{Auto}
use Rattle.answer.specs.declared.Point.{Point}
use Rattle.card_laws.specs.Card.{Card, Contour}
use Rattle.card_laws.specs.Write.{written}
use Rattle.card_laws.specs.Examples.{partless, waits}
use Rattle.improve.specs.Search.{Chart, State, length_in, legal, shorter, reversed, fresh}
use Rattle.instance.specs.Search.{chart_on}
use Rattle.tour.specs.Search.{start_on, tour_on, outcome_on}
use Rattle.text.specs.Text.{bytes}
use Rattle.list.specs.Lines.{list_of}
use Rattle.demands.specs.Demand2.{made_on, pass_on, begun_on, search_on}
use Rattle.demands.specs.Demand3.{OnGrid}
use Rattle.witnesses.specs.Examples.{Answered}

-- ---- the cards

-- so many millimetres, and a point so far along the line y = 0
abbrev pub mm : ℕ → Float
mm n = of_int binary64 (pos n)

abbrev pub on : ℕ → Point
on x = record { x = mm x; y = mm 0 }

-- a contour on that line
abbrev pub along : ℕ → List Point → Contour
along id = partless id (10 * id) Exterior

-- home at 5; a slit from 2 to 10, whose ends are candidates 0 and 1, one from 1 to 8, candidates 2 and 3, and a dot at
-- 9, candidate 4; the first slit before the second; and a move limit
abbrev pub aligned : ℕ → Card
aligned limit =
    record {
      version = 1;
      job = 43;
      per_contour_lem = 2;
      passes = 10;
      move_limit_lem = limit;
      home = on 5;
      exterior = Auto;
      interior = Auto;
      grid = false;
      contours = along 5 (on 2 ∷ on 10 ∷ []) ∷ along 6 (on 1 ∷ on 8 ∷ []) ∷ along 7 (on 9 ∷ []) ∷ [];
      pairs = waits 5 6 ∷ [];
    }

-- home at 0; dots at 1, 3 and 2, candidates 0, 1 and 2; the second before the third
abbrev pub bound : Card
bound =
    record {
      version = 1;
      job = 44;
      per_contour_lem = 1;
      passes = 10;
      move_limit_lem = 0;
      home = on 0;
      exterior = Auto;
      interior = Auto;
      grid = false;
      contours = along 5 (on 1 ∷ []) ∷ along 6 (on 3 ∷ []) ∷ along 7 (on 2 ∷ []) ∷ [];
      pairs = waits 6 7 ∷ [];
    }

-- the bytes of the first without a limit, and with a limit of five trials
abbrev pub free : List ℕ
free = written (aligned 0)

abbrev pub capped : List ℕ
capped = written (aligned 5)

-- demands 2 and 3: an answer with a tour, on the grid
pub record LineAnswered : Type 0 where
  pub free_answered : Answered (aligned 0) 3 5
  pub free-on-grid : OnGrid free
  pub capped_answered : Answered (aligned 5) 3 5
  pub bound_answered : Answered bound 3 3

-- ---- a tour other than its start, and shorter

pub record Elsewhere : Type 0 where
  pub start_is : start_on free ≡ 0 ∷ 2 ∷ 4 ∷ []
  pub start_long : (begun_on free).cost ≡ mm 12
  pub tour_is : tour_on free ≡ 1 ∷ 4 ∷ 3 ∷ []
  pub tour_long : (outcome_on free).length ≡ mm 7
  pub differ : start_on free ≡ tour_on free → ⊥

-- ---- trials

-- where a search stands after M trials: as it begins, or cut there by its limit
abbrev pub after_on : List ℕ → ℕ → State
after_on s zero = begun_on s
after_on s (suc M) = search_on s (suc M)

-- candidate a at position p meets what demand 2 asks of one that is accepted, and is
pub record OtherTaken (chart : Chart) (v after : State) (p a : ℕ) : Type 0 where
  pub is_shorter_lem : shorter (length_in chart (set v.tour p a)) v.cost ≡ true
  pub tour_is : after.tour ≡ set v.tour p a
  pub cost_is : after.cost ≡ length_in chart (set v.tour p a)
  pub counted : after.moves ≡ suc v.moves

-- the stretch from i+1 to j reversed meets what demand 2 asks of one that is accepted, and is
pub record ReversalTaken (chart : Chart) (v after : State) (i j : ℕ) : Type 0 where
  pub is_shorter_lem : shorter (length_in chart (reversed i j v.tour)) v.cost ≡ true
  pub is_legal_lem : legal chart (reversed i j v.tour) ≡ true
  pub tour_is : after.tour ≡ reversed i j v.tour
  pub cost_is : after.cost ≡ length_in chart (reversed i j v.tour)
  pub counted : after.moves ≡ suc v.moves

-- it is shorter, but not legal, and so not accepted
pub record ReversalIllegal (chart : Chart) (v after : State) (i j : ℕ) : Type 0 where
  pub is_shorter_lem : shorter (length_in chart (reversed i j v.tour)) v.cost ≡ true
  pub is_illegal : legal chart (reversed i j v.tour) ≡ false
  pub tour_is : after.tour ≡ v.tour
  pub cost_is : after.cost ≡ v.cost
  pub counted : after.moves ≡ suc v.moves

-- on the first card the second trial, the fourth and the sixth are accepted: candidate 3 at position 1, candidate 1 at
-- position 0, and the last two positions reversed
pub record AcceptedTrials : Type 0 where
  pub second : OtherTaken (chart_on free) (after_on free 1) (after_on free 2) 1 3
  pub fourth : OtherTaken (chart_on free) (after_on free 3) (after_on free 4) 0 1
  pub sixth : ReversalTaken (chart_on free) (after_on free 5) (after_on free 6) 0 2

-- on the second card the only trial is shorter, and the pair forbids it
pub record ForbiddenTrial : Type 0 where
  pub only : ReversalIllegal (chart_on (written bound)) (after_on (written bound) 0) (after_on (written bound) 1) 0 2
  pub tour_is : tour_on (written bound) ≡ 0 ∷ 1 ∷ 2 ∷ []

-- ---- passes

-- where a pass leads from v on: its trials, made
abbrev pub passed : State → State
passed v = made_on free (pass_on free (fresh v)) (fresh v)

abbrev pub first_pass : State
first_pass = passed (begun_on free)

abbrev pub second_pass : State
second_pass = passed first_pass

abbrev pub third_pass : State
third_pass = passed second_pass

-- each makes three trials; the first two accept some, the third none, and with it the search ends
pub record ThreePasses : Type 0 where
  pub first_made : first_pass.moves ≡ 3
  pub first_accepts : first_pass.better ≡ true
  pub second-made : second_pass.moves ≡ 6
  pub second_accepts : second_pass.better ≡ true
  pub third-made : third_pass.moves ≡ 9
  pub third_idle : third_pass.better ≡ false
  pub all_made_lem : (outcome_on free).moves ≡ 9

-- ---- a limit that cuts inside the second pass: after the fourth trial, before the sixth

pub record CutInside : Type 0 where
  pub moves_are : (outcome_on capped).moves ≡ 5
  pub tour_is : tour_on capped ≡ 1 ∷ 3 ∷ 4 ∷ []
  pub tour_long : (outcome_on capped).length ≡ mm 8

-- ---- the lists, as `list::write_list` writes them

pub record LinePrinted : Type 0 where
  pub free_printed :
      list_of free ≡ bytes "JOB 43 CONTOURS 3\n5 50 1 ccw\n7 70 0 ccw\n6 60 1 ccw\nMOVES 9\nRAPID 401c000000000000\n"
  pub capped_printed :
      list_of capped ≡ bytes "JOB 43 CONTOURS 3\n5 50 1 ccw\n6 60 1 ccw\n7 70 0 ccw\nMOVES 5\nRAPID 4020000000000000\n"

-- all of them: what stands apart is proved apart
abbrev pub Claim : Type 0
Claim = LineAnswered × Elsewhere × AcceptedTrials × ForbiddenTrial × ThreePasses × CutInside × LinePrinted
