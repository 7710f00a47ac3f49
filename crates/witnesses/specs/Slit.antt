-- A card on which the rule for a rejected candidate shows: a better candidate is taken, and the next is no better. It
-- gives back the one taken; by the rule of before it gave back the one held when the turn began, and so the search came
-- to another tour, longer than the length it went by. Assumes nothing.
use Rattle.std.specs.Prelude.{◌≡◌, false, cond, List, [], ◌∷◌, ℕ, zero, suc, ◌-◌, eqb, get_or, set}
use Rattle.answer.specs.declared.CutDirectionPreference.TheVariants.{Auto}
use Rattle.card_laws.specs.Card.{Card}
use Rattle.card_laws.specs.Write.{written}
use Rattle.fields.specs.Layout.{contours_of, passes_of}
use Rattle.table.specs.Each.{each}
use Rattle.improve.specs.Search.{Chart, State, owner_of, length_in, shorter, swap, row, fresh, begun}
use Rattle.improve.specs.Trials.{other}
use Rattle.instance.specs.Search.{chart_on}
use Rattle.tour.specs.Search.{start_on, tour_on, outcome_on}
use Rattle.text.specs.Text.{bytes}
use Rattle.list.specs.Lines.{list_of}
use Rattle.demands.specs.Demand2.{long_on, turn_on, begun_on}
use Rattle.demands.specs.Demand3.{OnGrid}
use Rattle.witnesses.specs.Examples.{Answered}
use Rattle.witnesses.specs.Taken.{mm, on, along, after_on, OtherTaken}

-- home at 7; a slit from 4 to 10 and back, of which candidate 0 is at 4 and candidates 1 and 2 are at 8; and dots at 2
-- and at 1, candidates 3 and 4
abbrev pub slit : Card
slit =
    record {
      version = 1;
      job = 45;
      per_contour_lem = 3;
      passes = 10;
      move_limit_lem = 0;
      home = on 7;
      exterior = Auto;
      interior = Auto;
      grid = false;
      contours = along 5 (on 4 ∷ on 10 ∷ []) ∷ along 6 (on 2 ∷ []) ∷ along 7 (on 1 ∷ []) ∷ [];
      pairs = [];
    }

abbrev pub slit_bytes : List ℕ
slit_bytes = written slit

-- ---- a candidate taken, and the next no better

-- candidate a at position p is no better: tour and length stay, and it counts
pub record OtherLeft (chart : Chart) (v after : State) (p a : ℕ) : Type 0 where
  pub not-shorter : shorter (length_in chart (set v.tour p a)) v.cost ≡ false
  pub tour_is : after.tour ≡ v.tour
  pub cost_is : after.cost ≡ v.cost
  pub counted : after.moves ≡ suc v.moves

-- the first turn finds candidate 1 and tries the other two: it skips the one that it found, though another has been
-- taken by then. Candidate 0 is taken, candidate 2 is not, and the position keeps candidate 0
pub record OneTurn : Type 0 where
  pub start_is : start_on slit_bytes ≡ 1 ∷ 3 ∷ 4 ∷ []
  pub start_long : (begun_on slit_bytes).cost ≡ mm 8
  pub tries : turn_on slit_bytes 0 (begun_on slit_bytes) ≡ other 0 0 ∷ other 0 2 ∷ []
  pub first : OtherTaken (chart_on slit_bytes) (after_on slit_bytes 0) (after_on slit_bytes 1) 0 0
  pub second : OtherLeft (chart_on slit_bytes) (after_on slit_bytes 1) (after_on slit_bytes 2) 0 2
  pub keeps : (after_on slit_bytes 2).tour ≡ 0 ∷ 3 ∷ 4 ∷ []

-- ---- the rule of before

-- candidate a at position p: one that is rejected gives back the one held when the turn began
unfoldable pub swap_before : Chart → ℕ → ℕ → ℕ → State → State
swap_before chart p held a s =
    let after = swap chart p a s in
    let accepted = shorter (length_in chart (set s.tour p a)) s.cost in
    record {
      tour = cond accepted after.tour (set s.tour p held);
      cost = after.cost;
      better = after.better;
      moves = after.moves;
      cut = after.cut;
    }

-- turns, passes and the search without a limit of three contours or more, else as they are
unfoldable pub alternative_before : Chart → ℕ → ℕ → ℕ → State → State
alternative_before chart p held a s = let after = swap_before chart p held a s in cond (eqb a held) s after

unfoldable pub turn_before : Chart → ℕ → State → State
turn_before chart p s =
    let held = get_or s.tour p 0 in
    let k = owner_of chart.owner held in
    let from = get_or chart.first k 0 in
    each (alternative_before chart p held) (get_or chart.first (suc k) 0 - from) from s

unfoldable pub pass_before : Chart → ℕ → State → State
pass_before chart n s = each (row chart 0 n) (n - 1) 0 (each (turn_before chart) n 0 (fresh s))

unfoldable pub repeated_before : Chart → ℕ → ℕ → State → State
repeated_before chart n zero s = s
repeated_before chart n (suc k) s =
    let after = repeated_before chart n k (pass_before chart n s) in cond s.better after s

abbrev pub search_before : List ℕ → State
search_before s = repeated_before (chart_on s) (contours_of s) (passes_of s) (begun (chart_on s) (start_on s))

-- ---- two tours

-- the tour is 6 mm long. By the rule of before it was the start again, 8 mm long, while the length to beat was 6 mm, so
-- that no later trial was accepted
pub record TwoTours : Type 0 where
  pub answered : Answered slit 3 5
  pub on-grid : OnGrid slit_bytes
  pub tour_is : tour_on slit_bytes ≡ 0 ∷ 3 ∷ 4 ∷ []
  pub tour_long : (outcome_on slit_bytes).length ≡ mm 6
  pub moves_are : (outcome_on slit_bytes).moves ≡ 6
  pub before_is : (search_before slit_bytes).tour ≡ 1 ∷ 3 ∷ 4 ∷ []
  pub before_long : long_on slit_bytes (search_before slit_bytes).tour ≡ mm 8
  pub before_went_by : (search_before slit_bytes).cost ≡ mm 6
  pub before_moves : (search_before slit_bytes).moves ≡ 6
  pub differ : tour_on slit_bytes ≡ (search_before slit_bytes).tour → ⊥

-- the list, as `list::write_list` writes it
pub record SlitPrinted : Type 0 where
  pub slit_printed :
      list_of slit_bytes
      ≡ bytes "JOB 45 CONTOURS 3\n5 50 0 ccw\n6 60 0 ccw\n7 70 0 ccw\nMOVES 6\nRAPID 4018000000000000\n"

-- all of them: what stands apart is proved apart
abbrev pub Claim : Type 0
Claim = OneTurn × TwoTours × SlitPrinted
