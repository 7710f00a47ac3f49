-- The search on the card with a slit, by both rules, computed. Assumes nothing.
use mathlib.Core.Path.{◌≡◌, refl, sym, ap, ◌∙◌}
use mathlib.Core.Bool.{true, false}
use mathlib.Core.List.{List, [], ◌∷◌}
use Prim.Native.Nat.{ℕ}
use native.Mathlib.Omega.{arith}
use lib.ListN.{get_or}
use Rattle.points.specs.Numbers.{huge}
use Rattle.exact.specs.Grid.{grid_points}
use Rattle.improve.specs.Search.{Chart, State, length_in, begun}
use Rattle.improve.specs.Trials.{other, turn_trials, others}
use Rattle.instance.specs.Search.{candidates_on, chart_on}
use Rattle.solve.specs.Solve.{start_in}
use Rattle.tour.specs.Search.{end_on, tour_on}
use Rattle.tour_laws.proofs.Computes.{tour_computes}
use Rattle.text.specs.Text.{bytes}
use Rattle.list.specs.Lines.{tour_lines}
use Rattle.demands.specs.Demand3.{OnGrid}
use Rattle.demands.proofs.Starred.{list_computes}
use Rattle.witnesses.specs.Examples.{Answered}
use Rattle.witnesses.specs.Taken.{mm, OtherTaken}
use Rattle.witnesses.specs.Slit.{slit, slit_bytes, OtherLeft, OneTurn, swap_before, alternative_before, turn_before}
use Rattle.witnesses.specs.Slit.{pass_before, repeated_before, search_before, TwoTours, SlitPrinted, Claim}
use Rattle.witnesses.proofs.Examples.{each_on}
use Rattle.witnesses.proofs.Taken.{Read, carried, both, Ends, end_in, ends, after_in, held, fine_of, printed_by}

-- ---- what the bytes say

unfoldable line : Chart
line = record {
  home = mm 3 ∷ mm 1 ∷ mm 1 ∷ mm 5 ∷ mm 6 ∷ [];
  table = huge ∷ huge ∷ huge ∷ mm 2 ∷ mm 3
      ∷ huge ∷ huge ∷ huge ∷ mm 6 ∷ mm 7
      ∷ huge ∷ huge ∷ huge ∷ mm 6 ∷ mm 7
      ∷ mm 2 ∷ mm 6 ∷ mm 6 ∷ huge ∷ mm 1
      ∷ mm 3 ∷ mm 7 ∷ mm 7 ∷ mm 1 ∷ huge ∷ [];
  t = 5;
  owner = 0 ∷ 0 ∷ 0 ∷ 1 ∷ 2 ∷ [];
  first = 0 ∷ 3 ∷ 4 ∷ 5 ∷ [];
  pairs = [];
}

read : Read slit_bytes line 0
unfolding tour_computes line
read = record { distances = refl; passes = refl; contours = refl; limit_is = refl }

-- ---- the first turn

-- where the search begins
abbrev at_first : State
at_first = record { tour = 1 ∷ 3 ∷ 4 ∷ []; cost = mm 8; better = true; moves = 0; cut = false }

tries_computed : turn_trials line 0 (begun line (start_in line 3)) ≡ other 0 0 ∷ other 0 2 ∷ []
unfolding tour_computes line turn_trials others
tries_computed = refl

after0 : after_in line 10 3 0 ≡ at_first
unfolding tour_computes line
after0 = refl

after1 : after_in line 10 3 1 ≡ held (0 ∷ 3 ∷ 4 ∷ []) 6 true 1
unfolding tour_computes line
after1 = refl

after2 : after_in line 10 3 2 ≡ held (0 ∷ 3 ∷ 4 ∷ []) 6 true 2
unfolding tour_computes line
after2 = refl

first_computed : OtherTaken line at_first (held (0 ∷ 3 ∷ 4 ∷ []) 6 true 1) 0 0
unfolding tour_computes line
first_computed = record { is_shorter_lem = refl; tour_is = refl; cost_is = refl; counted = refl }

second_computed : OtherLeft line (held (0 ∷ 3 ∷ 4 ∷ []) 6 true 1) (held (0 ∷ 3 ∷ 4 ∷ []) 6 true 2) 0 2
unfolding tour_computes line
second_computed = record { not-shorter = refl; tour_is = refl; cost_is = refl; counted = refl }

one-turn : OneTurn
one-turn = record {
  start_is =
      carried slit_bytes line 0 read (λ c k n M. start_in c n ≡ 1 ∷ 3 ∷ 4 ∷ []) (ap (λ (v : State). v.tour) after0);
  start_long =
      carried slit_bytes line 0 read (λ c k n M. (begun c (start_in c n)).cost ≡ mm 8)
      (ap (λ (v : State). v.cost) after0);
  tries = carried slit_bytes line 0 read (λ c k n M. turn_trials c 0 (begun c (start_in c n)) ≡ other 0 0 ∷ other 0 2 ∷ [])
      tries_computed;
  first =
      carried slit_bytes line 0 read (λ c k n M. OtherTaken c (after_in c k n 0) (after_in c k n 1) 0 0)
      (both (λ v w. OtherTaken line v w 0 0) after0 after1 first_computed);
  second =
      carried slit_bytes line 0 read (λ c k n M. OtherLeft c (after_in c k n 1) (after_in c k n 2) 0 2)
      (both (λ v w. OtherLeft line v w 0 2) after1 after2 second_computed);
  keeps =
      carried slit_bytes line 0 read (λ c k n M. (after_in c k n 2).tour ≡ 0 ∷ 3 ∷ 4 ∷ [])
      (ap (λ (v : State). v.tour) after2);
}

-- ---- two tours

slit_computed : Ends line (end_in line 10 3 0) (0 ∷ 3 ∷ 4 ∷ []) 6 6
unfolding tour_computes line
slit_computed = record { tour_is = refl; tour_long = refl; moves_are = refl }

slit-ends : Ends (chart_on slit_bytes) (end_on slit_bytes) (0 ∷ 3 ∷ 4 ∷ []) 6 6
slit-ends = ends slit_bytes line 0 read _ _ _ slit_computed

-- the search by the rule of before
abbrev end_before : Chart → ℕ → ℕ → State
end_before chart most n = repeated_before chart n most (begun chart (start_in chart n))

record EndsBefore (chart : Chart) (v : State) : Type 0 where
  tour_is : v.tour ≡ 1 ∷ 3 ∷ 4 ∷ []
  tour_long : length_in chart v.tour ≡ mm 8
  went_by : v.cost ≡ mm 6
  moves_are : v.moves ≡ 6

before_computed : EndsBefore line (end_before line 10 3)
unfolding tour_computes line repeated_before pass_before turn_before alternative_before swap_before
before_computed = record { tour_is = refl; tour_long = refl; went_by = refl; moves_are = refl }

before-ends : EndsBefore (chart_on slit_bytes) (search_before slit_bytes)
before-ends = carried slit_bytes line 0 read (λ c k n M. EndsBefore c (end_before c k n)) before_computed

answered : Answered slit 3 5
unfolding tour_computes
answered = refl

on-grid : OnGrid slit_bytes
unfolding tour_computes grid_points
on-grid = record { home = tt; candidate = each_on (candidates_on slit_bytes) tt }

differ : tour_on slit_bytes ≡ (search_before slit_bytes).tour → ⊥
differ e =
    let first : ◌≡◌ {A = ℕ} 0 1 =
    ap (λ (l : List ℕ). get_or l 0 0) (sym slit-ends.tour_is ∙ e ∙ before-ends.tour_is) in
    absurd (omega arith)

two_tours : TwoTours
two_tours = record {
  answered = answered;
  on-grid = on-grid;
  tour_is = slit-ends.tour_is;
  tour_long = slit-ends.tour_long;
  moves_are = slit-ends.moves_are;
  before_is = before-ends.tour_is;
  before_long = before-ends.tour_long;
  before_went_by = before-ends.went_by;
  before_moves = before-ends.moves_are;
  differ = differ;
}

-- ---- printed

slit_lines : tour_lines slit_bytes (0 ∷ 3 ∷ 4 ∷ []) (record { moves = 6; length = mm 6 })
    ≡ bytes "JOB 45 CONTOURS 3\n5 50 0 ccw\n6 60 0 ccw\n7 70 0 ccw\nMOVES 6\nRAPID 4018000000000000\n"
unfolding list_computes
slit_lines = refl

printed : SlitPrinted
printed = record {
  slit_printed = sym (printed_by slit_bytes _ 6 6 (fine_of slit_bytes _ _ _ answered) slit-ends) ∙ slit_lines;
}

pub claim : Claim
claim = (one-turn, two_tours, printed)
