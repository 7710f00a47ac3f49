-- The searches on a line, computed: a card's distances are worked out from its bytes once, and the search on those.
-- Assumes nothing.
use Rattle.std.specs.Prelude.{Ok}
use mathlib.Core.Path.{◌≡◌, refl, sym, ap, ◌∙◌, subst}
use mathlib.Core.Bool.{Bool, true, false}
use mathlib.Core.List.{List, [], ◌∷◌}
use Prim.Native.Nat.{ℕ, zero, suc}
use native.Mathlib.Omega.{arith}
use lib.Ieee.{Float}
use lib.ListN.{get_or}
use Rattle.points.specs.Numbers.{huge}
use Rattle.fields.specs.Layout.{contours_of, passes_of, move_limit_of}
use Rattle.card.specs.Verdict.{check_of}
use Rattle.card_laws.specs.Write.{written}
use Rattle.card_laws.proofs.Verdicts.{exactly}
use Rattle.exact.specs.Grid.{grid_points}
use Rattle.improve.specs.Search.{Chart, State, length_in, fresh, begun, searched}
use Rattle.improve.specs.Trials.{all_made, others, turn_trials, turns_trials, row_trials, pass_trials}
use Rattle.instance.specs.Search.{candidates_on, chart_on}
use Rattle.solve.specs.declared.Outcome.{Outcome}
use Rattle.solve.specs.Solve.{start_in}
use Rattle.tour.specs.Search.{start_on, end_on, end_within, tour_on}
use Rattle.tour.specs.Tour.{tour_of}
use Rattle.tour_laws.proofs.Computes.{tour_computes}
use Rattle.text.specs.Text.{bytes}
use Rattle.list.specs.Lines.{tour_lines, list_of}
use Rattle.demands.specs.Demand3.{OnGrid}
use Rattle.demands.proofs.AskedLaws.{toured-if, fine_nothing}
use Rattle.witnesses.specs.Examples.{Answered}
use Rattle.witnesses.specs.Taken.{mm, aligned, bound, free, capped, after_on}
use Rattle.witnesses.specs.Taken.{OtherTaken, ReversalTaken, ReversalIllegal, first_pass, second_pass, third_pass}
use Rattle.witnesses.specs.Taken.{LineAnswered, Elsewhere, AcceptedTrials, ForbiddenTrial, ThreePasses, CutInside}
use Rattle.witnesses.specs.Taken.{LinePrinted, Claim}
use Rattle.demands.proofs.Starred.{list_computes}
use Rattle.witnesses.proofs.Examples.{each_on}

-- ---- what the bytes say

-- the distances of the card on a line
unfoldable line : Chart
line = record {
  home = mm 3 ∷ mm 5 ∷ mm 4 ∷ mm 3 ∷ mm 4 ∷ [];
  table = huge ∷ huge ∷ mm 1 ∷ mm 6 ∷ mm 7
      ∷ huge ∷ huge ∷ mm 9 ∷ mm 2 ∷ mm 1
      ∷ mm 1 ∷ mm 9 ∷ huge ∷ huge ∷ mm 8
      ∷ mm 6 ∷ mm 2 ∷ huge ∷ huge ∷ mm 1
      ∷ mm 7 ∷ mm 1 ∷ mm 8 ∷ mm 1 ∷ huge ∷ [];
  t = 5;
  owner = 0 ∷ 0 ∷ 1 ∷ 1 ∷ 2 ∷ [];
  first = 0 ∷ 2 ∷ 4 ∷ 5 ∷ [];
  pairs = 0 ∷ 1 ∷ [];
}

-- and of the one whose pair binds
unfoldable dots : Chart
dots = record {
  home = mm 1 ∷ mm 3 ∷ mm 2 ∷ [];
  table = huge ∷ mm 2 ∷ mm 1 ∷ mm 2 ∷ huge ∷ mm 1 ∷ mm 1 ∷ mm 1 ∷ huge ∷ [];
  t = 3;
  owner = 0 ∷ 1 ∷ 2 ∷ [];
  first = 0 ∷ 1 ∷ 2 ∷ 3 ∷ [];
  pairs = 1 ∷ 2 ∷ [];
}

pub record Read (s : List ℕ) (chart : Chart) (limit : ℕ) : Type 0 where
  pub distances : chart_on s ≡ chart
  pub passes : passes_of s ≡ 10
  pub contours : contours_of s ≡ 3
  pub limit_is : move_limit_of s ≡ limit

free_read : Read free line 0
unfolding tour_computes line
free_read = record { distances = refl; passes = refl; contours = refl; limit_is = refl }

capped_read : Read capped line 5
unfolding tour_computes line
capped_read = record { distances = refl; passes = refl; contours = refl; limit_is = refl }

bound_read : Read (written bound) dots 0
unfolding tour_computes dots
bound_read = record { distances = refl; passes = refl; contours = refl; limit_is = refl }

-- what is computed on these holds of the card
pub carried : (s : List ℕ) (chart : Chart) (limit : ℕ) → Read s chart limit → (P : Chart → ℕ → ℕ → ℕ → Type 0)
    → P chart 10 3 limit → P (chart_on s) (passes_of s) (contours_of s) (move_limit_of s)
carried s chart limit r P w =
    subst (λ (c : Chart). P c (passes_of s) (contours_of s) (move_limit_of s)) (sym r.distances)
    (subst (λ (k : ℕ). P chart k (contours_of s) (move_limit_of s)) (sym r.passes)
    (subst (λ (n : ℕ). P chart 10 n (move_limit_of s)) (sym r.contours) (subst (P chart 10 3) (sym r.limit_is) w)))

-- and what holds of two states holds of those that are computed
pub both : (P : State → State → Type 0) {v w x y : State} → v ≡ x → w ≡ y → P x y → P v w
both P {v = v} {y = y} e f h = subst (P v) (sym f) (subst (λ (u : State). P u y) (sym e) h)

-- ---- the start

start_computed : start_in line 3 ≡ 0 ∷ 2 ∷ 4 ∷ []
unfolding tour_computes line
start_computed = refl

begun_computed : (begun line (start_in line 3)).cost ≡ mm 12
unfolding tour_computes line
begun_computed = refl

start_is : start_on free ≡ 0 ∷ 2 ∷ 4 ∷ []
start_is = carried free line 0 free_read (λ c k n M. start_in c n ≡ 0 ∷ 2 ∷ 4 ∷ []) start_computed

-- ---- the end

-- where a search with a limit ends
abbrev pub end_in : Chart → ℕ → ℕ → ℕ → State
end_in chart most n M = searched chart most M (start_in chart n)

pub record Ends (chart : Chart) (v : State) (tour : List ℕ) (length moves : ℕ) : Type 0 where
  pub tour_is : v.tour ≡ tour
  pub tour_long : length_in chart v.tour ≡ mm length
  pub moves_are : v.moves ≡ moves

free_computed : Ends line (end_in line 10 3 0) (1 ∷ 4 ∷ 3 ∷ []) 7 9
unfolding tour_computes line
free_computed = record { tour_is = refl; tour_long = refl; moves_are = refl }

capped_computed : Ends line (end_in line 10 3 5) (1 ∷ 3 ∷ 4 ∷ []) 8 5
unfolding tour_computes line
capped_computed = record { tour_is = refl; tour_long = refl; moves_are = refl }

end_is : (s : List ℕ) → end_in (chart_on s) (passes_of s) (contours_of s) (move_limit_of s) ≡ end_on s
unfolding end_within
end_is s = refl

pub ends : (s : List ℕ) (chart : Chart) (limit : ℕ) → Read s chart limit → (tour : List ℕ) (length moves : ℕ)
    → Ends chart (end_in chart 10 3 limit) tour length moves → Ends (chart_on s) (end_on s) tour length moves
ends s chart limit r tour length moves w =
    subst (λ (v : State). Ends (chart_on s) v tour length moves) (end_is s)
    (carried s chart limit r (λ c k n M. Ends c (end_in c k n M) tour length moves) w)

free-ends : Ends (chart_on free) (end_on free) (1 ∷ 4 ∷ 3 ∷ []) 7 9
free-ends = ends free line 0 free_read _ _ _ free_computed

capped-ends : Ends (chart_on capped) (end_on capped) (1 ∷ 3 ∷ 4 ∷ []) 8 5
capped-ends = ends capped line 5 capped_read _ _ _ capped_computed

differ : start_on free ≡ tour_on free → ⊥
differ e =
    let first : ◌≡◌ {A = ℕ} 0 1 = ap (λ (l : List ℕ). get_or l 0 0) (sym start_is ∙ e ∙ free-ends.tour_is) in
    absurd (omega arith)

elsewhere : Elsewhere
elsewhere = record {
  start_is = start_is;
  start_long = carried free line 0 free_read (λ c k n M. (begun c (start_in c n)).cost ≡ mm 12) begun_computed;
  tour_is = free-ends.tour_is;
  tour_long = free-ends.tour_long;
  differ = differ;
}

cut_inside : CutInside
cut_inside =
    record { moves_are = capped-ends.moves_are; tour_is = capped-ends.tour_is; tour_long = capped-ends.tour_long }

-- ---- the trials

-- where a search stands after M trials
abbrev pub after_in : Chart → ℕ → ℕ → ℕ → State
after_in chart most n zero = begun chart (start_in chart n)
after_in chart most n (suc M) = searched chart most (suc M) (start_in chart n)

-- a search that was cut: the tour held, so many millimetres long, and whether the pass has accepted a trial
abbrev pub held : List ℕ → ℕ → Bool → ℕ → State
held tour length better moves = record { tour = tour; cost = mm length; better = better; moves = moves; cut = true }

after1 : after_in line 10 3 1 ≡ held (0 ∷ 2 ∷ 4 ∷ []) 12 false 1
unfolding tour_computes line
after1 = refl

after2 : after_in line 10 3 2 ≡ held (0 ∷ 3 ∷ 4 ∷ []) 10 true 2
unfolding tour_computes line
after2 = refl

after3 : after_in line 10 3 3 ≡ held (0 ∷ 3 ∷ 4 ∷ []) 10 false 3
unfolding tour_computes line
after3 = refl

after4 : after_in line 10 3 4 ≡ held (1 ∷ 3 ∷ 4 ∷ []) 8 true 4
unfolding tour_computes line
after4 = refl

after5 : after_in line 10 3 5 ≡ held (1 ∷ 3 ∷ 4 ∷ []) 8 true 5
unfolding tour_computes line
after5 = refl

after6 : after_in line 10 3 6 ≡ held (1 ∷ 4 ∷ 3 ∷ []) 7 false 6
unfolding tour_computes line
after6 = refl

second_computed : OtherTaken line (held (0 ∷ 2 ∷ 4 ∷ []) 12 false 1) (held (0 ∷ 3 ∷ 4 ∷ []) 10 true 2) 1 3
unfolding tour_computes line
second_computed = record { is_shorter_lem = refl; tour_is = refl; cost_is = refl; counted = refl }

fourth_computed : OtherTaken line (held (0 ∷ 3 ∷ 4 ∷ []) 10 false 3) (held (1 ∷ 3 ∷ 4 ∷ []) 8 true 4) 0 1
unfolding tour_computes line
fourth_computed = record { is_shorter_lem = refl; tour_is = refl; cost_is = refl; counted = refl }

sixth_computed : ReversalTaken line (held (1 ∷ 3 ∷ 4 ∷ []) 8 true 5) (held (1 ∷ 4 ∷ 3 ∷ []) 7 false 6) 0 2
unfolding tour_computes line
sixth_computed = record { is_shorter_lem = refl; is_legal_lem = refl; tour_is = refl; cost_is = refl; counted = refl }

second : OtherTaken (chart_on free) (after_on free 1) (after_on free 2) 1 3
second =
    carried free line 0 free_read (λ c k n M. OtherTaken c (after_in c k n 1) (after_in c k n 2) 1 3)
    (both (λ v w. OtherTaken line v w 1 3) after1 after2 second_computed)

fourth : OtherTaken (chart_on free) (after_on free 3) (after_on free 4) 0 1
fourth =
    carried free line 0 free_read (λ c k n M. OtherTaken c (after_in c k n 3) (after_in c k n 4) 0 1)
    (both (λ v w. OtherTaken line v w 0 1) after3 after4 fourth_computed)

sixth : ReversalTaken (chart_on free) (after_on free 5) (after_on free 6) 0 2
sixth =
    carried free line 0 free_read (λ c k n M. ReversalTaken c (after_in c k n 5) (after_in c k n 6) 0 2)
    (both (λ v w. ReversalTaken line v w 0 2) after5 after6 sixth_computed)

trials : AcceptedTrials
trials = record { second = second; fourth = fourth; sixth = sixth }

-- ---- the passes

-- a pass, by its trials
abbrev passed_in : Chart → ℕ → State → State
passed_in chart n v = all_made chart (pass_trials chart n (fresh v)) (fresh v)

-- what its trials are computed through
unfoldable pass_computes : Unit {0}
unfolding tour_computes line pass_trials turns_trials turn_trials row_trials others all_made
pass_computes = tt

abbrev first_in : Chart → ℕ → State
first_in chart n = passed_in chart n (begun chart (start_in chart n))

abbrev second_in : Chart → ℕ → State
second_in chart n = passed_in chart n (first_in chart n)

abbrev third_in : Chart → ℕ → State
third_in chart n = passed_in chart n (second_in chart n)

record Made (v : State) (moves : ℕ) (better : Bool) : Type 0 where
  moves_are : v.moves ≡ moves
  better_is : v.better ≡ better

first-pass_computed : Made (first_in line 3) 3 true
unfolding pass_computes
first-pass_computed = record { moves_are = refl; better_is = refl }

second-pass_computed : Made (second_in line 3) 6 true
unfolding pass_computes
second-pass_computed = record { moves_are = refl; better_is = refl }

third-pass_computed : Made (third_in line 3) 9 false
unfolding pass_computes
third-pass_computed = record { moves_are = refl; better_is = refl }

first-pass : Made first_pass 3 true
first-pass = carried free line 0 free_read (λ c k n M. Made (first_in c n) 3 true) first-pass_computed

second-pass : Made second_pass 6 true
second-pass = carried free line 0 free_read (λ c k n M. Made (second_in c n) 6 true) second-pass_computed

third-pass : Made third_pass 9 false
third-pass = carried free line 0 free_read (λ c k n M. Made (third_in c n) 9 false) third-pass_computed

passes : ThreePasses
passes = record {
  first_made = first-pass.moves_are;
  first_accepts = first-pass.better_is;
  second-made = second-pass.moves_are;
  second_accepts = second-pass.better_is;
  third-made = third-pass.moves_are;
  third_idle = third-pass.better_is;
  all_made_lem = free-ends.moves_are;
}

-- ---- the pair that binds

-- the start, of four millimetres; three would do, but for the pair
abbrev keeping : Bool → ℕ → State
keeping better moves =
    record { tour = 0 ∷ 1 ∷ 2 ∷ []; cost = mm 4; better = better; moves = moves; cut = false }

before0 : after_in dots 10 3 0 ≡ keeping true 0
unfolding tour_computes dots
before0 = refl

before1 : after_in dots 10 3 1 ≡ keeping false 1
unfolding tour_computes dots
before1 = refl

only_computed : ReversalIllegal dots (keeping true 0) (keeping false 1) 0 2
unfolding tour_computes dots
only_computed = record { is_shorter_lem = refl; is_illegal = refl; tour_is = refl; cost_is = refl; counted = refl }

bound_computed : Ends dots (end_in dots 10 3 0) (0 ∷ 1 ∷ 2 ∷ []) 4 1
unfolding tour_computes dots
bound_computed = record { tour_is = refl; tour_long = refl; moves_are = refl }

forbidden : ForbiddenTrial
forbidden = record {
  only =
      carried (written bound) dots 0 bound_read
      (λ c k n M. ReversalIllegal c (after_in c k n 0) (after_in c k n 1) 0 2)
      (both (λ v w. ReversalIllegal dots v w 0 2) before0 before1 only_computed);
  tour_is = (ends (written bound) dots 0 bound_read _ _ _ bound_computed).tour_is;
}

-- ---- answered with a tour, on the grid

free_answered : Answered (aligned 0) 3 5
unfolding tour_computes
free_answered = refl

capped_answered : Answered (aligned 5) 3 5
unfolding tour_computes
capped_answered = refl

bound_answered : Answered bound 3 3
unfolding tour_computes
bound_answered = refl

free-on-grid : OnGrid free
unfolding tour_computes grid_points
free-on-grid = record { home = tt; candidate = each_on (candidates_on free) tt }

line_answered : LineAnswered
line_answered = record {
  free_answered = free_answered;
  free-on-grid = free-on-grid;
  capped_answered = capped_answered;
  bound_answered = bound_answered;
}

-- ---- printed

-- an answered card is fine
pub fine_of : (s room : List ℕ) (table : List Float) (told : Outcome) → (tour_of s room table).answer ≡ Ok told
    → check_of s ≡ Ok tt
fine_of s room table told h = (exactly s).fine_if (fine_nothing s room table (toured-if s room table told h)).sound

pub printed_by : (s tour : List ℕ) (length moves : ℕ) → check_of s ≡ Ok tt → Ends (chart_on s) (end_on s) tour length moves
    → tour_lines s tour (record { moves = moves; length = mm length }) ≡ list_of s
unfolding list_of
printed_by s tour length moves fine e = rw (fine, e.tour_long, e.tour_is, e.moves_are) refl

free_lines : tour_lines free (1 ∷ 4 ∷ 3 ∷ []) (record { moves = 9; length = mm 7 })
    ≡ bytes "JOB 43 CONTOURS 3\n5 50 1 ccw\n7 70 0 ccw\n6 60 1 ccw\nMOVES 9\nRAPID 401c000000000000\n"
unfolding list_computes
free_lines = refl

capped_lines : tour_lines capped (1 ∷ 3 ∷ 4 ∷ []) (record { moves = 5; length = mm 8 })
    ≡ bytes "JOB 43 CONTOURS 3\n5 50 1 ccw\n6 60 1 ccw\n7 70 0 ccw\nMOVES 5\nRAPID 4020000000000000\n"
unfolding list_computes
capped_lines = refl

printed : LinePrinted
printed = record {
  free_printed = sym (printed_by free _ 7 9 (fine_of free _ _ _ free_answered) free-ends) ∙ free_lines;
  capped_printed = sym (printed_by capped _ 8 5 (fine_of capped _ _ _ capped_answered) capped-ends) ∙ capped_lines;
}

pub claim : Claim
claim = (line_answered, elsewhere, trials, forbidden, passes, cut_inside, printed)
