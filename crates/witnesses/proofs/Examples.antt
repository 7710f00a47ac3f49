-- The examples, computed from their bytes. Assumes nothing.
use mathlib.Core.Path.{◌≡◌, refl, ap, ◌∙◌}
use mathlib.Core.List.{List, [], ◌∷◌, map}
use Prim.Native.Nat.{ℕ, zero, suc, ◌<◌}
use native.Mathlib.Omega.{arith}
use lib.Dec.{T, lit<}
use lib.Ieee.Fits.{and_l, and_r}
use lib.ListN.{length, get_or}
use Rattle.candidates.specs.declared.Candidate.{Candidate}
use Rattle.card_laws.specs.Examples.{job41, waiting}
use Rattle.card_laws.specs.Table.{Given, twelve, Past11}
use Rattle.card_laws.specs.Write.{written}
use Rattle.card_laws.proofs.Starred.{examples}
use Rattle.card_laws.proofs.Verdicts.{exactly}
use Rattle.fields.specs.Layout.{move_limit_of}
use Rattle.exact.specs.Grid.{grid_point, grid_points}
use Rattle.table.specs.Distances.{absent, pierced}
use Rattle.instance.specs.Search.{candidates_on}
use Rattle.tour.specs.Search.{outcome_on}
use Rattle.demands.specs.Demand2.{search_on}
use Rattle.demands.specs.Demand3.{OnGrid}
use Rattle.demands.proofs.Demand2.{claim as demand2}
use Rattle.demands.proofs.Starred.{list_computes, claim as starred}
use Rattle.witnesses.specs.Examples.{limited, Answered, AnsweredOnGrid, CutByLimit, SentBackWith12, Printed}
use Rattle.witnesses.specs.Examples.{Claim}

-- what is computed here is computed through these
unfoldable pub grid_computes : Unit {0}
unfolding list_computes grid_points
grid_computes = tt

-- ---- answered with a tour, on the grid

job41_answered : Answered job41 3 3
unfolding grid_computes
job41_answered = refl

limited_answered : Answered limited 3 6
unfolding grid_computes
limited_answered = refl

pub each_on : (cs : List Candidate) → T (grid_points (map pierced cs)) → (a : ℕ) → a < length cs
    → T (grid_point (pierced (get_or cs a absent)))
unfolding grid_points
each_on [] h a l = absurd (omega arith)
each_on (c ∷ cs) h zero l = and_l (grid_point (pierced c)) (grid_points (map pierced cs)) h
each_on (c ∷ cs) h (suc a) l =
    each_on cs (and_r (grid_point (pierced c)) (grid_points (map pierced cs)) h) a (omega arith)

job41-on-grid : OnGrid (written job41)
unfolding grid_computes
job41-on-grid = record { home = tt; candidate = each_on (candidates_on (written job41)) tt }

limited-on-grid : OnGrid (written limited)
unfolding grid_computes
limited-on-grid = record { home = tt; candidate = each_on (candidates_on (written limited)) tt }

answered_on-grid : AnsweredOnGrid
answered_on-grid = record {
  job41_answered = job41_answered;
  job41-on-grid = job41-on-grid;
  limited_answered = limited_answered;
  limited-on-grid = limited-on-grid;
}

-- ---- cut

needs_more : 2 < (search_on (written limited) 0).moves
unfolding grid_computes
needs_more = lit< tt

limit_is : move_limit_of (written limited) ≡ 2
unfolding grid_computes
limit_is = refl

-- so by demand 2 it is cut there: the search with the limit need not be computed
cut : CutByLimit
cut =
    let follows = demand2 (written limited) _ _ (outcome_on (written limited)) limited_answered in
    record {
      limited_needs_more = needs_more;
      limited_cut = follows.told_so.moves
          ∙ ap (λ (M : ℕ). (search_on (written limited) M).moves) limit_is
          ∙ (follows.limit.cut 2 (lit< tt) needs_more).0;
    }

-- ---- 12

twelve_past : (s : List ℕ) (place : ℕ) → Given s 12 place → Past11 s
twelve_past s place (twelve past row) = past

sent_back : SentBackWith12
sent_back = record {
  waiting-past = twelve_past (written waiting) 1 ((exactly (written waiting)).refused_only _ examples.on_a_cycle);
  waiting-refused = (1, examples.on_a_cycle);
}

-- ---- printed

printed : Printed
printed = record {
  job41_printed = starred.of_job41.printed;
  waiting_printed = starred.of_cycles.waiting_only.printed;
}

pub claim : Claim
claim = (answered_on-grid, cut, sent_back, printed)
