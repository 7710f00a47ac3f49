-- The cards that ask for the grid, computed from their bytes. Assumes nothing.
use Rattle.std.specs.Prelude.{None}
use mathlib.Core.Path.{◌≡◌, refl, subst}
use mathlib.Core.Bool.{Bool, true, false, not, true≢false}
use mathlib.Core.List.{List}
use Prim.Native.Nat.{ℕ, zero, suc, ◌<◌}
use native.Mathlib.Omega.{arith}
use lib.Dec.{T, lit<}
use Rattle.answer.specs.Lowest.{lowest}
use Rattle.answer.proofs.LowestLaws.{is_absent}
use Rattle.fields.specs.Layout.{contours_of, vertex_count_of, vertex_offset}
use Rattle.fields.specs.Values.{point_at}
use Rattle.card_laws.specs.Write.{written}
use Rattle.exact.specs.Grid.{grid_point}
use Rattle.demands.specs.Demand3.{OutlinesOnGrid}
use Rattle.witnesses.specs.Gridded.{thirds, ties, SquareMoved, TiesMoved, Claim}
use Rattle.witnesses.proofs.Examples.{grid_computes}

-- ---- the premise

-- no vertex of contour k is off the grid
abbrev NoneOff : List ℕ → ℕ → Type 0
NoneOff s k = lowest (λ j. not (grid_point (point_at s (vertex_offset k j)))) (vertex_count_of s k) ≡ None

kept : (b : Bool) → not b ≡ false → T b
kept true e = tt
kept false e = absurd (true≢false e)

all_on_lem : (s : List ℕ) (k : ℕ) → NoneOff s k
    → (j : ℕ) → j < vertex_count_of s k → T (grid_point (point_at s (vertex_offset k j)))
all_on_lem s k e j l =
    kept (grid_point (point_at s (vertex_offset k j)))
    (is_absent (λ (i : ℕ). not (grid_point (point_at s (vertex_offset k i)))) (vertex_count_of s k) e j l)

three_contours : contours_of (written (thirds true)) ≡ 3
unfolding grid_computes
three_contours = refl

square-vertices : (k : ℕ) → k < 3 → NoneOff (written (thirds true)) k
unfolding grid_computes
square-vertices zero h = refl
square-vertices (suc zero) h = refl
square-vertices (suc (suc zero)) h = refl
square-vertices (suc (suc (suc k))) h = absurd (omega arith)

square_outlines : OutlinesOnGrid (written (thirds true))
unfolding grid_computes
square_outlines = record {
  version = refl;
  asks = refl;
  home = tt;
  vertex = λ k j h l.
      all_on_lem (written (thirds true)) k (square-vertices k (subst (λ (n : ℕ). k < n) three_contours h)) j l;
}

two-contours : contours_of (written (ties 4 true)) ≡ 2
unfolding grid_computes
two-contours = refl

tied_vertices : (k : ℕ) → k < 2 → NoneOff (written (ties 4 true)) k
unfolding grid_computes
tied_vertices zero h = refl
tied_vertices (suc zero) h = refl
tied_vertices (suc (suc k)) h = absurd (omega arith)

tied_outlines : OutlinesOnGrid (written (ties 4 true))
unfolding grid_computes
tied_outlines = record {
  version = refl;
  asks = refl;
  home = tt;
  vertex = λ k j h l. all_on_lem (written (ties 4 true)) k (tied_vertices k (subst (λ (n : ℕ). k < n) two-contours h)) j l;
}

-- ---- what is answered

square-moved : SquareMoved
unfolding grid_computes
square-moved = record {
  answered = refl;
  outlines_on-grid = square_outlines;
  stops_are = refl;
  tour_is = refl;
  tour_long = refl;
  moves_are = refl;
  printed = refl;
  not_asking_answered = refl;
  not_asking_off = λ on. on.candidate 1 (lit< tt);
}

ties-moved : TiesMoved
unfolding grid_computes
ties-moved = record {
  answered = refl;
  outlines_on-grid = tied_outlines;
  stops_are = refl;
  vertices_are = refl;
  not_asking = refl;
  of_eighths = refl;
  printed = refl;
}

pub claim : Claim
claim = (square-moved, ties-moved)
