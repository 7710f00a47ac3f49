-- Where a card asks for the grid and its home and vertices are on it, so is every candidate. Assumes nothing.
use mathlib.Core.Path.{◌≡◌}
use mathlib.Core.Bool.{true}
use mathlib.Core.List.{List}
use Prim.Native.Nat.{ℕ, ◌+◌, ◌<◌}
use lib.Dec.{T}
use lib.Ieee.{binary64}
use lib.Ieee.Bits.{of_bits-fits}
use Rattle.answer.specs.declared.Point.{Point}
use Rattle.block.specs.Field.{u64_at, f64_at}
use Rattle.fields.specs.Layout.{contours_of, per_contour_of, asks_grid, vertex_offset}
use Rattle.fields.specs.Values.{point_at}
use Rattle.fields.proofs.AskingLaws.{asks_by}
use Rattle.exact.specs.Grid.{grid_point}
use Rattle.grid_laws.specs.Inside.{Vertex}
use Rattle.grid_laws.proofs.MovedLaws.{each-on-grid}
use Rattle.instance.specs.Gather.{way_of, outline_of, offers_of}
use Rattle.tour_laws.proofs.GatherLaws.{AllAt, gathered-at, offered-at, outline_at, outline_few}
use Rattle.demands.specs.Demand3.{OnGrid, OutlinesOnGrid, CandidatesStay}

-- what is read off a card are numbers of binary64
read_vertex : (s : List ℕ) (at : ℕ) → T (grid_point (point_at s at)) → Vertex (point_at s at)
unfolding point_at f64_at
read_vertex s at h = record {
  on-grid = h;
  x_held = of_bits-fits binary64 (u64_at s at);
  y_held = of_bits-fits binary64 (u64_at s (at + 8));
}

module _ (s : List ℕ) (on : OutlinesOnGrid s) where
  asked : asks_grid s ≡ true
  asked = (asks_by s).1 (on.version, on.asks)

  offers_stay : (k : ℕ) → k < contours_of s → AllAt (λ (p : Point). T (grid_point p)) (offers_of s k)
  offers_stay k h =
      offered-at (λ (p : Point). T (grid_point p)) s k
      (rw asked
      (each-on-grid (way_of s k) (outline_of s k) (per_contour_of s) (outline_few s k)
      (outline_at s k Vertex (λ j g. read_vertex s (vertex_offset k j) (on.vertex k j h g)))))

  stays : OnGrid s
  stays = record {
    home = on.home;
    candidate = gathered-at (λ (p : Point). T (grid_point p)) s (contours_of s) offers_stay;
  }

pub candidates_stay : CandidatesStay
candidates_stay s on = stays s on
