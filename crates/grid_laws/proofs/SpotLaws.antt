-- Wherever a distance falls on the way around a contour with its vertices on the grid, the spot found there is inside.
-- Assumes nothing.
use mathlib.Core.Path.{◌≡◌, refl}
use mathlib.Core.Bool.{Bool, true, false, cond}
use mathlib.Core.List.{List, [], ◌∷◌}
use Prim.Native.Nat.{ℕ, zero, suc, ◌+◌, ◌-◌, ◌≤◌, ◌<◌, suc-le-suc}
use native.Mathlib.Nat.{le_trans, zero-lt-suc, not-suc-le-zero, le_of_suc-le-suc}
use native.Mathlib.Omega.{arith}
use lib.Dec.{T}
use lib.IntN.{pos}
use lib.ListN.{length, get_or}
use lib.Ieee.{Float, binary64, add, sub, mul, div, lt, le, fits, of_int}
use lib.Ieee.Fits.{and_l, and_r, mul-fits, rem-fits}
use Rattle.answer.specs.declared.Point.{Point}
use Rattle.root.specs.Steps.{steps_of}
use Rattle.fields.specs.Limits.{vertex_limit}
use Rattle.points.specs.declared.Ends.{Ends}
use Rattle.points.specs.Points.{nowhere, edges}
use Rattle.points.specs.Numbers.{zero64, tiny}
use Rattle.points.specs.Along.{along_of}
use Rattle.points.proofs.PointLaws.{edges-length, EndsBoth, AllEnds, edges-ends}
use Rattle.candidates.specs.declared.Spot.{Spot}
use Rattle.candidates.specs.Along.{edge_length, spot, reaches, on_edge, spot_from, last_spot, spot_at}
use Rattle.candidates.specs.Generate.{target}
use Rattle.exact.specs.Grid.{grid_point, grid_points}
use Rattle.exact.proofs.GridLaws.{x_on, y_on}
use Rattle.grid_laws.specs.Inside.{Vertex, AllVertices, InsidePoint, SpotsInside}
use Rattle.grid_laws.proofs.LegLaws.{Leg, leg, tiny_plain, tiny-above, not_under}
use Rattle.grid_laws.proofs.EdgeLaws.{Gone, vertex_inside, coordinate_inside}
use Rattle.grid_laws.proofs.GoneLaws.{Sofar, no_length, next-length, gone}

-- ---- every vertex is on the grid, so is every edge's end

-- points of the grid by their list
pub all_vertices : (ps : List Point) → T (grid_points ps)
    → ((j : ℕ) → j < length ps → T (fits binary64 (get_or ps j nowhere).x) × T (fits binary64 (get_or ps j nowhere).y))
    → AllVertices ps
unfolding grid_points
all_vertices [] t held j h = absurd (not-suc-le-zero h)
all_vertices (p ∷ more) t held zero h =
    record {
      on-grid = and_l (grid_point p) (grid_points more) t;
      x_held = (held 0 (zero-lt-suc (length more))).0;
      y_held = (held 0 (zero-lt-suc (length more))).1;
    }
all_vertices (p ∷ more) t held (suc j) h =
    all_vertices more (and_r (grid_point p) (grid_points more) t) (λ i k. held (suc i) (suc-le-suc k)) j
    (le_of_suc-le-suc h)

abbrev Ended : Ends → Type 0
Ended e = EndsBoth Vertex e

abbrev AllEnded : List Ends → Type 0
AllEnded es = AllEnds Vertex es

-- ---- a spot at a vertex, and at t of an edge

at-vertex : (p : Point) → Vertex p → InsidePoint p
at-vertex p v = record {
  x_inside = vertex_inside p.x (x_on p v.on-grid) v.x_held;
  y_inside = vertex_inside p.y (y_on p v.on-grid) v.y_held;
}

along_inside : (e : Ends) (g : ℕ) (t : Float) → Ended e → Leg e.start e.finish
    → Gone (steps_of (edge_length e)) g t → InsidePoint (along_of e t)
unfolding along_of
along_inside e g t n l G = record {
  x_inside = coordinate_inside (steps_of (edge_length e)) g t e.start.x e.finish.x G
      (x_on e.start n.0.on-grid) (x_on e.finish n.1.on-grid) l.x_covered;
  y_inside = coordinate_inside (steps_of (edge_length e)) g t e.start.y e.finish.y G
      (y_on e.start n.0.on-grid) (y_on e.finish n.1.on-grid) l.y_covered;
}

-- ---- on the edge that the distance falls on

edge_inside : (d : Float) (i : ℕ) (before : Float) (e : Ends) → i < 30 → Ended e → Sofar i before
    → T (fits binary64 d) → T (reaches d before (add binary64 before (edge_length e)))
    → InsidePoint (on_edge d i before e).point
unfolding on_edge reaches
edge_inside d i before e h n s t r = go (lt (edge_length e) tiny) refl
  where
    l : Leg e.start e.finish
    l = leg e.start e.finish n.0.on-grid n.1.on-grid

    end : Float
    end = add binary64 (add binary64 before (edge_length e)) tiny

    go : (b : Bool) → lt (edge_length e) tiny ≡ b
        → InsidePoint (cond b (spot e.start i)
        (spot (along_of e (div binary64 (sub binary64 d before) (edge_length e))) i)).point
    go true k = at-vertex e.start n.0
    go false k =
        along_inside e (steps_of (sub binary64 d before)) (div binary64 (sub binary64 d before) (edge_length e)) n l
        (gone i d before (edge_length e) h s l.plain l.modest
        (le_trans tiny-above (not_under binary64 (edge_length e) tiny l.plain tiny_plain k)) t
        (and_l (le before d) (le d end) r) (and_r (le before d) (le d end) r))

-- ---- on the whole way

from_inside : (last : Spot) (d : Float) (i : ℕ) (before : Float) (es : List Ends) → InsidePoint last.point
    → T (fits binary64 d) → AllEnded es → i + length es ≤ 30 → Sofar i before
    → InsidePoint (spot_from last d i before es).point
unfolding spot_from
from_inside last d i before [] p t n few s = p
from_inside last d i before (e ∷ more) p t n few s =
    go (reaches d before after) (λ r. edge_inside d i before e (omega arith) n.0 s t r)
    (from_inside last d (suc i) after more p t n.1 (omega arith)
    (next-length i before (edge_length e) (omega arith) s l.plain l.modest))
  where
    after : Float
    after = add binary64 before (edge_length e)

    l : Leg e.start e.finish
    l = leg e.start e.finish n.0.0.on-grid n.0.1.on-grid

    go : (b : Bool) → (T b → InsidePoint (on_edge d i before e).point)
        → InsidePoint (spot_from last d (suc i) after more).point
        → InsidePoint (cond b (on_edge d i before e) (spot_from last d (suc i) after more)).point
    go true h f = h tt
    go false h f = f

-- the spot at any distance is finite, and less than half a grid unit beyond the grid's reach
pub spot_inside : SpotsInside
unfolding spot_at last_spot
spot_inside ps some few all d t =
    let e = edges-length ps in
    from_inside (last_spot ps) d 0 zero64 (edges ps)
    (at-vertex (get_or ps (length ps - 1) nowhere) (all (length ps - 1) (omega arith))) t (edges-ends Vertex ps all)
    (omega arith) no_length

-- ---- the distances asked for

-- how far along a candidate is, is a number of binary64
target_fits : (total : Float) (c k : ℕ) → T (fits binary64 (target total c k))
unfolding target
target_fits total c k =
    let spacing = div binary64 total (of_int binary64 (pos c)) in
    rem-fits binary64 (mul binary64 (of_int binary64 (pos k)) spacing) total
    (mul-fits binary64 (of_int binary64 (pos k)) spacing)

-- so every candidate of those spaced is inside
pub target_inside : (ps : List Point) → 0 < length ps → length ps ≤ vertex_limit → AllVertices ps
    → (total : Float) (c k : ℕ) → InsidePoint (spot_at ps (target total c k)).point
target_inside ps some few all total c k =
    spot_inside ps some few all (target total c k) (target_fits total c k)
