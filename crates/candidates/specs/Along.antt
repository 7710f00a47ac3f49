-- The way around a contour: its length, and the spot at a given distance along it. Assumes nothing.
use Rattle.std.specs.Prelude.{ℕ, suc, ◌-◌, Bool, cond, ◌&&◌, List, [], ◌∷◌, length, slice_index_or, Float}
use Rattle.std.specs.Float.{binary64}
use Rattle.std.specs.Float.Ieee.{add, sub, div, lt, le}
use Rattle.answer.specs.declared.Point.{Point}
use Rattle.points.specs.declared.Ends.{Ends}
use Rattle.points.specs.Points.{nowhere, edges}
use Rattle.points.specs.Distance.{distance_of}
use Rattle.points.specs.Numbers.{zero64, tiny}
use Rattle.points.specs.Along.{along_of}
use Rattle.candidates.specs.declared.Spot.{Spot}

abbrev pub edge_length : Ends → Float
edge_length e = distance_of e.start e.finish

-- the edges' lengths added in order to a sum so far
unfoldable pub around : Float → List Ends → Float
around sum [] = sum
around sum (e ∷ more) = around (add binary64 sum (edge_length e)) more

-- the length of the whole way, the closing edge included
unfoldable pub perimeter_of : List Point → Float
perimeter_of ps = around zero64 (edges ps)

abbrev pub spot : Point → ℕ → Spot
spot p i = record { point = p; vertex = i }

-- whether the distance d falls on an edge that begins and ends at these distances, the end taken 1e-12 further
unfoldable pub reaches : Float → Float → Float → Bool
reaches d before after = le before d && le d (add binary64 after tiny)

-- the spot at the distance d on edge i, which begins at `before`: its vertex where the edge is under 1e-12
unfoldable pub on_edge : Float → ℕ → Float → Ends → Spot
on_edge d i before e =
    cond (lt (edge_length e) tiny) (spot e.start i)
    (spot (along_of e (div binary64 (sub binary64 d before) (edge_length e))) i)

-- the first edge that d falls on, of those from number i on; `before` is the length passed. If there is none, the last
-- vertex
unfoldable pub spot_from : Spot → Float → ℕ → Float → List Ends → Spot
spot_from last d i before [] = last
spot_from last d i before (e ∷ more) =
    let after = add binary64 before (edge_length e) in
    let further = spot_from last d (suc i) after more in
    cond (reaches d before after) (on_edge d i before e) further

unfoldable pub last_spot : List Point → Spot
last_spot ps = spot (slice_index_or ps (length ps - 1) nowhere) (length ps - 1)

-- the spot at the distance d along the way
unfoldable pub spot_at : List Point → Float → Spot
spot_at ps d = spot_from (last_spot ps) d 0 zero64 (edges ps)
