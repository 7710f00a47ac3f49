-- A bridge from its centre's distance along the way and half of its width. Assumes nothing.
use Rattle.std.specs.Prelude.{cond, List, map, get_or, Float}
use Rattle.std.specs.Float.{binary64}
use Rattle.std.specs.Float.Ieee.{add, sub, div, rem, lt}
use Rattle.answer.specs.declared.Point.{Point}
use Rattle.points.specs.Points.{point, no_ends, edges}
use Rattle.points.specs.Numbers.{zero64, tiny}
use Rattle.candidates.specs.Along.{edge_length}
use Rattle.bridge.specs.declared.Bridge.{Bridge}
use Rattle.bridge.specs.Lookup.{mark_at, whole_of, spot_on}

-- how far along an edge of this length, which begins at `before`, the distance c is: as it comes out, below 0 and above
-- 1 too; +0 where the edge is not longer than 1e-12
unfoldable pub place_on : Float → Float → Float → Float
place_on length before c = cond (lt tiny length) (div binary64 (sub binary64 c before) length) zero64

-- half of the width back from the centre, once around added so that it does not begin below 0, and half of it on: where
-- the bridge starts and ends
unfoldable pub starts_at : Float → Float → Float → Float
starts_at whole half c = rem binary64 (add binary64 (sub binary64 c half) whole) whole

unfoldable pub ends_at : Float → Float → Float → Float
ends_at whole half c = rem binary64 (add binary64 c half) whole

-- the bridge with its centre at the distance c: the edge is the middle's, and the place is the centre's on it
unfoldable pub bridge_at : List Point → List Float → Float → Float → Bridge
bridge_at ps ms half c =
    let middle = spot_on ps ms c in
    let k = middle.vertex in
    record {
      start = (spot_on ps ms (starts_at (whole_of ms) half c)).point;
      end = (spot_on ps ms (ends_at (whole_of ms) half c)).point;
      middle = middle.point;
      edge = k;
      t = place_on (edge_length (get_or (edges ps) k no_ends)) (mark_at ms k) c;
    }

-- a bridge for each centre, in their order
unfoldable pub bridges_at : List Point → List Float → Float → List Float → List Bridge
bridges_at ps ms half centres = map (bridge_at ps ms half) centres

-- what stands in the places that are not used
abbrev pub blank : Bridge
blank =
    let p = point zero64 zero64 in
    record { start = p; end = p; middle = p; edge = 0; t = zero64 }
