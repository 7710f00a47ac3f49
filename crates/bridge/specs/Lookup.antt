-- The place at a distance along the way around a contour, and the edge that it is on. Assumes nothing.
use Rattle.std.specs.Prelude.{Bool, cond, List, [], ◌∷◌, ℕ, suc, ◌-◌, length, get_or, Float, None, Some}
use Rattle.std.specs.Float.{nan, binary64}
use Rattle.std.specs.Float.Ieee.{add, sub, div, rem, lt}
use Rattle.answer.specs.declared.Point.{Point}
use Rattle.answer.specs.Answer.{Found}
use Rattle.answer.specs.Lowest.{lowest}
use Rattle.points.specs.declared.Ends.{Ends}
use Rattle.points.specs.Points.{no_ends, edges}
use Rattle.points.specs.Numbers.{zero64, tiny}
use Rattle.points.specs.Along.{along_of}
use Rattle.cost.specs.Closest.{clamp_of}
use Rattle.candidates.specs.declared.Spot.{Spot}
use Rattle.candidates.specs.Along.{edge_length, spot, reaches, last_spot}

-- a sum so far, and then with each edge's length added in order
unfoldable pub marks_from : Float → List Ends → List Float
marks_from sum [] = sum ∷ []
marks_from sum (e ∷ more) = sum ∷ marks_from (add binary64 sum (edge_length e)) more

-- how far along the way each vertex is, and behind the last one the whole way
unfoldable pub marks : List Point → List Float
marks ps = marks_from zero64 (edges ps)

-- mark k, which is where edge k begins; no number past the last one
abbrev pub mark_at : List Float → ℕ → Float
mark_at ms k = get_or ms k nan

-- the whole way: the last mark
abbrev pub whole_of : List Float → Float
whole_of ms = mark_at ms (length ms - 1)

-- whether the distance d falls on edge k, its end taken 1e-12 further
abbrev pub falls_on : List Float → Float → ℕ → Bool
falls_on ms d k = reaches d (mark_at ms k) (mark_at ms (suc k))

-- the first edge that it falls on
unfoldable pub edge_on : List Float → Float → Found
edge_on ms d = lowest (falls_on ms d) (length ms - 1)

-- the place at the distance d on edge k, which begins at `before`: its vertex where the edge is under 1e-12, else the
-- point at a share of the edge that is brought into 0 to 1
unfoldable pub held_on : Float → ℕ → Float → Ends → Spot
held_on d k before e =
    cond (lt (edge_length e) tiny) (spot e.start k)
    (spot (along_of e (clamp_of (div binary64 (sub binary64 d before) (edge_length e)))) k)

-- on the edge found, or the last vertex where there is none
abbrev pub spot_by : List Point → List Float → Float → Found → Spot
spot_by ps ms d (Some k) = held_on d k (mark_at ms k) (get_or (edges ps) k no_ends)
spot_by ps ms d None = last_spot ps

-- the place at a distance, counted on around the way
unfoldable pub spot_on : List Point → List Float → Float → Spot
spot_on ps ms distance =
    let d = rem binary64 distance (whole_of ms) in
    spot_by ps ms d (edge_on ms d)
