-- The point of a polygon's boundary that is closest to a given point. Assumes nothing.
use Rattle.std.specs.Prelude.{ℕ, suc, ◌+◌, ◌/◌, cond, List, [], ◌∷◌, length, Float, None, Option, Some}
use Rattle.std.specs.Float.{binary64}
use Rattle.std.specs.Float.Ieee.{add, sub, mul, div, lt}
use Rattle.answer.specs.declared.Point.{Point}
use Rattle.answer.specs.Answer.{Answer, Check, unless}
use Rattle.cost.specs.declared.Nearest.{Nearest}
use Rattle.answer.specs.Lowest.{refuse_at, refuse_if}
use Rattle.answer.specs.Stage.{first_refusal}
use Rattle.points.specs.declared.Ends.{Ends}
use Rattle.cost.specs.declared.Best.{Best}
use Rattle.points.specs.Numbers.{zero64, one64, tiny, huge}
use Rattle.points.specs.Points.{points, edges}
use Rattle.points.specs.Bad.{bad_point, first_bad}
use Rattle.points.specs.Distance.{distance_sq_of}
use Rattle.points.specs.Along.{along_of}

-- brought into 0 to 1; what is neither below 0 nor above 1 stays as it is, -0 too
unfoldable pub clamp_of : Float → Float
clamp_of t = cond (lt t zero64) zero64 (cond (lt one64 t) one64 t)

-- how far along the edge p's foot falls, before it is brought into 0 to 1: 0 where the squared length is under 1e-12
unfoldable pub foot_of : Point → Ends → Float
foot_of p e =
    let a = e.start in
    let b = e.finish in
    let over = add binary64 (mul binary64 (sub binary64 p.x a.x) (sub binary64 b.x a.x))
    (mul binary64 (sub binary64 p.y a.y) (sub binary64 b.y a.y)) in
    cond (lt (distance_sq_of a b) tiny) zero64 (div binary64 over (distance_sq_of a b))

-- edge i takes the place of the best so far only if it is strictly closer
unfoldable pub closer_of : Point → ℕ → Ends → Best → Best
closer_of p i e best =
    let t = clamp_of (foot_of p e) in
    let q = along_of e t in
    let d = distance_sq_of p q in
    cond (lt d best.distance) (record { distance = d; nearest = record { point = q; vertex = i; t = t } }) best

-- the edges from number i on, each tried against the best so far
unfoldable pub closest_from : Point → ℕ → Best → List Ends → Best
closest_from p i best [] = best
closest_from p i best (e ∷ more) = closest_from p (suc i) (closer_of p i e best) more

-- before any edge is tried: vertex 0, farther than all
abbrev pub unbeaten : Point → Best
unbeaten v = record { distance = huge; nearest = record { point = v; vertex = 0; t = zero64 } }

-- the closest point of a polygon; none where it has no vertices
unfoldable pub closest_to : Point → List Point → Option Nearest
closest_to p [] = None
closest_to p (v ∷ more) = Some (closest_from p 0 (unbeaten v) (edges (v ∷ more))).nearest

-- unless the check refuses
-- the polygon's first bad vertex, one with a number missing among them; then the point, numbered after the whole
-- vertices
unfoldable pub polygon_and_point : List Float → Point → Check
polygon_and_point polygon p =
    first_refusal (refuse_at 8 (first_bad polygon ((length polygon + 1) / 2))
    ∷ refuse_if (bad_point p) 8 (length polygon / 2) ∷ [])

unfoldable pub closest_on_polygon_of : List Float → Point → Answer (Option Nearest)
closest_on_polygon_of polygon p = unless (polygon_and_point polygon p) (closest_to p (points polygon))
