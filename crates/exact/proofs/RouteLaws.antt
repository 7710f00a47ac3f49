-- The bounds for a route from home through stops that are all on the grid. Assumes nothing.
use mathlib.Core.Path.{◌≡◌, refl, ap}
use mathlib.Core.List.{List, [], ◌∷◌}
use Prim.Native.Nat.{ℕ, suc, ◌+◌, ◌*◌, ◌≤◌}
use lib.Dec.{T}
use lib.ListN.{length}
use lib.Ieee.{Float, le}
use lib.Ieee.Fits.{and_l, and_r}
use Rattle.answer.specs.declared.Point.{Point}
use Rattle.exact.specs.Grid.{grid_point, grid_points, squared_length}
use Rattle.points.specs.Distance.{distance_of}
use Rattle.exact.specs.Length.{along_route, total, lower_end, upper_end, step40}
use Rattle.exact.specs.Bound.{NearEnds, Enough}
use Rattle.exact.proofs.GridLaws.{grid-leg}
use Rattle.exact.proofs.SumLaws.{Legs, length_near, excess}

-- the computed length of a route, and the squared lengths of its legs
abbrev pub computed : Point → List Point → Float
computed home stops = total (along_route distance_of home stops)

abbrev pub squares : Point → List Point → List ℕ
squares home stops = along_route squared_length home stops

-- a leg for each stop
pub route_legs : {A : Type 0} (leg : Point → Point → A) (home : Point) (stops : List Point)
    → length (along_route leg home stops) ≡ length stops
unfolding along_route
route_legs leg home [] = refl
route_legs leg home (stop ∷ more) = ap suc (route_legs leg stop more)

pub route_near : (home : Point) (stops : List Point) → T (grid_point home) → T (grid_points stops)
    → Legs (along_route distance_of home stops) (squares home stops)
unfolding along_route grid_points
route_near home [] h s = tt
route_near home (stop ∷ more) h s =
    let here = and_l (grid_point stop) (grid_points more) s in
    (grid-leg home stop h here, route_near stop more here (and_r (grid_point stop) (grid_points more) s))

-- ---- n stops at most, and a bound that is enough for n

pub route_length : (n a b : ℕ) (home : Point) (stops : List Point) → Enough n a b → T (grid_point home)
    → T (grid_points stops) → length stops ≤ n → NearEnds b (computed home stops) (squares home stops)
route_length n a b home stops e h s k =
    length_near n a b (along_route distance_of home stops) (squares home stops) e (route_near home stops h s)
    (rw (route_legs squared_length home stops) k)

pub route_excess : (n a b : ℕ) (home : Point) (stops stops' : List Point) → Enough n a b → T (grid_point home)
    → T (grid_points stops) → length stops ≤ n → T (grid_points stops') → length stops' ≤ n
    → T (le (computed home stops) (computed home stops'))
    → upper_end (squares home stops) * step40 ≤ lower_end (squares home stops') * step40 + 2 * (b * step40)
route_excess n a b home stops stops' e h s k s' k' l =
    excess n a b (along_route distance_of home stops) (squares home stops) (along_route distance_of home stops')
    (squares home stops') e (route_near home stops h s) (rw (route_legs squared_length home stops) k)
    (route_near home stops' h s') (rw (route_legs squared_length home stops') k') l
