-- On a card that lies on the grid: the computed length of any tour that visits each contour once is near to the exact
-- one, and what is computed no longer than another is exactly no longer but for twice that. Assumes nothing.
use mathlib.Core.Path.{◌≡◌, sym, subst}
use mathlib.Core.Logic.{◌⊎◌, inl, inr}
use mathlib.Core.List.{List, [], ◌∷◌, map}
use Prim.Native.Nat.{ℕ, ◌+◌, ◌*◌, ◌≤◌, ◌<◌}
use native.Mathlib.Omega.{arith}
use lib.Dec.{T}
use lib.Ieee.{Float, nan, binary64, le, fits}
use lib.Ieee.Fits.{and_i}
use lib.ListN.{length, get_or, length-map, get_or-eq_default}
use Rattle.root.proofs.StepLaws.{steps→le}
use Rattle.closure.proofs.PairLaws.{lt-or}
use Rattle.fields.specs.Layout.{contours_of}
use Rattle.table.proofs.DistanceLaws.{homes_at, homes_length}
use Rattle.exact.specs.Grid.{grid_point, grid_points, squared_length}
use Rattle.exact.specs.Length.{lower_end, upper_end, step40}
use Rattle.exact.specs.Bound.{NearEnds, Enough}
use Rattle.exact.proofs.GridLaws.{grid-leg, plain_real}
use Rattle.exact.proofs.SumLaws.{length_plain}
use Rattle.exact.proofs.RouteLaws.{computed, squares, route_legs, route_near, route_length, route_excess}
use Rattle.improve.specs.Search.{length_in}
use Rattle.improve.proofs.LengthLaws.{HomeFits}
use Rattle.instance.specs.Search.{home_on, candidates_on, count_on, owners_on, homes_on, chart_on}
use Rattle.tour_laws.specs.Visits.{AllBelow, Visits}
use Rattle.tour_laws.proofs.GatherLaws.{ends-gathered}
use Rattle.tour_laws.proofs.RouteLaws.{evaluated}
use Rattle.tour_laws.proofs.TourLaws.{rides}
use Rattle.demands.specs.Demand3.{stop_on, OnGrid, legs_on}

module _ (s : List ℕ) (grid : OnGrid s) where
  stops-on : (tour : List ℕ) → AllBelow (count_on s) tour → T (grid_points (map (stop_on s) tour))
  unfolding AllBelow grid_points
  stops-on [] h = tt
  stops-on (a ∷ tour) h =
      and_i (grid_point (stop_on s a)) (grid_points (map (stop_on s) tour)) (grid.candidate a h.0)
      (stops-on tour h.1)

  few_stops : (tour : List ℕ) → Visits s tour → length (map (stop_on s) tour) ≤ contours_of s
  few_stops tour v = let e = length-map tour (stop_on s) in omega (arith, v.long)

  length_is : (tour : List ℕ) → Visits s tour → length_in (chart_on s) tour ≡ computed (home_on s) (map (stop_on s) tour)
  unfolding chart_on
  length_is tour v =
      evaluated (candidates_on s) (owners_on s) (home_on s) (ends-gathered s (contours_of s)) tour (rides s tour v)

  -- every distance from home is a number that the format has
  pub home_fits : HomeFits (chart_on s).home
  unfolding chart_on fits
  home_fits a = go (lt-or a (count_on s))
    where
      go : (a < count_on s) ⊎ (count_on s ≤ a) → T (fits binary64 (get_or (homes_on s) a nan))
      go (inl h) =
          rw (homes_at (candidates_on s) (home_on s) a h)
          (grid-leg (home_on s) (stop_on s a) grid.home (grid.candidate a h)).plain.held
      go (inr h) =
          let l = homes_length (candidates_on s) (home_on s) in
          rw (get_or-eq_default (homes_on s) nan {n = a} (omega arith)) tt

  -- ---- with a bound b that is enough for the legs of the card

  module _ (a b : ℕ) (enough : Enough (contours_of s) a b) where
    -- the computed length of a tour is near to the exact one
    pub near_of : (tour : List ℕ) → Visits s tour → NearEnds b (length_in (chart_on s) tour) (legs_on s tour)
    near_of tour v =
        subst (λ (x : Float). NearEnds b x (legs_on s tour)) (sym (length_is tour v))
        (route_length (contours_of s) a b (home_on s) (map (stop_on s) tour) enough grid.home
        (stops-on tour v.among) (few_stops tour v))

    -- it is a number, so that it can be compared
    pub number_of : (tour : List ℕ) → Visits s tour → T (le (length_in (chart_on s) tour) (length_in (chart_on s) tour))
    number_of tour v =
        let stops = map (stop_on s) tour in
        let legs = route_near (home_on s) stops grid.home (stops-on tour v.among) in
        let p = length_plain (contours_of s) a b _ (squares (home_on s) stops) enough legs
        (rw (route_legs squared_length (home_on s) stops) (few_stops tour v)) in
        let x = computed (home_on s) stops in
        subst (λ (y : Float). T (le y y)) (sym (length_is tour v))
        (steps→le binary64 x x p.held (plain_real x p) p.held (plain_real x p) (omega arith))

    -- a tour that is computed no longer than an order is exactly no longer, but for twice the bound
    pub excess_of : (tour order : List ℕ) → Visits s tour → Visits s order
        → T (le (length_in (chart_on s) tour) (length_in (chart_on s) order))
        → upper_end (legs_on s tour) * step40 ≤ lower_end (legs_on s order) * step40 + 2 * (b * step40)
    excess_of tour order v w h =
        route_excess (contours_of s) a b (home_on s) (map (stop_on s) tour) (map (stop_on s) order) enough grid.home
        (stops-on tour v.among) (few_stops tour v) (stops-on order w.among) (few_stops order w)
        (subst (λ (x : Float). T (le x (computed (home_on s) (map (stop_on s) order)))) (length_is tour v)
        (subst (λ (y : Float). T (le (length_in (chart_on s) tour) y)) (length_is order w) h))
