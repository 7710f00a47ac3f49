-- The walk over a polygon's edges, a step at a time. Assumes nothing.
use Rattle.std.specs.Prelude.{None, Some}
use Rattle.std.proofs.Common.{◌≡◌, ℕ, ◌+◌, ◌/◌, ◌<◌, ◌≤◌, List, [], ◌∷◌, length, get_or, drop, sym, refl, ap, ◌∙◌, not-suc-le-zero, add-one, arith, drop_of_length-le, drop-cons}
use lib.Ieee.{Float}
use Rattle.answer.specs.declared.Point.{Point}
use Rattle.cost.specs.declared.Best.{Best}
use Rattle.points.specs.Points.{nowhere, no_ends, points, edges}
use Rattle.cost.specs.Closest.{closer_of, closest_from, unbeaten, closest_to}
use Rattle.points.proofs.PointLaws.{points-length, edges_count}

first_of : (p : Point) (ps : List Point) → 0 < length ps
    → closest_to p ps ≡ Some (closest_from p 0 (unbeaten (get_or ps 0 nowhere)) (edges ps)).nearest
unfolding closest_to
first_of p [] h = absurd (not-suc-le-zero h)
first_of p (v ∷ more) h = refl

none_of : (p : Point) (ps : List Point) → length ps ≡ 0 → closest_to p ps ≡ None
unfolding closest_to
none_of p [] h = refl
none_of p (v ∷ more) h = absurd (omega arith)

module _ (d : List Float) (p : Point) where
  -- finishing from edge i with this best gives what the whole walk gives
  abbrev pub Onwards : Best → ℕ → Type 0
  Onwards best i =
      closest_from p 0 (unbeaten (get_or (points d) 0 nowhere)) (edges (points d))
      ≡ closest_from p i best (drop i (edges (points d)))

  pub onwards_step : (best : Best) (i : ℕ) → i < length d / 2 → Onwards best i
      → Onwards (closer_of p i (get_or (edges (points d)) i no_ends) best) (i + 1)
  unfolding closest_from
  onwards_step best i h o =
      let g : i < length (edges (points d)) = rw edges_count h in
      o ∙ rw (add-one, drop-cons (edges (points d)) i no_ends)

  pub onwards_done : (best : Best) (i : ℕ) → 0 < length d / 2 → length d / 2 ≤ i → Onwards best i
      → Some best.nearest ≡ closest_to p (points d)
  unfolding closest_from
  onwards_done best i h g o =
      let e : drop i (edges (points d)) ≡ [] = drop_of_length-le (edges (points d)) {i = i} (rw edges_count g) in
      sym (first_of p (points d) (rw points-length h) ∙ ap (λ (b : Best). Some b.nearest) (rw e at o))

  pub no_vertices : length d / 2 ≡ 0 → None ≡ closest_to p (points d)
  no_vertices h = sym (none_of p (points d) (points-length d ∙ h))
