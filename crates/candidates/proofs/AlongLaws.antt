-- The way around a contour, an edge at a time. Assumes nothing.
use Rattle.std.proofs.Common.{◌≡◌, ℕ, ◌+◌, ◌-◌, ◌/◌, ◌<◌, ◌≤◌, true, false, List, [], length, get_or, drop, sym, refl}
use Rattle.std.proofs.Common.{◌∙◌, add-one, drop_of_length-le, drop-cons}
use lib.Ieee.{Float, binary64, add}
use Rattle.points.specs.Points.{nowhere, no_ends, points, edges}
use Rattle.points.specs.Numbers.{zero64}
use Rattle.points.proofs.PointLaws.{points-length, edges_count}
use Rattle.candidates.specs.Along.{spot, edge_length, around, perimeter_of, reaches, on_edge, spot_from, last_spot}
use Rattle.candidates.specs.Along.{spot_at}

module _ (n : List Float) where
  within : (i : ℕ) → i < length n / 2 → i < length (edges (points n))
  within i h = rw edges_count h

  none_left : (i : ℕ) → length n / 2 ≤ i → drop i (edges (points n)) ≡ []
  none_left i h = drop_of_length-le (edges (points n)) {i = i} (rw edges_count h)

  pub last_of_lem : last_spot (points n) ≡ spot (get_or (points n) (length n / 2 - 1) nowhere) (length n / 2 - 1)
  unfolding last_spot
  last_of_lem = rw points-length

  -- adding up from edge i with this sum gives the whole perimeter
  abbrev pub Summed : Float → ℕ → Type 0
  Summed sum i = perimeter_of (points n) ≡ around sum (drop i (edges (points n)))

  pub summed_start : Summed zero64 0
  unfolding perimeter_of
  summed_start = refl

  pub summed-step : (sum : Float) (i : ℕ) → i < length n / 2 → Summed sum i
      → Summed (add binary64 sum (edge_length (get_or (edges (points n)) i no_ends))) (i + 1)
  unfolding around
  summed-step sum i h s =
      let g = within i h in
      s ∙ rw (add-one, drop-cons (edges (points n)) i no_ends)

  pub summed_done : (sum : Float) (i : ℕ) → length n / 2 ≤ i → Summed sum i → sum ≡ perimeter_of (points n)
  unfolding around
  summed_done sum i h s = sym (rw (none_left i h) at s)

  -- looking on from edge i, which begins at `before`, finds what looking from the start finds
  abbrev pub Sought : Float → Float → ℕ → Type 0
  Sought d before i = spot_at (points n) d ≡ spot_from (last_spot (points n)) d i before (drop i (edges (points n)))

  pub sought_start : (d : Float) → Sought d zero64 0
  unfolding spot_at
  sought_start d = refl

  module _ (d before : Float) (i : ℕ) where
    pub sought_here : i < length n / 2 → Sought d before i
        → reaches d before (add binary64 before (edge_length (get_or (edges (points n)) i no_ends))) ≡ true
        → on_edge d i before (get_or (edges (points n)) i no_ends) ≡ spot_at (points n) d
    unfolding spot_from
    sought_here h s e =
        let g = within i h in
        sym (s ∙ rw (drop-cons (edges (points n)) i no_ends, e))

    pub sought_on : i < length n / 2 → Sought d before i
        → reaches d before (add binary64 before (edge_length (get_or (edges (points n)) i no_ends))) ≡ false
        → Sought d (add binary64 before (edge_length (get_or (edges (points n)) i no_ends))) (i + 1)
    unfolding spot_from
    sought_on h s e =
        let g = within i h in
        s ∙ rw (add-one, drop-cons (edges (points n)) i no_ends, e)

    pub sought_last : length n / 2 ≤ i → Sought d before i → last_spot (points n) ≡ spot_at (points n) d
    unfolding spot_from
    sought_last h s = sym (rw (none_left i h) at s)
