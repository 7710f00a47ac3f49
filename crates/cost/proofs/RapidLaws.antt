-- The sum over a sequence's legs, a leg at a time. Assumes nothing.
use Rattle.std.specs.Prelude.{Some}
use Rattle.std.proofs.Common.{◌≡◌, ℕ, ◌+◌, ◌/◌, ◌<◌, ◌≤◌, List, [], ◌∷◌, length, get_or, drop, sym, refl, ◌∙◌, not-suc-le-zero, add-one, arith, drop_of_length-le, drop-cons}
use lib.Ieee.{Float, binary64, add, of_bits}
use Rattle.answer.specs.declared.Point.{Point}
use Rattle.answer.proofs.LowestLaws.{is_at_lem}
use Rattle.points.specs.declared.Ends.{Ends}
use Rattle.points.specs.Points.{no_ends, points, legs}
use Rattle.points.specs.Bad.{first_bad, bad_at}
use Rattle.points.specs.Distance.{distance_of}
use Rattle.cost.specs.Rapid.{onward, rapid_of}
use Rattle.points.proofs.PointLaws.{legs_count}

first_of : (home : Point) (l : List Ends) → 0 < length l
    → rapid_of home l ≡ onward (distance_of home (get_or l 0 no_ends).start) (get_or l 0 no_ends).finish (drop 1 l)
unfolding rapid_of
first_of home [] h = absurd (not-suc-le-zero h)
first_of home (leg ∷ more) h = refl

none_of : (home : Point) (l : List Ends) → length l ≡ 0 → rapid_of home l ≡ of_bits binary64 0
unfolding rapid_of
none_of home [] h = refl
none_of home (leg ∷ more) h = absurd (omega arith)

module _ (d : List Float) where
  -- going on from leg k with this sum and from this point gives what going on from leg 1 gave
  abbrev pub Onwards : Float → Point → Float → Point → ℕ → Type 0
  Onwards total₀ p₀ total p k = onward total₀ p₀ (drop 1 (legs (points d))) ≡ onward total p (drop k (legs (points d)))

  pub onwards_step : (total₀ : Float) (p₀ : Point) (total : Float) (p : Point) (k : ℕ) → k < length d / 4
      → Onwards total₀ p₀ total p k
      → Onwards total₀ p₀ (add binary64 total (distance_of p (get_or (legs (points d)) k no_ends).start))
      (get_or (legs (points d)) k no_ends).finish (k + 1)
  unfolding onward
  onwards_step total₀ p₀ total p k h o =
      let g : k < length (legs (points d)) = rw legs_count h in
      o ∙ rw (add-one, drop-cons (legs (points d)) k no_ends)

  pub onwards_done : (home : Point) (total : Float) (p : Point) (k : ℕ) → 0 < length d / 4 → length d / 4 ≤ k
      → Onwards (distance_of home (get_or (legs (points d)) 0 no_ends).start) (get_or (legs (points d)) 0 no_ends).finish
      total p k
      → total ≡ rapid_of home (legs (points d))
  unfolding onward
  onwards_done home total p k f h o =
      let e : drop k (legs (points d)) ≡ [] = drop_of_length-le (legs (points d)) {i = k} (rw legs_count h) in
      sym (first_of home (legs (points d)) (rw legs_count f) ∙ (rw e at o))

  pub no_legs : (home : Point) → length d / 4 ≡ 0 → of_bits binary64 0 ≡ rapid_of home (legs (points d))
  no_legs home h = sym (none_of home (legs (points d)) (legs_count d ∙ h))

pub bad_within : (d : List Float) (n k : ℕ) → first_bad d n ≡ Some k → k < n
unfolding first_bad
bad_within d n k e = (is_at_lem (bad_at d) n k e).within
