-- A tour's evaluation is the sum along its route: from home through the points where its candidates are pierced.
-- Assumes nothing.
use mathlib.Core.Path.{◌≡◌, refl, ap, ◌∙◌}
use mathlib.Core.List.{List, [], ◌∷◌, map}
use Prim.Native.Nat.{ℕ, suc, ◌<◌}
use native.Mathlib.Omega.{arith}
use lib.Ieee.{Float, binary64, add, of_bits, of_fields, odd}
use lib.ListN.{length, get_or}
use Rattle.answer.specs.declared.Point.{Point}
use Rattle.points.specs.Distance.{distance_of}
use Rattle.candidates.specs.declared.Candidate.{Candidate}
use Rattle.table.specs.Walk.{walk, legs}
use Rattle.table.specs.Evaluate.{distance_at, add_leg, length_of}
use Rattle.table.specs.Distances.{absent, pierced, homes_of, distances_of}
use Rattle.table.proofs.DistanceLaws.{other_contour, homes_at}
use Rattle.exact.specs.Length.{along_route, summed, total}
use Rattle.tour_laws.proofs.GatherLaws.{EndsThere}

-- each stop and the next are so
unfoldable Chain : (ℕ → ℕ → Type 0) → ℕ → List ℕ → Type 0
Chain So a [] = Unit {0}
Chain So a (b ∷ more) = So a b × Chain So b more

chain_is : (So : ℕ → ℕ → Type 0) (a : ℕ) (rest : List ℕ)
    → ((p : ℕ) → suc p < length (a ∷ rest) → So (get_or (a ∷ rest) p 0) (get_or (a ∷ rest) (suc p) 0)) → Chain So a rest
unfolding Chain
chain_is So a [] h = tt
chain_is So a (b ∷ more) h = (h 0 (omega arith), chain_is So b more (λ p l. h (suc p) (omega arith)))

legs-sum : (table : List Float) (t : ℕ) (stop : ℕ → Point) (So : ℕ → ℕ → Type 0)
    → ((a b : ℕ) → So a b → distance_at table t a b ≡ distance_of (stop a) (stop b))
    → (sum : Float) (a : ℕ) (rest : List ℕ) → Chain So a rest
    → legs (add_leg table t) sum a rest ≡ summed sum (along_route distance_of (stop a) (map stop rest))
unfolding Chain legs summed along_route
legs-sum table t stop So leg sum a [] h = refl
legs-sum table t stop So leg sum a (b ∷ more) h =
    ap (λ (x : Float). legs (add_leg table t) (add binary64 sum x) b more) (leg a b h.0)
    ∙ legs-sum table t stop So leg (add binary64 sum (distance_of (stop a) (stop b))) b more h.1

-- where candidate a of a list is pierced
abbrev pub stop_of : List Candidate → ℕ → Point
stop_of cs a = pierced (get_or cs a absent)

-- a tour of a list's candidates that never goes on to another candidate of the same contour
pub record Rides (cs : List Candidate) (owner tour : List ℕ) : Type 0 where
  pub within : (p : ℕ) → p < length tour → get_or tour p 0 < length cs
  pub onward : (p : ℕ) → suc p < length tour → get_or owner (get_or tour p 0) 0 ≡ get_or owner (get_or tour (suc p) 0) 0 → ⊥

record Leg (cs : List Candidate) (owner : List ℕ) (a b : ℕ) : Type 0 where
  here : a < length cs
  there : b < length cs
  other : get_or owner a 0 ≡ get_or owner b 0 → ⊥

-- between contours the table has the distance from stop to stop
pub leg_is : (cs : List Candidate) (owner : List ℕ) → EndsThere cs → (a b : ℕ) → a < length cs → b < length cs
    → (get_or owner a 0 ≡ get_or owner b 0 → ⊥)
    → distance_at (distances_of cs owner) (length cs) a b ≡ distance_of (stop_of cs a) (stop_of cs b)
leg_is cs owner ends a b here there other =
    other_contour cs owner a b here there other ∙ ap (λ (p : Point). distance_of p (stop_of cs b)) (ends a)

-- a tour that rides is as long as the sum along its stops
pub evaluated : (cs : List Candidate) (owner : List ℕ) (home : Point) → EndsThere cs → (tour : List ℕ)
    → Rides cs owner tour
    → length_of (homes_of cs home) (distances_of cs owner) (length cs) tour
    ≡ total (along_route distance_of home (map (stop_of cs) tour))
unfolding length_of walk total along_route of_bits of_fields odd
evaluated cs owner home ends [] r = refl
evaluated cs owner home ends (a ∷ rest) r =
    ap (λ (x : Float). legs (add_leg (distances_of cs owner) (length cs)) x a rest)
    (homes_at cs home a (r.within 0 (omega arith)))
    ∙ legs-sum (distances_of cs owner) (length cs) (stop_of cs) (Leg cs owner)
    (λ i j l. leg_is cs owner ends i j l.here l.there l.other)
    (distance_of home (stop_of cs a)) a rest
    (chain_is (Leg cs owner) a rest (λ p h. record
    { here = r.within p (omega arith); there = r.within (suc p) h; other = r.onward p h }))
