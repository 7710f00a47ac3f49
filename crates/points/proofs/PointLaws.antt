-- Where the points, edges and legs of a flat list of numbers are found. Assumes nothing.
use mathlib.Core.Path.{◌≡◌, refl, ap, ◌∙◌}
use mathlib.Core.List.{List, [], ◌∷◌}
use Prim.Native.Nat.{ℕ, zero, suc, ◌+◌, ◌*◌, ◌/◌, ◌≤◌, ◌<◌, suc-le-suc}
use native.Mathlib.Nat.{not-suc-le-zero, le_of_suc-le-suc, zero-lt-suc}
use native.Mathlib.Decide.{dec_lt}
use native.Mathlib.Numerals.{add-one}
use native.Mathlib.Omega.{arith}
use lib.Arith.{lt_of_le-ne}
use lib.ListN.{length, get_or, get_or-eq_default}
use lib.Ieee.{Float, nan}
use Rattle.answer.specs.declared.Point.{Point}
use Rattle.points.specs.declared.Ends.{Ends}
use Rattle.points.specs.Points.{point, ends, nowhere, no_ends, points, closing, edges, legs}

-- ---- a list taken two by two: numbers as points, points as legs

module _ {A B : Type 0} (pair : A → A → B) (twos : List A → List B) (none : twos [] ≡ [])
    (one : (x : A) → twos (x ∷ []) ≡ [])
    (two : (x y : A) (more : List A) → twos (x ∷ y ∷ more) ≡ pair x y ∷ twos more) where
  twos_length : (l : List A) → length (twos l) ≡ length l / 2
  twos_length [] = ap length none
  twos_length (x ∷ []) = ap length (one x)
  twos_length (x ∷ y ∷ more) = let h = twos_length more in rw two (omega arith)

  twos_at : (a : A) (b : B) (l : List A) (k : ℕ) → k < length l / 2
      → get_or (twos l) k b ≡ pair (get_or l (2 * k) a) (get_or l (2 * k + 1) a)
  twos_at a b [] k h = absurd (not-suc-le-zero h)
  twos_at a b (x ∷ []) k h = absurd (not-suc-le-zero h)
  twos_at a b (x ∷ y ∷ more) zero h = rw two
  twos_at a b (x ∷ y ∷ more) (suc k) h =
      let e : 2 * suc k ≡ suc (suc (2 * k)) = omega arith in
      let f : 2 * suc k + 1 ≡ suc (suc (2 * k + 1)) = omega arith in
      rw (two, f, e) (twos_at a b more k (omega arith))

pub points-length : (d : List Float) → length (points d) ≡ length d / 2
unfolding points
points-length = twos_length point points refl (λ x. refl) (λ x y more. refl)

pub points-at : (d : List Float) (k : ℕ) → k < length d / 2
    → get_or (points d) k nowhere ≡ point (get_or d (2 * k) nan) (get_or d (2 * k + 1) nan)
unfolding points
points-at = twos_at point points refl (λ x. refl) (λ x y more. refl) nan nowhere

pub legs-length : (ps : List Point) → length (legs ps) ≡ length ps / 2
unfolding legs
legs-length = twos_length ends legs refl (λ p. refl) (λ p q more. refl)

pub legs-at : (ps : List Point) (k : ℕ) → k < length ps / 2
    → get_or (legs ps) k no_ends ≡ ends (get_or ps (2 * k) nowhere) (get_or ps (2 * k + 1) nowhere)
unfolding legs
legs-at = twos_at ends legs refl (λ p. refl) (λ p q more. refl) nowhere no_ends

-- ---- edges

closing-length : (first p : Point) (rest : List Point) → length (closing first p rest) ≡ suc (length rest)
unfolding closing
closing-length first p [] = refl
closing-length first p (q ∷ more) = ap suc (closing-length first q more)

pub edges-length : (ps : List Point) → length (edges ps) ≡ length ps
unfolding edges
edges-length [] = refl
edges-length (p ∷ more) = closing-length p p more

closing_inner : (first p : Point) (rest : List Point) (i : ℕ) → suc i < suc (length rest)
    → get_or (closing first p rest) i no_ends ≡ ends (get_or (p ∷ rest) i nowhere) (get_or (p ∷ rest) (suc i) nowhere)
unfolding closing
closing_inner first p [] i h = absurd (not-suc-le-zero (le_of_suc-le-suc h))
closing_inner first p (q ∷ more) zero h = refl
closing_inner first p (q ∷ more) (suc i) h = closing_inner first q more i (le_of_suc-le-suc h)

closing_last : (first p : Point) (rest : List Point) (i : ℕ) → i ≡ length rest
    → get_or (closing first p rest) i no_ends ≡ ends (get_or (p ∷ rest) i nowhere) first
unfolding closing
closing_last first p [] zero h = refl
closing_last first p [] (suc i) h = absurd (omega arith)
closing_last first p (q ∷ more) zero h = absurd (omega arith)
closing_last first p (q ∷ more) (suc i) h = closing_last first q more i (omega arith)

-- from a vertex to the next
pub edge_inner : (ps : List Point) (i : ℕ) → i + 1 < length ps
    → get_or (edges ps) i no_ends ≡ ends (get_or ps i nowhere) (get_or ps (i + 1) nowhere)
unfolding edges
edge_inner [] i h = absurd (not-suc-le-zero h)
edge_inner (p ∷ more) i h = rw add-one (closing_inner p p more i (omega arith))

-- from the last vertex to the first
pub edge_last : (ps : List Point) (i : ℕ) → i + 1 ≡ length ps
    → get_or (edges ps) i no_ends ≡ ends (get_or ps i nowhere) (get_or ps 0 nowhere)
unfolding edges
edge_last [] i h = absurd (omega arith)
edge_last (p ∷ more) i h = closing_last p p more i (omega arith)

-- ---- the same, asked of the list of numbers

module _ (d : List Float) where
  pub point-past : (k : ℕ) → length d / 2 ≤ k → get_or (points d) k nowhere ≡ nowhere
  point-past k h = get_or-eq_default (points d) nowhere (rw points-length h)

  pub edge_next : (i : ℕ) → i + 1 < length d / 2
      → get_or (edges (points d)) i no_ends ≡ ends (get_or (points d) i nowhere) (get_or (points d) (i + 1) nowhere)
  edge_next i h = edge_inner (points d) i (rw points-length h)

  pub edge_back : (i : ℕ) → i + 1 ≡ length d / 2
      → get_or (edges (points d)) i no_ends ≡ ends (get_or (points d) i nowhere) (get_or (points d) 0 nowhere)
  edge_back i h = edge_last (points d) i (rw points-length h)

  pub edge_past : (i : ℕ) → length d / 2 ≤ i → get_or (edges (points d)) i no_ends ≡ no_ends
  edge_past i h = get_or-eq_default (edges (points d)) no_ends (rw (edges-length, points-length) h)

  -- from vertex i, not the last, to the next one; from no vertex to none
  pub edge_on : (i n : ℕ) → (n ≡ length d / 2 → ⊥) → (i < length d / 2 → n ≡ i + 1) → i ≤ n
      → get_or (edges (points d)) i no_ends ≡ ends (get_or (points d) i nowhere) (get_or (points d) n nowhere)
  edge_on i n m h g = elim (dec_lt i (length d / 2)) [
    | yes y ↦
        let e = h y in
        let l : i + 1 ≤ length d / 2 = omega arith in
        rw e (edge_next i (lt_of_le-ne l (λ z. m (e ∙ z))))
    | no k ↦ rw (edge_past i (omega arith), point-past i (omega arith), point-past n (omega arith))
  ]

  pub edges_count : length (edges (points d)) ≡ length d / 2
  edges_count = edges-length (points d) ∙ points-length d

  pub leg_of_lem : (k : ℕ) → k < length d / 4
      → get_or (legs (points d)) k no_ends ≡ ends (get_or (points d) (2 * k) nowhere) (get_or (points d) (2 * k + 1) nowhere)
  leg_of_lem k h = legs-at (points d) k (rw points-length (omega arith))

  pub legs_count : length (legs (points d)) ≡ length d / 4
  legs_count = rw (legs-length, points-length) (omega arith)

-- ---- what holds of every vertex holds of every edge's ends

abbrev pub EndsBoth : (Point → Type 0) → Ends → Type 0
EndsBoth P e = P e.start × P e.finish

abbrev pub AllEnds : (Point → Type 0) → List Ends → Type 0
AllEnds P [] = Unit
AllEnds P (e ∷ more) = EndsBoth P e × AllEnds P more

closing-ends : (P : Point → Type 0) (first p : Point) (rest : List Point) → P first → P p
    → ((j : ℕ) → j < length rest → P (get_or rest j nowhere)) → AllEnds P (closing first p rest)
unfolding closing
closing-ends P first p [] f n all = ((n, f), tt)
closing-ends P first p (q ∷ more) f n all =
    let m = all 0 (zero-lt-suc (length more)) in
    ((n, m), closing-ends P first q more f m (λ j h. all (suc j) (suc-le-suc h)))

pub edges-ends : (P : Point → Type 0) (ps : List Point) → ((j : ℕ) → j < length ps → P (get_or ps j nowhere))
    → AllEnds P (edges ps)
unfolding edges
edges-ends P [] all = tt
edges-ends P (p ∷ more) all =
    let n = all 0 (zero-lt-suc (length more)) in
    closing-ends P p p more n n (λ j h. all (suc j) (suc-le-suc h))
