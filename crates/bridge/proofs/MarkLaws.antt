-- The marks along the way, one at a time, and the edges found by them. Assumes nothing.
use mathlib.Core.Path.{◌≡◌, refl, sym, ap, ◌∙◌}
use mathlib.Core.Bool.{Bool, true, false, cond}
use mathlib.Core.Logic.{◌⊎◌, inl, inr}
use mathlib.Core.List.{List, [], ◌∷◌}
use Prim.Native.Nat.{ℕ, zero, suc, ◌+◌, ◌-◌, ◌/◌, ◌≤◌, ◌<◌, suc-le-suc}
use native.Mathlib.Nat.{not-suc-le-zero, le_of_suc-le-suc, zero-lt-suc, add-zero, add-suc, suc-add, zero-add}
use native.Mathlib.Numerals.{add-one}
use native.Mathlib.Omega.{arith}
use lib.ListN.{length, get_or, take, set, replicate}
use lib.Seq.{take-suc, take_all, length-take-le}
use lib.Ieee.{Float, nan, binary64, add, sub, div, lt}
use Rattle.answer.specs.declared.Point.{Point}
use Rattle.answer.specs.Answer.{Found}
use Rattle.answer.specs.Lowest.{lowest}
use Rattle.answer.specs.Room.{padded}
use Rattle.answer.proofs.RoomLaws.{padded-length, padded_front, padded-one}
use Rattle.answer.proofs.LowestLaws.{LowestAt, Nowhere, at_is, absent_is, search_through}
use Rattle.fields.specs.Limits.{vertex_limit}
use Rattle.points.specs.declared.Ends.{Ends}
use Rattle.points.specs.Points.{no_ends, points, edges}
use Rattle.points.specs.Numbers.{zero64, tiny}
use Rattle.points.specs.Along.{along_of}
use Rattle.points.proofs.PointLaws.{points-length, edges-length}
use Rattle.cost.specs.Closest.{clamp_of}
use Rattle.candidates.specs.declared.Spot.{Spot}
use Rattle.candidates.specs.Along.{edge_length, around, perimeter_of, spot, reaches, on_edge, spot_from, last_spot, spot_at}
use Rattle.bridge.specs.Limits.{mark_limit}
use Rattle.bridge.specs.Lookup.{marks_from, marks, mark_at, whole_of, falls_on, edge_on, held_on, spot_by}

-- ---- from any sum on

from_length : (sum : Float) (es : List Ends) → length (marks_from sum es) ≡ suc (length es)
unfolding marks_from
from_length sum [] = refl
from_length sum (e ∷ more) = ap suc (from_length (add binary64 sum (edge_length e)) more)

from_first : (sum : Float) (es : List Ends) → mark_at (marks_from sum es) 0 ≡ sum
unfolding marks_from
from_first sum [] = refl
from_first sum (e ∷ more) = refl

from_next : (sum : Float) (es : List Ends) (k : ℕ) → k < length es
    → mark_at (marks_from sum es) (suc k) ≡ add binary64 (mark_at (marks_from sum es) k) (edge_length (get_or es k no_ends))
unfolding marks_from
from_next sum [] k h = absurd (not-suc-le-zero h)
from_next sum (e ∷ more) zero h = from_first (add binary64 sum (edge_length e)) more
from_next sum (e ∷ more) (suc k) h = from_next (add binary64 sum (edge_length e)) more k (le_of_suc-le-suc h)

from_last : (sum : Float) (es : List Ends) → mark_at (marks_from sum es) (length es) ≡ around sum es
unfolding marks_from around
from_last sum [] = refl
from_last sum (e ∷ more) = from_last (add binary64 sum (edge_length e)) more

-- ---- along a contour's way

pub marks-length : (ps : List Point) → length (marks ps) ≡ suc (length ps)
unfolding marks
marks-length ps = from_length zero64 (edges ps) ∙ ap suc (edges-length ps)

-- of a contour's numbers
marks_long : (n : List Float) → length (marks (points n)) ≡ suc (length n / 2)
marks_long n = marks-length (points n) ∙ ap suc (points-length n)

pub mark_first : (ps : List Point) → mark_at (marks ps) 0 ≡ zero64
unfolding marks
mark_first ps = from_first zero64 (edges ps)

pub mark_next : (ps : List Point) (k : ℕ) → k < length ps
    → mark_at (marks ps) (suc k) ≡ add binary64 (mark_at (marks ps) k) (edge_length (get_or (edges ps) k no_ends))
unfolding marks
mark_next ps k h = from_next zero64 (edges ps) k (rw edges-length h)

pub whole_is : (ps : List Point) → whole_of (marks ps) ≡ perimeter_of ps
unfolding perimeter_of marks
whole_is ps =
    let e : length (marks_from zero64 (edges ps)) - 1 ≡ length (edges ps) =
    omega (arith, from_length zero64 (edges ps)) in
    ap (λ (k : ℕ). mark_at (marks_from zero64 (edges ps)) k) e ∙ from_last zero64 (edges ps)

-- ---- how the marks come to stand in their room

module _ (n : List Float) where
  -- the first k + 1 of them
  abbrev pub marked : ℕ → List Float
  marked k = padded mark_limit zero64 (take (suc k) (marks (points n)))

  -- after k edges: their sum, and the marks up to it
  abbrev pub Marked : Float → List Float → ℕ → Type 0
  Marked sum room k = (sum ≡ mark_at (marks (points n)) k) × (room ≡ marked k)

  take-first : (ms : List Float) (x : Float) → 0 < length ms → mark_at ms 0 ≡ x → take 1 ms ≡ x ∷ []
  take-first [] x h e = absurd (not-suc-le-zero h)
  take-first (y ∷ ms) x h e = ap (λ (z : Float). z ∷ []) e

  pub marked_start : Marked zero64 (replicate mark_limit zero64) 0
  marked_start =
      let e = take-first (marks (points n)) zero64 (omega (arith, marks-length (points n))) (mark_first (points n)) in
      (sym (mark_first (points n)), ap (λ (l : List Float). padded mark_limit zero64 l) (sym e))

  pub marked_step : (sum : Float) (room : List Float) (k : ℕ) → k < length n / 2 → length n / 2 < mark_limit
      → Marked sum room k
      → let more = add binary64 sum (edge_length (get_or (edges (points n)) k no_ends)) in
      Marked more (set room (k + 1) more) (k + 1)
  marked_step sum room k h few (s, r) =
      let ms = marks (points n) in
      let e = edge_length (get_or (edges (points n)) k no_ends) in
      let long = marks_long n in
      let here : add binary64 sum e ≡ mark_at ms (suc k) =
      ap (λ (x : Float). add binary64 x e) s ∙ sym (mark_next (points n) k (rw points-length h)) in
      let there : length (take (suc k) ms) ≡ suc k = length-take-le (suc k) ms (omega arith) in
      rw (add-one, here) (
        refl,
        ap (λ (l : List Float). set l (suc k) (mark_at ms (suc k))) r
            ∙ padded-one mark_limit zero64 (take (suc k) ms) (mark_at ms (suc k)) (suc k) there (omega arith)
            ∙ ap (λ (l : List Float). padded mark_limit zero64 l) (sym (take-suc ms (suc k) nan (omega arith))),
      )

  pub marked_all : (sum : Float) (room : List Float) (k : ℕ) → k ≡ length n / 2 → Marked sum room k
      → room ≡ padded mark_limit zero64 (marks (points n))
  marked_all sum room k e (s, r) =
      let ms = marks (points n) in
      let long = marks_long n in
      r ∙ ap (λ (l : List Float). padded mark_limit zero64 l) (take_all (suc k) ms (omega arith))

-- ---- how they are lent

module _ (n room : List Float) (few : length n / 2 ≤ vertex_limit)
    (is : room ≡ padded mark_limit zero64 (marks (points n))) where
  pub marks-held : length n / 2 + 1 ≤ length room
  marks-held =
      let long = marks_long n in
      rw (is, padded-length mark_limit zero64 (marks (points n)) (omega arith)) (omega arith)

  -- as many as there are
  pub marks_lent : take (length n / 2 + 1) room ≡ marks (points n)
  marks_lent =
      let long = marks_long n in
      rw is (padded_front mark_limit zero64 (marks (points n)) (length n / 2 + 1) (omega arith))

  pub marks_count : length n / 2 + 1 ≡ length (take (length n / 2 + 1) room)
  marks_count =
      let long = marks_long n in
      rw marks_lent (omega arith)

-- ---- the edge found is a candidate's

-- on an edge the vertex told is the edge's, wherever on it the point is
either_vertex : (b : Bool) (p q : Point) (i : ℕ) → (cond b (spot p i) (spot q i)).vertex ≡ i
either_vertex true p q i = refl
either_vertex false p q i = refl

pub held-vertex : (d : Float) (i : ℕ) (before : Float) (e : Ends) → (held_on d i before e).vertex ≡ i
unfolding held_on
held-vertex d i before e =
    either_vertex (lt (edge_length e) tiny) e.start
    (along_of e (clamp_of (div binary64 (sub binary64 d before) (edge_length e)))) i

module _ (last : Spot) (d : Float) where
  edge_vertex : (i : ℕ) (before : Float) (e : Ends) → (on_edge d i before e).vertex ≡ i
  unfolding on_edge
  edge_vertex i before e =
      either_vertex (lt (edge_length e) tiny) e.start
      (along_of e (div binary64 (sub binary64 d before) (edge_length e))) i

  here_from : (i : ℕ) (sum : Float) (es : List Ends) (k : ℕ) → k < length es
      → falls_on (marks_from sum es) d k ≡ true → ((j : ℕ) → j < k → falls_on (marks_from sum es) d j ≡ false)
      → (spot_from last d i sum es).vertex ≡ i + k
  unfolding spot_from marks_from
  here_from i sum [] k h t b = absurd (not-suc-le-zero h)
  here_from i sum (e ∷ more) zero h t b =
      let after = add binary64 sum (edge_length e) in
      let q : reaches d sum after ≡ true = ap (λ (x : Float). reaches d sum x) (sym (from_first after more)) ∙ t in
      rw (q, add-zero) (edge_vertex i sum e)
  here_from i sum (e ∷ more) (suc k) h t b =
      let after = add binary64 sum (edge_length e) in
      let q : reaches d sum after ≡ false =
      ap (λ (x : Float). reaches d sum x) (sym (from_first after more)) ∙ b 0 (zero-lt-suc k) in
      rw (q, add-suc, ← suc-add)
      (here_from (suc i) after more k (le_of_suc-le-suc h) t (λ j g. b (suc j) (suc-le-suc g)))

  none_from : (i : ℕ) (sum : Float) (es : List Ends)
      → ((j : ℕ) → j < length es → falls_on (marks_from sum es) d j ≡ false) → spot_from last d i sum es ≡ last
  unfolding spot_from marks_from
  none_from i sum [] b = refl
  none_from i sum (e ∷ more) b =
      let after = add binary64 sum (edge_length e) in
      let q : reaches d sum after ≡ false =
      ap (λ (x : Float). reaches d sum x) (sym (from_first after more)) ∙ b 0 (zero-lt-suc (length more)) in
      rw q (none_from (suc i) after more (λ j g. b (suc j) (suc-le-suc g)))

pub edge_is : (ps : List Point) (d : Float)
    → (spot_by ps (marks ps) d (edge_on (marks ps) d)).vertex ≡ (spot_at ps d).vertex
unfolding edge_on spot_at marks
edge_is ps d = go (search_through (falls_on ms d) (length ms - 1))
  where
    ms : List Float
    ms = marks_from zero64 (edges ps)

    few : length ms - 1 ≡ length (edges ps)
    few = omega (arith, from_length zero64 (edges ps))

    inside : (k : ℕ) → k < length ms - 1 → k < length (edges ps)
    inside k h = rw few at h

    go : ((k : ℕ) × LowestAt (falls_on ms d) (length ms - 1) k) ⊎ Nowhere (falls_on ms d) (length ms - 1)
        → (spot_by ps ms d (lowest (falls_on ms d) (length ms - 1))).vertex
        ≡ (spot_from (last_spot ps) d 0 zero64 (edges ps)).vertex
    go (inl (k, w)) =
        ap (λ (f : Found). (spot_by ps ms d f).vertex) (at_is (falls_on ms d) (length ms - 1) k w)
        ∙ held-vertex d k (mark_at ms k) (get_or (edges ps) k no_ends)
        ∙ sym (here_from (last_spot ps) d 0 zero64 (edges ps) k (inside k w.within) w.holds w.before
        ∙ zero-add k)
    go (inr none) =
        ap (λ (f : Found). (spot_by ps ms d f).vertex) (absent_is (falls_on ms d) (length ms - 1) none)
        ∙ sym (ap (λ (p : Spot). p.vertex) (none_from (last_spot ps) d 0 zero64 (edges ps)
        (λ j h. none j (omega (arith, few)))))
