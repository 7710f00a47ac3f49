-- The candidates of a card: each ends where it was pierced, what holds of each contour's holds of all, and on a fine
-- card each lies near enough for every distance to be finite. Assumes nothing.
use Rattle.std.specs.Prelude.{Ok}
use mathlib.Core.Bool.{false}
use mathlib.Core.Path.{◌≡◌, refl, sym, ap, ◌∙◌, subst}
use mathlib.Core.Logic.{◌⊎◌, inl, inr}
use mathlib.Core.List.{List, [], ◌∷◌, ◌++◌}
use Prim.Native.Nat.{ℕ, zero, suc, ◌≤◌, ◌<◌, min}
use native.Mathlib.Omega.{arith}
use lib.ListN.{length, get_or, get_or-append, get_or-eq_default}
use lib.Seq.{get_or_at}
use Rattle.answer.specs.declared.Point.{Point}
use Rattle.answer.specs.declared.CutDirection.{CutDirection}
use Rattle.answer.proofs.RoomLaws.{any_default}
use Rattle.fields.specs.Limits.{vertex_limit}
use Rattle.points.specs.Points.{point, nowhere}
use Rattle.points.specs.Bad.{bad_point}
use Rattle.points.proofs.SizeLaws.{Near}
use Rattle.candidates.specs.declared.Candidate.{Candidate}
use Rattle.candidates.specs.Generate.{blank, candidates_of}
use Rattle.candidates.proofs.CountLaws.{Closed, each_closed}
use Rattle.candidates.proofs.SizeLaws.{outmost, each_near}
use Rattle.closure.proofs.PairLaws.{lt-or, same_or}
use Rattle.fields.specs.Layout.{contours_of, per_contour_of, asks_grid, vertex_count_of, vertex_offset}
use Rattle.fields.specs.Values.{point_at}
use Rattle.card.specs.Verdict.{check_of}
use Rattle.card_laws.proofs.Facts.{accepted}
use Rattle.table.specs.Distances.{absent, pierced, leaving}
use Rattle.instance.specs.Gather.{vertices_of, way_of, outline_of, offers_of, gathered, firsts}
use Rattle.instance.proofs.GatherLaws.{firsts-length, vertices-length}
use Rattle.instance.proofs.OwnerLaws.{gathered_grows, first-at}

-- no contour's candidates begin behind the last one
pub firsts_below : (s : List ℕ) (n k : ℕ) → get_or (firsts s n) k 0 ≤ length (gathered s n)
firsts_below s n k = go (lt-or n k)
  where
    go : (n < k) ⊎ (k ≤ n) → get_or (firsts s n) k 0 ≤ length (gathered s n)
    go (inl h) = let z : get_or (firsts s n) k 0 ≡ 0 =
        get_or-eq_default (firsts s n) 0 {n = k} (omega (arith, firsts-length s n)) in omega arith
    go (inr h) = rw (first-at s n k h) (gathered_grows s n k h)

-- ---- a candidate ends where it was pierced

-- every candidate of a list does, and so does what is read past its end
abbrev pub EndsThere : List Candidate → Type 0
EndsThere cs = (a : ℕ) → leaving (get_or cs a absent) ≡ pierced (get_or cs a absent)

ends-none : EndsThere []
ends-none a = refl

ends-one : (c : Candidate) (more : List Candidate) → leaving c ≡ pierced c → EndsThere more → EndsThere (c ∷ more)
ends-one c more e h zero = e
ends-one c more e h (suc a) = h a

ends-both : (l m : List Candidate) → EndsThere l → EndsThere m → EndsThere (l ++ m)
ends-both [] m h g = g
ends-both (c ∷ l) m h g = ends-one c (l ++ m) (h 0) (ends-both l m (λ a. h (suc a)) g)

-- the candidates of a contour do: each is closed, and past their end there is nothing to leave
pub ends_closed : (cs : List Candidate) {way : CutDirection}
    → ((k : ℕ) → k < length cs → Closed way (get_or cs k blank)) → EndsThere cs
ends_closed cs all a = go (lt-or a (length cs))
  where
    go : (a < length cs) ⊎ (length cs ≤ a) → leaving (get_or cs a absent) ≡ pierced (get_or cs a absent)
    go (inl h) =
        let c = all a h in
        subst (λ (q : Candidate). leaving q ≡ pierced q) (any_default cs a blank absent h)
        (λ i. record { x = c.same_x i; y = c.same_y i })
    go (inr h) = rw (get_or-eq_default cs absent {n = a} h)

pub ends-gathered : (s : List ℕ) (n : ℕ) → EndsThere (gathered s n)
unfolding gathered offers_of
ends-gathered s zero = ends-none
ends-gathered s (suc n) =
    ends-both (gathered s n) (offers_of s n) (ends-gathered s n)
    (ends_closed (offers_of s n) (each_closed (asks_grid s) (way_of s n) (outline_of s n) _))

-- ---- what holds of each contour's candidates holds of the card's

-- every candidate of a list is pierced at a point of a kind
abbrev pub AllAt : (Point → Type 0) → List Candidate → Type 0
AllAt P cs = (a : ℕ) → a < length cs → P (pierced (get_or cs a absent))

at_both : (P : Point → Type 0) (l m : List Candidate) → AllAt P l → AllAt P m → AllAt P (l ++ m)
at_both P [] m h g a o = g a o
at_both P (c ∷ l) m h g zero o = h 0 (omega arith)
at_both P (c ∷ l) m h g (suc a) o = at_both P l m (λ i k. h (suc i) (omega arith)) g a (omega arith)

-- n contours' candidates, each contour's of that kind
pub gathered-at : (P : Point → Type 0) (s : List ℕ) (n : ℕ) → ((k : ℕ) → k < n → AllAt P (offers_of s k))
    → AllAt P (gathered s n)
unfolding gathered
gathered-at P s zero h a l = absurd (omega arith)
gathered-at P s (suc n) h a l =
    at_both P (gathered s n) (offers_of s n) (gathered-at P s n (λ k g. h k (omega arith))) (h n (omega arith)) a l

-- one contour's, where a law tells it of the candidates as they are offered
pub offered-at : (P : Point → Type 0) (s : List ℕ) (k : ℕ)
    → (let cs = candidates_of (asks_grid s) (way_of s k) (outline_of s k) (per_contour_of s) in
    (a : ℕ) → a < length cs → P (point (get_or cs a blank).x (get_or cs a blank).y))
    → AllAt P (offers_of s k)
unfolding offers_of
offered-at P s k h a l =
    subst (λ (c : Candidate). P (pierced c))
    (any_default (candidates_of (asks_grid s) (way_of s k) (outline_of s k) (per_contour_of s)) a blank absent l) (h a l)

-- ---- and what holds of a contour's vertices on the card holds of the outline that is read

vertex-at : (s : List ℕ) (k m j : ℕ) → j < m → get_or (vertices_of s k m) j nowhere ≡ point_at s (vertex_offset k j)
unfolding vertices_of
vertex-at s k zero j h = absurd (omega arith)
vertex-at s k (suc m) j h = go (same_or j m) (vertex-at s k m j)
  where
    go : (j ≡ m) ⊎ (j ≡ m → ⊥) → (j < m → get_or (vertices_of s k m) j nowhere ≡ point_at s (vertex_offset k j))
        → get_or (vertices_of s k m ++ (point_at s (vertex_offset k m) ∷ [])) j nowhere ≡ point_at s (vertex_offset k j)
    go (inl e) earlier =
        get_or_at (vertices_of s k m) (point_at s (vertex_offset k m)) [] nowhere j (vertices-length s k m ∙ sym e)
        ∙ ap (λ (i : ℕ). point_at s (vertex_offset k i)) (sym e)
    go (inr d) earlier =
        get_or-append (vertices_of s k m) (point_at s (vertex_offset k m) ∷ []) nowhere j
        (let l = vertices-length s k m in omega arith) ∙ earlier (omega arith)

module _ (s : List ℕ) (k : ℕ) where
  outline_length : length (outline_of s k) ≡ min (vertex_count_of s k) vertex_limit
  unfolding outline_of
  outline_length = vertices-length s k (min (vertex_count_of s k) vertex_limit)

  pub outline_few : length (outline_of s k) ≤ vertex_limit
  outline_few = let m = outline_length in omega arith

  pub outline_at : (P : Point → Type 0) → ((j : ℕ) → j < vertex_count_of s k → P (point_at s (vertex_offset k j)))
      → (j : ℕ) → j < length (outline_of s k) → P (get_or (outline_of s k) j nowhere)
  unfolding outline_of
  outline_at P all j l =
      let m = outline_length in
      subst P (sym (vertex-at s k (min (vertex_count_of s k) vertex_limit) j (omega arith))) (all j (omega arith))

-- ---- a candidate of a fine card lies near

module _ (s : List ℕ) (fine : check_of s ≡ Ok tt) where
  offers_near : (k : ℕ) → k < contours_of s → AllAt (Near outmost) (offers_of s k)
  offers_near k h =
      offered-at (Near outmost) s k
      (each_near (asks_grid s) (way_of s k) (outline_of s k) (per_contour_of s)
      (outline_at s k (λ (p : Point). bad_point p ≡ false) (λ j g. (accepted s fine).vertex_near k j h g))
      (outline_few s k))

  pub candidate_near : AllAt (Near outmost) (gathered s (contours_of s))
  candidate_near = gathered-at (Near outmost) s (contours_of s) offers_near
