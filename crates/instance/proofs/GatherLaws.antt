-- What is gathered: how much of it there is, and how it grows by a contour. Assumes nothing.
use mathlib.Core.Path.{◌≡◌, refl, sym, ap, ◌∙◌}
use mathlib.Core.Bool.{Bool, true, false, cond, ◌&&◌}
use mathlib.Core.List.{List, [], ◌∷◌, ◌++◌}
use Prim.Native.Nat.{ℕ, zero, suc, ◌+◌, ◌*◌, ◌-◌, ◌<◌, ◌≤◌, min}
use native.Mathlib.Nat.{suc-mul, mul-le-mul_right}
use native.Mathlib.Numerals.{add-one}
use native.Mathlib.Omega.{arith}
use lib.Dec.{ltb, leb}
use lib.ListN.{length, take, drop, replicate, set, length-append, length-take, length-drop, length-replicate}
use lib.Ieee.{Float}
use borrow.Rule.Slice.PartMut.{put_mid}
use lib.Seq.{paste, take_all, take-take, take-append_seam}
use Rattle.std.proofs.lemmas.Slice.{put_mid-paste}
use borrow.Author.Tests.{lt-ltb, le-leb, ltb-true, leb-true}
use Rattle.candidates.specs.declared.Candidate.{Candidate}
use Rattle.candidates.specs.Generate.{blank, candidates_of, Candidates, filled}
use Rattle.candidates.proofs.CountLaws.{count_within, filled-length}
use Rattle.instance.specs.declared.Instance.{Instance}
use Rattle.closure.specs.Limits.{contour_limit}
use Rattle.fields.specs.Limits.{per_contour_limit, candidate_limit, vertex_limit}
use Rattle.fields.specs.Layout.{contours_of, per_contour_of, exterior_of, interior_of, asks_grid, vertex_count_of, type_of}
use Rattle.fields.specs.Layout.{vertex_offset}
use Rattle.answer.specs.declared.Point.{Point}
use Rattle.fields.specs.Values.{as_type, as_preference, point_at}
use Rattle.answer.specs.declared.ContourType.{ContourType}
use Rattle.answer.specs.declared.CutDirectionPreference.{CutDirectionPreference}
use Rattle.candidates.specs.Direction.{direction_of}
use Rattle.points.specs.Points.{points}
use Rattle.points.specs.Numbers.{zero64}
use Rattle.instance.specs.Gather.{vertices_of, outline_of, way_of, offers_of, gathered, owners, firsts, room_for}
use Rattle.instance.specs.Gather.{held_of}
use Rattle.answer.specs.Room.{padded}
use Rattle.answer.proofs.RoomLaws.{padded-length, padded_front, padded-paste, padded-one, padded-two}
use Rattle.instance.specs.Room.{flat, Outline, outlined, held_at, joined, Roomy, instance_of}
use Rattle.instance.proofs.RoomLaws.{points-flat, flat-length, flat_more}

-- ---- how many contours

module _ (s : List ℕ) (n c : ℕ) (e : n ≡ contours_of s) (f : c ≡ per_contour_of s) where
  pub all_held : n ≤ contour_limit → 1 ≤ c → c ≤ per_contour_limit → n * c ≤ candidate_limit → n ≡ held_of s
  all_held h g k l =
      rw (← e, ← f, le-leb n contour_limit h, lt-ltb 0 c g, le-leb c per_contour_limit k, le-leb (n * c) candidate_limit l)

-- what is known where contour k is among those held
pub record Among (n c k : ℕ) : Type 0 where
  pub below : k < n
  pub contours : n ≤ contour_limit
  pub wanted : 1 ≤ c
  pub fit : n * c ≤ candidate_limit

pub among : (n c k : ℕ) → k < cond (room_for n c) n 0 → Among n c k
among n c k = go (leb n contour_limit) (ltb 0 c) (leb c per_contour_limit) (leb (n * c) candidate_limit) refl refl refl
  where
    go : (p q r t : Bool) → leb n contour_limit ≡ p → ltb 0 c ≡ q → leb (n * c) candidate_limit ≡ t
        → k < cond (p && (q && (r && t))) n 0 → Among n c k
    go false q r t e f g h = absurd (omega arith)
    go true false r t e f g h = absurd (omega arith)
    go true true false t e f g h = absurd (omega arith)
    go true true true false e f g h = absurd (omega arith)
    go true true true true e f g h =
        record {
          below = h;
          contours = leb-true n contour_limit e;
          wanted = ltb-true 0 c f;
          fit = leb-true (n * c) candidate_limit g;
        }

-- ---- how many candidates

module _ (s : List ℕ) where
  pub offers_within : (k : ℕ) → 0 < per_contour_of s → length (offers_of s k) ≤ per_contour_of s
  unfolding offers_of
  offers_within k h = let e = count_within (asks_grid s) (way_of s k) (outline_of s k) (per_contour_of s) h in omega arith

  pub offers_few : (k : ℕ) → 0 < per_contour_of s → length (offers_of s k) ≤ per_contour_limit
  unfolding offers_of
  offers_few k h = let e = count_within (asks_grid s) (way_of s k) (outline_of s k) (per_contour_of s) h in omega arith

  pub gathered_within : (k : ℕ) → 0 < per_contour_of s → length (gathered s k) ≤ k * per_contour_of s
  unfolding gathered
  gathered_within zero h = omega arith
  gathered_within (suc k) h =
      let a = gathered_within k h in
      let b = offers_within k h in
      let e = suc-mul k (per_contour_of s) in
      let f = length-append (gathered s k) (offers_of s k) in
      omega arith

  pub owners-length : (k : ℕ) → length (owners s k) ≡ length (gathered s k)
  unfolding gathered owners
  owners-length zero = refl
  owners-length (suc k) =
      let a = owners-length k in
      simp (length-append, length-replicate) (omega arith)

  pub firsts-length : (k : ℕ) → length (firsts s k) ≡ k + 1
  unfolding firsts
  firsts-length zero = refl
  firsts-length (suc k) =
      let a = firsts-length k in
      simp length-append (omega arith)

  -- there is room for every contour that is gathered
  pub room_for_lem : (k : ℕ) → k < held_of s
      → (k < contour_limit) × (length (gathered s k) + length (offers_of s k) ≤ candidate_limit)
  unfolding gathered
  room_for_lem k h =
      let a = among (contours_of s) (per_contour_of s) k h in
      let b = gathered_within (suc k) a.wanted in
      let m : suc k * per_contour_of s ≤ contours_of s * per_contour_of s = mul-le-mul_right (per_contour_of s) a.below in
      let f = length-append (gathered s k) (offers_of s k) in
      (omega arith, omega arith)

-- ---- a contour's vertices as numbers

module _ (s : List ℕ) (k : ℕ) where
  -- the numbers of the first j vertices, in their room
  abbrev pub numbers_at : ℕ → List Float
  numbers_at j = padded (2 * vertex_limit) zero64 (flat (vertices_of s k j))

  pub vertices-length : (j : ℕ) → length (vertices_of s k j) ≡ j
  unfolding vertices_of
  vertices-length zero = refl
  vertices-length (suc j) =
      let a = vertices-length j in
      simp length-append (omega arith)

  flat-vertices : (j : ℕ) → length (flat (vertices_of s k j)) ≡ 2 * j
  flat-vertices j = flat-length (vertices_of s k j) ∙ ap (λ (i : ℕ). 2 * i) (vertices-length j)

  -- there is room for all of them
  pub outline_few : (o : Outline) → o ≡ outlined (outline_of s k) → o.count ≤ 2 * vertex_limit
  unfolding outlined outline_of
  outline_few o is = rw (is, flat-vertices (min (vertex_count_of s k) vertex_limit)) (omega arith)

  pub numbers_none : replicate (2 * vertex_limit) zero64 ≡ numbers_at 0
  unfolding vertices_of flat
  numbers_none = refl

  pub numbers_more : (j : ℕ) (p : Point) (l : List Float) → j < vertex_limit → p ≡ point_at s (vertex_offset k j)
      → l ≡ numbers_at j
      → set (set l (2 * j) p.x) (2 * j + 1) p.y ≡ numbers_at (j + 1)
  unfolding vertices_of
  numbers_more j p l h e f =
      rw (f, add-one j, ← e, flat_more)
      (padded-two (2 * vertex_limit) zero64 (flat (vertices_of s k j)) p.x p.y (2 * j) (flat-vertices j)
      (omega arith))

  pub numbers_all : (j : ℕ) (l : List Float) → l ≡ numbers_at j → j ≡ min (vertex_count_of s k) vertex_limit
      → record { items = l; count = 2 * j } ≡ outlined (outline_of s k)
  unfolding outlined outline_of
  numbers_all j l e f = rw (e, ← flat-vertices j, f)

-- ---- one contour more

next : (s : List ℕ) (k : ℕ) → k < contour_limit → length (gathered s k) + length (offers_of s k) ≤ candidate_limit
    → joined (held_at s k) (filled (offers_of s k)) k ≡ held_at s (suc k)
unfolding joined held_at filled gathered owners firsts
next s k h g =
    let l = offers_of s k in
    let n = length l in
    let rest = replicate (per_contour_limit - n) blank in
    let seam : take n (l ++ rest) ≡ l = take-append_seam l rest in
    let items : paste (padded candidate_limit blank (gathered s k)) (length (gathered s k)) (l ++ rest) n
    ≡ padded candidate_limit blank (gathered s k ++ l) =
    padded-paste candidate_limit blank (gathered s k) (l ++ rest) (length (gathered s k)) n refl
    (rw length-append (omega arith)) g
    ∙ rw seam in
    let owner : paste (padded candidate_limit 0 (owners s k)) (length (gathered s k)) (replicate n k) n
    ≡ padded candidate_limit 0 (owners s k ++ replicate n k) =
    padded-paste candidate_limit 0 (owners s k) (replicate n k) (length (gathered s k)) n (owners-length s k)
    (rw length-replicate (omega arith)) g
    ∙ rw (take_all n (replicate n k) (rw length-replicate (omega arith))) in
    let first : set (padded (contour_limit + 1) 0 (firsts s k)) (k + 1) (length (gathered s k ++ l))
    ≡ padded (contour_limit + 1) 0 (firsts s k ++ (length (gathered s k ++ l) ∷ [])) =
    padded-one (contour_limit + 1) 0 (firsts s k) (length (gathered s k ++ l)) (k + 1) (firsts-length s k)
    (omega arith) in
    let contours : k + 1 ≡ suc k = add-one k in
    rw (items, owner, ← length-append (gathered s k) l, first) (ap (λ (i : ℕ). record {
      items = padded candidate_limit blank (gathered s (suc k));
      owner = padded candidate_limit 0 (owners s (suc k));
      first = padded (contour_limit + 1) 0 (firsts s (suc k));
      contours = i;
      count = length (gathered s (suc k));
    }) contours)

pub one_more : (s : List ℕ) (k : ℕ) → k < held_of s → joined (held_at s k) (filled (offers_of s k)) k ≡ held_at s (k + 1)
one_more s k h = let r = room_for_lem s k h in next s k r.0 r.1 ∙ ap (held_at s) (sym (add-one k))

-- none is gathered at first
pub none_yet : (s : List ℕ) → held_at [] 0 ≡ held_at s 0
unfolding held_at gathered owners firsts
none_yet s = refl

-- one more, as the code takes it
pub joined_more : (s : List ℕ) (k : ℕ) (held r : Instance) (found : Candidates) → k < held_of s → held ≡ held_at s k
    → found ≡ filled (offers_of s k) → r ≡ joined held found k → r ≡ held_at s (k + 1)
joined_more s k held r found h e f g = g ∙ rw (e, f) (one_more s k h)

-- and all of them
pub all_joined : (s : List ℕ) (k : ℕ) (held : Instance) → k ≡ held_of s → held ≡ held_at s k → held ≡ instance_of s
unfolding instance_of
all_joined s k held e f = f ∙ ap (held_at s) e

-- there is room for it
pub roomy : (s : List ℕ) (k : ℕ) (held : Instance) (found : Candidates) → k < held_of s → held ≡ held_at s k
    → found ≡ filled (offers_of s k) → Roomy held found k
unfolding held_at filled
roomy s k held found h e f =
    let l = offers_of s k in
    let r = room_for_lem s k h in
    let a = among (contours_of s) (per_contour_of s) k h in
    let w = offers_few s k a.wanted in
    rw (e, f) (record {
      below = r.0;
      few = w;
      whole = filled-length l w;
      room = r.1;
      items_whole = padded-length candidate_limit blank (gathered s k) (omega arith);
      owner_whole = padded-length candidate_limit 0 (owners s k) (rw (owners-length s k) (omega arith));
    })

-- ---- a contour's numbers, lent

module _ (ps : List Point) (o : Outline) (is : o ≡ outlined ps) where
  pub outline_lent : take o.count o.items ≡ flat ps
  unfolding outlined
  outline_lent = rw is (padded_front (2 * vertex_limit) zero64 (flat ps) (length (flat ps)) refl)

pub offers_are : (s : List ℕ) (k : ℕ) (o : Outline) (kind : ContourType) (exterior interior : CutDirectionPreference)
    (c : ℕ) (grid : Bool) (r : Candidates)
    → o ≡ outlined (outline_of s k) → kind ≡ as_type (type_of s k) → exterior ≡ as_preference (exterior_of s)
    → interior ≡ as_preference (interior_of s) → c ≡ per_contour_of s → grid ≡ asks_grid s
    → r ≡ filled (candidates_of grid (direction_of kind exterior interior) (points (take o.count o.items)) c)
    → r ≡ filled (offers_of s k)
unfolding offers_of
offers_are s k o kind exterior interior c grid r is e f g h i t =
    let ps : points (take o.count o.items) ≡ outline_of s k =
    ap points (outline_lent (outline_of s k) o is) ∙ points-flat (outline_of s k) in
    t ∙ rw (ps, e, f, g, h, i)

-- ---- one contour's candidates, copied

module _ (held : Instance) (found : Candidates) (k : ℕ) (r : Roomy held found k) where
  pub items_copied : (l : List Candidate) → l ≡ take found.count found.items
      → put_mid held.count (held.count + found.count - held.count) held.items l
      ≡ paste held.items held.count found.items found.count
  items_copied l e =
      put_mid-paste held.count _ held.items l (take found.count found.items) found.count e (omega arith)
      (omega (arith, r.few, r.whole, length-take found.count found.items))
      ∙ rw (take-take found.count found.count found.items (omega arith))

  pub owner_filled : (l : List ℕ)
      → l ≡ replicate (length (take (held.count + found.count - held.count) (drop held.count held.owner))) k
      → put_mid held.count (held.count + found.count - held.count) held.owner l
      ≡ paste held.owner held.count (replicate found.count k) found.count
  owner_filled l e =
      let many = length-take (held.count + found.count - held.count) (drop held.count held.owner) in
      let n : length (take (held.count + found.count - held.count) (drop held.count held.owner)) ≡ found.count =
      omega (arith, many, length-drop held.count held.owner, r.room, r.owner_whole) in
      put_mid-paste held.count _ held.owner l (replicate found.count k) found.count (rw n at e) (omega arith)
      (sym (length-replicate found.count k))

  pub all_copied : (items : List Candidate) (owner : List ℕ)
      → items ≡ paste held.items held.count found.items found.count
      → owner ≡ paste held.owner held.count (replicate found.count k) found.count
      → record {
        items = items;
        owner = owner;
        first = set held.first (k + 1) (held.count + found.count);
        contours = k + 1;
        count = held.count + found.count;
      } ≡ joined held found k
  unfolding joined
  all_copied items owner f g = rw (f, g)
