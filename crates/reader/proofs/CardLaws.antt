-- A card's head, a contour and a pair, walked in file order, are what `fields` reads of them. Assumes nothing.
use mathlib.Core.Path.{◌≡◌, refl, ap, ◌∙◌}
use mathlib.Core.Bool.{false}
use mathlib.Core.List.{List}
use Prim.Native.Nat.{ℕ, zero, suc, ◌+◌, ◌*◌, min}
use native.Mathlib.Omega.{arith}
use lib.ListN.{length}
use Rattle.block.specs.Field.{u64_at}
use Rattle.fields.specs.Limits.{vertex_limit}
use Rattle.fields.specs.Layout.{is_two, vertex_count_of, vertex_offset}
use Rattle.reader.specs.declared.Width.TheVariants.{Eight}
use Rattle.reader.specs.declared.ContourHead.{ContourHead}
use Rattle.reader.specs.declared.Group.{Group}
use Rattle.reader.specs.declared.Contour.{Contour}
use Rattle.reader.specs.Walk.{walk, eights}
use Rattle.reader.specs.OnCard.{contour_head, coordinates_from, filled, group_of, contour_read}
use Rattle.reader.proofs.WalkLaws.{cut_value}

-- ---- a contour

-- the vertices from vertex j on
pub vertices-walked : (s : List ℕ) (k j v place : ℕ) → place ≡ min (vertex_offset k j) (length s)
    → walk s place (eights (2 * v)) ≡ coordinates_from s k j v
unfolding walk coordinates_from
vertices-walked s k j zero place cut = refl
vertices-walked s k j (suc v) place cut =
    let mid = min (place + 8) (length s) in
    let two : 2 * suc v ≡ suc (suc (2 * v)) = omega arith in
    let cut' : mid ≡ min (vertex_offset k j + 8) (length s) = omega arith in
    let x : u64_at s place ≡ u64_at s (vertex_offset k j) = ap (u64_at s) cut ∙ cut_value s (vertex_offset k j) Eight in
    let y : u64_at s mid ≡ u64_at s (vertex_offset k j + 8) =
    ap (u64_at s) cut' ∙ cut_value s (vertex_offset k j + 8) Eight in
    let on = vertices-walked s k (suc j) v (min (mid + 8) (length s)) (omega arith) in
    rw (two, x, y, on)

-- in version 1: neither
pub no_group : (s : List ℕ) (k : ℕ) → is_two s ≡ false
    → ◌≡◌ {A = Group} (record { part = 0; copy = 0 }) (group_of s k)
unfolding group_of
no_group s k has = rw has

-- a contour: its fields before the vertices, the vertices, then its part and its copy
module _ (s : List ℕ) (k count : ℕ) (head : ContourHead) (coordinates : List ℕ) (group : Group) where
  pub contour_is : head ≡ contour_head s k → count ≡ 2 * min head.vertices vertex_limit
      → coordinates ≡ filled (walk s head.after (eights count)) → group ≡ group_of s k
      → ◌≡◌ {A = Contour} (record {
        id = head.id;
        tag = head.tag;
        vertices = head.vertices;
        kind = head.kind;
        filler = head.filler;
        coordinates = coordinates;
        part = group.part;
        copy = group.copy;
      }) (contour_read s k)
  unfolding contour_read contour_head group_of
  contour_is e n f g =
      let v = min (vertex_count_of s k) vertex_limit in
      let all : coordinates ≡ filled (coordinates_from s k 0 v) =
      f ∙ rw (n, e) (ap filled (vertices-walked s k 0 v (min (vertex_offset k 0) (length s)) refl)) in
      rw (e, all, g)
