-- On a card that is fine nothing is cut off: all contours are gathered, each with all its vertices and at least one
-- candidate. Assumes nothing.
use Rattle.std.specs.Prelude.{Ok}
use mathlib.Core.Path.{◌≡◌, refl, sym, ap, ◌∙◌}
use mathlib.Core.List.{List}
use Prim.Native.Nat.{ℕ, ◌≤◌, ◌<◌, ◌+◌, min}
use native.Mathlib.Omega.{arith}
use lib.ListN.{length, take}
use Rattle.candidates.specs.Generate.{blank}
use Rattle.candidates.proofs.CountLaws.{count_some}
use Rattle.closure.specs.Limits.{contour_limit}
use Rattle.fields.specs.Limits.{candidate_limit, vertex_limit}
use Rattle.fields.specs.Layout.{contours_of, per_contour_of, asks_grid, vertex_count_of}
use Rattle.card.specs.Verdict.{check_of}
use Rattle.card_laws.proofs.Facts.{accepted}
use Rattle.instance.specs.Gather.{vertices_of, outline_of, way_of, offers_of, gathered, owners, firsts, held_of}
use Rattle.instance.specs.Room.{held_at, instance_of}
use Rattle.answer.proofs.RoomLaws.{padded_front}
use Rattle.instance.proofs.GatherLaws.{all_held, gathered_within, owners-length, firsts-length, vertices-length}

module _ (s : List ℕ) (fine : check_of s ≡ Ok tt) where
  pub held_all : held_of s ≡ contours_of s
  held_all =
      let a = accepted s fine in
      sym (all_held s (contours_of s) (per_contour_of s) refl refl a.few_contours a.some_candidates
      a.few_candidates a.few_in_all)

  pub instance_is : instance_of s ≡ held_at s (contours_of s)
  unfolding instance_of
  instance_is = ap (held_at s) held_all

  -- as many as the table has room for
  pub few_candidates : length (gathered s (contours_of s)) ≤ candidate_limit
  few_candidates =
      let a = accepted s fine in
      let g = gathered_within s (contours_of s) a.some_candidates in
      let f = a.few_in_all in
      omega arith

  pub outline_whole : (k : ℕ) → k < contours_of s → outline_of s k ≡ vertices_of s k (vertex_count_of s k)
  unfolding outline_of
  outline_whole k h =
      let f = (accepted s fine).few_vertices k h in
      let e : min (vertex_count_of s k) vertex_limit ≡ vertex_count_of s k = omega arith in
      ap (vertices_of s k) e

  pub some_offers : (k : ℕ) → k < contours_of s → 0 < length (offers_of s k)
  unfolding offers_of
  some_offers k h =
      let a = accepted s fine in
      let v = a.some_vertices k h in
      let e = ap length (outline_whole k h) ∙ vertices-length s k (vertex_count_of s k) in
      count_some (asks_grid s) (way_of s k) (outline_of s k) (per_contour_of s) (omega arith) a.some_candidates

  -- ---- the parts that are lent

  pub count_is : (instance_of s).count ≡ length (gathered s (contours_of s))
  unfolding held_at
  count_is = rw instance_is

  pub contours_is : (instance_of s).contours ≡ contours_of s
  unfolding held_at
  contours_is = rw instance_is

  pub items_lent : take (instance_of s).count (instance_of s).items ≡ gathered s (contours_of s)
  unfolding held_at
  items_lent =
      rw instance_is (padded_front candidate_limit blank (gathered s (contours_of s))
      (length (gathered s (contours_of s))) refl)

  pub owner_lent : take (instance_of s).count (instance_of s).owner ≡ owners s (contours_of s)
  unfolding held_at
  owner_lent =
      rw instance_is (padded_front candidate_limit 0 (owners s (contours_of s)) (length (gathered s (contours_of s)))
      (owners-length s (contours_of s)))

  pub first_lent : take ((instance_of s).contours + 1) (instance_of s).first ≡ firsts s (contours_of s)
  unfolding held_at
  first_lent =
      rw instance_is (padded_front (contour_limit + 1) 0 (firsts s (contours_of s)) (contours_of s + 1)
      (firsts-length s (contours_of s)))
