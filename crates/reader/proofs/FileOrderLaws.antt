-- A whole card: what the reader answers is one walk over it, which never goes back. Assumes nothing.
use mathlib.Core.Path.{◌≡◌, refl, sym, ap, ◌∙◌}
use mathlib.Core.Bool.{Bool, true, false}
use mathlib.Core.List.{List, [], ◌∷◌, ◌++◌, append_assoc, append-nil}
use Prim.Native.Nat.{ℕ, zero, suc, ◌+◌, ◌*◌, ◌-◌, ◌≤◌, min}
use native.Mathlib.Omega.{arith}
use lib.ListN.{length, take, replicate}
use lib.Seq.{take-append_seam}
use Rattle.fields.specs.Limits.{vertex_limit}
use Rattle.fields.specs.Layout.{payload, is_two, contours_of, pairs_of, vertex_count_of, part_offset, pair_offset}
use Rattle.reader.specs.Walk.{walk, eights}
use Rattle.reader.specs.OnCard.{contour_read, coordinates_from, filled, contour_widths}
use Rattle.reader.specs.FileOrder.{Stretch, head_stretch, group_stretches, contour_stretches, pair_stretches}
use Rattle.reader.specs.FileOrder.{card_stretches, walk_all, bytes_in, Forward, head_read, group_list, contour_list}
use Rattle.reader.specs.FileOrder.{contours_read, pairs_read, card_read}
use Rattle.reader.specs.Claims.{CardInOrder, CardForward}
use Rattle.reader.proofs.ClaimsHold.{head_in_order, grid_in_order, contour_in_order, group_in_order}
use Rattle.reader.proofs.ClaimsHold.{pair_in_order}

-- ---- what is answered

walk_all_append : (s : List ℕ) (a b : List Stretch) → walk_all s (a ++ b) ≡ walk_all s a ++ walk_all s b
unfolding walk_all
walk_all_append s [] b = refl
walk_all_append s (t ∷ a) b =
    ap (◌++◌ (walk s t.begins t.widths)) (walk_all_append s a b)
    ∙ sym (append_assoc (walk s t.begins t.widths) (walk_all s a) (walk_all s b))

coordinates-length : (s : List ℕ) (k j v : ℕ) → length (coordinates_from s k j v) ≡ 2 * v
unfolding coordinates_from
coordinates-length s k j zero = refl
coordinates-length s k j (suc v) = omega (arith, coordinates-length s k (suc j) v)

-- of the places that a contour's coordinates fill, so many as it has
coordinates-taken : (s : List ℕ) (k v : ℕ) → take (2 * v) (filled (coordinates_from s k 0 v)) ≡ coordinates_from s k 0 v
unfolding filled
coordinates-taken s k v =
    let l = coordinates_from s k 0 v in
    rw (← coordinates-length s k 0 v) (take-append_seam l (replicate (2 * vertex_limit - length l) 0))

-- the head of a card that has the byte that asks for the grid, and of one that has not
head_answered : (s : List ℕ) (two : Bool) → is_two s ≡ two
    → walk s (payload 0) (head_stretch two).widths ≡ head_read two s
head_answered s true has = grid_in_order s has
head_answered s false has = head_in_order s ∙ sym (append-nil _)

-- the part and the copy of a card that has them, and of one that has not
group_answered : (s : List ℕ) (k : ℕ) (parts : Bool) → is_two s ≡ parts
    → walk_all s (group_stretches parts k) ≡ group_list parts (contour_read s k)
unfolding walk_all group_stretches contour_read
group_answered s k true has = append-nil _ ∙ group_in_order s k has
group_answered s k false has = refl

contour_answered : (s : List ℕ) (k : ℕ)
    → walk s (payload (k + 1)) (contour_widths (min (vertex_count_of s k) vertex_limit))
    ++ walk_all s (group_stretches (is_two s) k) ≡ contour_list (is_two s) (contour_read s k)
unfolding contour_read
contour_answered s k =
    let v = min (vertex_count_of s k) vertex_limit in
    rw (contour_in_order s k v, group_answered s k (is_two s) refl, coordinates-taken s k v)

contours-walked : (s : List ℕ) (k n : ℕ) → walk_all s (contour_stretches s k n) ≡ contours_read s k n
unfolding walk_all contour_stretches contours_read
contours-walked s k zero = refl
contours-walked s k (suc n) =
    let contour = walk s (payload (k + 1)) (contour_widths (min (vertex_count_of s k) vertex_limit)) in
    let group = group_stretches (is_two s) k in
    let rest = contours_read s (suc k) n in
    rw (walk_all_append s group (contour_stretches s (suc k) n), contours-walked s (suc k) n)
    (sym (append_assoc contour (walk_all s group) rest) ∙ ap (λ (l : List ℕ). l ++ rest) (contour_answered s k))

pairs-walked : (s : List ℕ) (q m : ℕ) → walk_all s (pair_stretches s q m) ≡ pairs_read s q m
unfolding walk_all pair_stretches pairs_read
pairs-walked s q zero = refl
pairs-walked s q (suc m) = rw (pair_in_order s q, pairs-walked s (suc q) m)

pub card_in_order : CardInOrder
unfolding walk_all card_stretches card_read
card_in_order s =
    let a = contour_stretches s 0 (contours_of s) in
    let b = pair_stretches s 0 (pairs_of s) in
    rw (
      head_answered s (is_two s) refl,
      walk_all_append s a b,
      contours-walked s 0 (contours_of s),
      pairs-walked s 0 (pairs_of s),
    )

-- ---- never back

eights-bytes : (n : ℕ) → bytes_in (eights n) ≡ 8 * n
unfolding bytes_in
eights-bytes zero = refl
eights-bytes (suc n) = omega (arith, eights-bytes n)

-- a contour's vertices end before its part
contour_ends : (k v : ℕ) → v ≤ vertex_limit
    → payload (k + 1) + bytes_in (contour_widths v) ≤ payload (k + 1) + part_offset
unfolding bytes_in
contour_ends k v h = omega (arith, eights-bytes (2 * v))

-- and its copy before the next block's payload
forward_group : (parts : Bool) (k end : ℕ) (rest : List Stretch) → end ≤ payload (k + 1) + part_offset
    → ((at : ℕ) → at ≤ payload (suc k + 1) → Forward at rest) → Forward end (group_stretches parts k ++ rest)
unfolding group_stretches Forward
forward_group true k end rest h on = (h, on (payload (k + 1) + part_offset + 8) (omega arith))
forward_group false k end rest h on = on end (omega arith)

forward_contours : (s : List ℕ) (k n end : ℕ) (rest : List Stretch) → end ≤ payload (k + 1)
    → ((at : ℕ) → at ≤ payload (k + n + 1) → Forward at rest) → Forward end (contour_stretches s k n ++ rest)
unfolding contour_stretches Forward
forward_contours s k zero end rest h on = on end (omega arith)
forward_contours s k (suc n) end rest h on =
    let v = min (vertex_count_of s k) vertex_limit in
    let group = group_stretches (is_two s) k in
    let others = contour_stretches s (suc k) n in (
      h,
      rw (append_assoc group others rest)
          (forward_group (is_two s) k (payload (k + 1) + bytes_in (contour_widths v)) (others ++ rest)
          (contour_ends k v (omega arith))
          (λ at l. forward_contours s (suc k) n at rest l (λ at' l'. on at' (omega arith)))),
    )

-- a pair ends where the next begins, or before
pair_ends : (s : List ℕ) (q : ℕ) → pair_offset s q + 16 ≤ pair_offset s (suc q)
pair_ends s q = omega arith

forward_pairs : (s : List ℕ) (q m end : ℕ) → end ≤ pair_offset s q → Forward end (pair_stretches s q m)
unfolding pair_stretches Forward
forward_pairs s q zero end h = tt
forward_pairs s q (suc m) end h = (h, forward_pairs s (suc q) m (pair_offset s q + 16) (pair_ends s q))

-- the head's fields end before the first contour's payload, also with the byte that asks for the grid
head_ends : (two : Bool) → payload 0 + bytes_in (head_stretch two).widths ≤ payload 1
unfolding bytes_in
head_ends true = omega arith
head_ends false = omega arith

pub card_forward : CardForward
unfolding card_stretches Forward
card_forward s = (
  omega arith,
  forward_contours s 0 (contours_of s) _ (pair_stretches s 0 (pairs_of s)) (head_ends (is_two s))
      (λ at h. forward_pairs s 0 (pairs_of s) at (omega arith)),
)
