-- How many bytes of a block are fields, by the kind of block, and where its spare bytes end; and spare bytes where
-- there are none. Assumes nothing.
use mathlib.Core.Path.{◌≡◌}
use mathlib.Core.Bool.{Bool, true, false, not, cond, ◌&&◌}
use mathlib.Core.List.{List}
use Prim.Native.Nat.{ℕ, ◌+◌, ◌*◌, ◌-◌, ◌≤◌, ◌<◌}
use native.Mathlib.Omega.{arith}
use lib.Dec.{eqb}
use borrow.Author.Tests.{le-leb, lt-leb, eq-eqb, ne_eqb}
use Rattle.block.specs.Block.{payload_bytes, all_zero, zeros_at}
use Rattle.fields.specs.Layout.{payload, is_two, contours_of, vertex_count_of, contour_size, vertex_size, pair_size}
use Rattle.fields.specs.Layout.{part_offset}
use Rattle.card.specs.Stages.{kind_due, pairs_in, head_used, used_in, spare_end, bad_spare}

-- spare bytes end with the payload at the latest
pub end_within_lem : (s : List ℕ) (b : ℕ) → spare_end s b ≤ payload_bytes
end_within_lem s b = go (eqb (kind_due s b) 2 && is_two s)
  where
    go : (t : Bool) → cond t part_offset payload_bytes ≤ payload_bytes
    go true = omega arith
    go false = omega arith

module _ (s : List ℕ) (b : ℕ) (head : b ≡ 0) where
  pub used_head : head_used s ≡ used_in s b
  used_head = rw (eq-eqb b 0 head)

  pub end_head : payload_bytes ≡ spare_end s b
  end_head = rw (eq-eqb b 0 head)

module _ (s : List ℕ) (b : ℕ) (later : b ≡ 0 → ⊥) where
  pub used_contour : (v : ℕ) → b ≤ contours_of s → v ≡ vertex_count_of s (b - 1)
      → contour_size + vertex_size * v ≡ used_in s b
  used_contour v h e = rw (ne_eqb b 0 later, le-leb b (contours_of s) h, e)

  pub end_contour : b ≤ contours_of s → cond (is_two s) part_offset payload_bytes ≡ spare_end s b
  end_contour h = rw (ne_eqb b 0 later, le-leb b (contours_of s) h)

  pub used-pairs : (r : ℕ) → contours_of s < b → r ≡ pair_size * pairs_in s b → r ≡ used_in s b
  used-pairs r h e = rw (ne_eqb b 0 later, lt-leb b (contours_of s) h) e

  pub end_pairs : contours_of s < b → payload_bytes ≡ spare_end s b
  end_pairs h = rw (ne_eqb b 0 later, lt-leb b (contours_of s) h)

module _ (s : List ℕ) (b u end : ℕ) (used : u ≡ used_in s b) (ends : end ≡ spare_end s b) where
  -- a payload that is all fields has no spare byte
  pub none_spare : end ≤ u → false ≡ bad_spare s b
  unfolding zeros_at all_zero
  none_spare h =
      let z : end - u ≡ 0 = omega arith in
      rw (← used, ← ends, z)

  pub some_spare : (r : Bool) → r ≡ zeros_at s (payload b + u) (end - u) → not r ≡ bad_spare s b
  some_spare r f = rw (f, used, ends)
