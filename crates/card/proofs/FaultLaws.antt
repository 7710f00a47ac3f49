-- The faults of length, count and head, from the tests that the code makes. Assumes nothing.
use Rattle.std.specs.Prelude.{None, Some}
use mathlib.Core.Path.{◌≡◌}
use mathlib.Core.Bool.{not, or-true}
use mathlib.Core.List.{List}
use Prim.Native.Nat.{ℕ, ◌+◌, ◌%◌, ◌≤◌, ◌<◌, min}
use native.Mathlib.Omega.{arith}
use lib.Dec.{eqb}
use lib.ListN.{length}
use borrow.Author.Tests.{lt-ltb, le-leb, lt-leb, eq-eqb, ne_eqb}
use Rattle.block.specs.Block.{block_bytes}
use Rattle.fields.specs.Layout.{blocks_of, contours_of}
use Rattle.card.specs.Stages.{length_fault_within, kind_due, blocks_due, count_fault}

-- a file longer than the most bytes is told as one byte longer than that
pub too_long : (most : ℕ) (s : List ℕ) → most < length s → Some (most + 1) ≡ length_fault_within most s
unfolding length_fault_within
too_long most s h =
    let a = eqb (length s) 0 in
    let b = not (eqb (length s % block_bytes) 0) in
    let e : min (length s) (most + 1) ≡ most + 1 = omega arith in
    rw (lt-ltb most (length s) h, or-true b, or-true a, e)

pub other_count : (s : List ℕ) → (blocks_of s ≡ blocks_due s → ⊥) → Some (blocks_of s) ≡ count_fault s
unfolding count_fault
other_count s f = rw (ne_eqb (blocks_of s) (blocks_due s) f)

pub same_count : (s : List ℕ) → blocks_of s ≡ blocks_due s → None ≡ count_fault s
unfolding count_fault
same_count s e = rw (eq-eqb (blocks_of s) (blocks_due s) e)

pub kind_head : (s : List ℕ) (b : ℕ) → b ≡ 0 → 1 ≡ kind_due s b
kind_head s b e = rw (eq-eqb b 0 e)

module _ (s : List ℕ) (b : ℕ) (later : b ≡ 0 → ⊥) where
  pub kind_contour : b ≤ contours_of s → 2 ≡ kind_due s b
  kind_contour h = rw (ne_eqb b 0 later, le-leb b (contours_of s) h)

  pub kind_pairs : contours_of s < b → 3 ≡ kind_due s b
  kind_pairs h = rw (ne_eqb b 0 later, lt-leb b (contours_of s) h)
