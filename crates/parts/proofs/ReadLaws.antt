-- What twins read alike: every byte that is not one of their own, so every field but version, part and copy; and no
-- grid is asked for by either. Assumes nothing.
use mathlib.Core.Path.{◌≡◌, sym, ◌∙◌, subst}
use mathlib.Core.Bool.{cond, ◌||◌}
use mathlib.Core.List.{List}
use Prim.Native.Nat.{ℕ, ◌+◌, ◌*◌, ◌/◌, ◌%◌, ◌≤◌, ◌<◌}
use native.Mathlib.Nat.{add-zero, add_assoc, mod-lt}
use native.Mathlib.Omega.{arith}
use lib.Dec.{eqb, lit<, lit≤}
use lib.Ieee.{binary64, of_bits}
use lib.ListN.{length}
use Rattle.block.specs.Field.{byte_at, u16_at, u32_at, u64_at, f64_at}
use Rattle.block.specs.Block.{block_bytes, check_offset}
use Rattle.fields.specs.Limits.{vertex_limit, pairs_a_block}
use Rattle.fields.specs.Layout.{blocks_of, payload, grid_offset, part_offset, version_of, job_of, contours_of, pairs_of}
use Rattle.fields.specs.Layout.{per_contour_of, passes_of, move_limit_of, home_offset, exterior_of, interior_of, grid_of}
use Rattle.fields.specs.Layout.{id_of, tag_of, vertex_count_of, type_of, filler_of, vertex_offset, pair_offset}
use Rattle.fields.specs.Values.{point_at}
use Rattle.card.specs.Stages.{too_far, far_point}
use Rattle.parts.specs.Twins.{Own, of_version, of_check, of_part, Twins}

-- ---- fields of the same bytes

-- the n bytes from a on are the same
abbrev pub Run : List ℕ → List ℕ → ℕ → ℕ → Type 0
Run s t a n = (i : ℕ) → i < n → byte_at s (a + i) ≡ byte_at t (a + i)

module _ (s t : List ℕ) where
  -- so are those further on, and the first of them
  further : (a n d m : ℕ) → d + m ≤ n → Run s t a n → Run s t (a + d) m
  further a n d m h r i g =
      subst (λ (x : ℕ). byte_at s x ≡ byte_at t x) (sym (add_assoc a d i)) (r (d + i) (omega arith))

  pub byte : (a : ℕ) → Run s t a 1 → byte_at s a ≡ byte_at t a
  byte a r = subst (λ (x : ℕ). byte_at s x ≡ byte_at t x) (add-zero a) (r 0 (lit< tt))

  pub half : (a : ℕ) → Run s t a 2 → u16_at s a ≡ u16_at t a
  unfolding u16_at
  half a r = λ i. byte a (λ j h. r j (omega arith)) i + 256 * r 1 (lit< tt) i

  pub word : (a : ℕ) → Run s t a 4 → u32_at s a ≡ u32_at t a
  unfolding u32_at
  word a r = λ i. half a (λ j h. r j (omega arith)) i + 65536 * half (a + 2) (further a 4 2 2 (lit≤ tt) r) i

  long : (a : ℕ) → Run s t a 8 → u64_at s a ≡ u64_at t a
  unfolding u64_at
  long a r = λ i. word a (λ j h. r j (omega arith)) i + 4294967296 * word (a + 4) (further a 8 4 4 (lit≤ tt) r) i

  module _ (a : ℕ) (r : Run s t a 16) where
    abbrev x_same : u64_at s a ≡ u64_at t a
    x_same = long a (λ j h. r j (omega arith))

    abbrev y_same : u64_at s (a + 8) ≡ u64_at t (a + 8)
    y_same = long (a + 8) (further a 16 8 8 (lit≤ tt) r)

    pub point : point_at s a ≡ point_at t a
    unfolding point_at f64_at
    point = λ i. record { x = of_bits binary64 (x_same i); y = of_bits binary64 (y_same i) }

    pub far : far_point s a ≡ far_point t a
    far = λ i. too_far (x_same i) || too_far (y_same i)

-- ---- twins

module _ (s t : List ℕ) (w : Twins s t) where
  pub same_length : length s ≡ length t
  same_length = sym w.as_long

  pub same_blocks : blocks_of s ≡ blocks_of t
  same_blocks = λ i. same_length i / block_bytes

  -- not the version, nor one of the check or, in a contour's block, of the part and the copy
  abbrev Shared : ℕ → ℕ → Type 0
  Shared b p = (p < check_offset) × (p ≡ 1 → ⊥) × (0 < b → b ≤ contours_of s → p < 8 + part_offset)

  pub run : (a b p n : ℕ) → a ≡ block_bytes * b + p → ((i : ℕ) → i < n → Shared b (p + i)) → Run s t a n
  run a b p n e shared i h =
      let place : block_bytes * b + (p + i) ≡ a + i = omega arith in
      subst (λ (x : ℕ). byte_at s x ≡ byte_at t x) place
      (sym (w.shared b (p + i) (omega (arith, (shared i h).0)) (own (shared i h))))
    where
      own : Shared b (p + i) → Own s b (p + i) → ⊥
      own c (of_version v) = c.1 v
      own c (of_check g) = omega (arith, c.0)
      own c (of_part some few g) = omega (arith, c.2 some few)

  -- in a payload, before the part
  pub front : (b o n : ℕ) → o + n ≤ part_offset → Run s t (payload b + o) n
  front b o n h = run _ b (8 + o) n (omega arith) (omega arith)

  pub same_job : job_of s ≡ job_of t
  same_job = word s t _ (front 0 0 4 (lit≤ tt))

  pub same_contours : contours_of s ≡ contours_of t
  same_contours = half s t _ (front 0 4 2 (lit≤ tt))

  pub same_pairs : pairs_of s ≡ pairs_of t
  same_pairs = half s t _ (front 0 6 2 (lit≤ tt))

  pub same_per_contour : per_contour_of s ≡ per_contour_of t
  same_per_contour = half s t _ (front 0 8 2 (lit≤ tt))

  pub same_passes : passes_of s ≡ passes_of t
  same_passes = half s t _ (front 0 10 2 (lit≤ tt))

  pub same_limit : move_limit_of s ≡ move_limit_of t
  same_limit = word s t _ (front 0 12 4 (lit≤ tt))

  pub at_home : Run s t home_offset 16
  at_home = front 0 16 16 (lit≤ tt)

  pub same_exterior : exterior_of s ≡ exterior_of t
  same_exterior = byte s t _ (front 0 32 1 (lit≤ tt))

  pub same_interior : interior_of s ≡ interior_of t
  same_interior = byte s t _ (front 0 33 1 (lit≤ tt))

  pub is_two_lem : version_of s ≡ 2
  is_two_lem = w.two 0 w.some_block

  pub is_one : version_of t ≡ 1
  is_one = w.one 0 (subst (λ (n : ℕ). 0 < n) same_blocks w.some_block)

  -- none is asked for in the one, and the other has no such field
  pub same_grid : grid_of s ≡ grid_of t
  same_grid = w.no_grid ∙ sym (λ i. cond (eqb (is_one i) 2) (byte_at t (payload 0 + grid_offset)) 0)

  -- the byte itself is 0
  pub zero-grid : byte_at s (payload 0 + grid_offset) ≡ 0
  zero-grid = sym (λ i. cond (eqb (is_two_lem i) 2) (byte_at s (payload 0 + grid_offset)) 0) ∙ w.no_grid

  pub same_id : (k : ℕ) → id_of s k ≡ id_of t k
  same_id k = word s t _ (front (k + 1) 0 4 (lit≤ tt))

  pub same_tag : (k : ℕ) → tag_of s k ≡ tag_of t k
  same_tag k = word s t _ (front (k + 1) 4 4 (lit≤ tt))

  pub same_count : (k : ℕ) → vertex_count_of s k ≡ vertex_count_of t k
  same_count k = half s t _ (front (k + 1) 8 2 (lit≤ tt))

  pub same_type : (k : ℕ) → type_of s k ≡ type_of t k
  same_type k = byte s t _ (front (k + 1) 10 1 (lit≤ tt))

  pub same_filler : (k : ℕ) → filler_of s k ≡ filler_of t k
  same_filler k = byte s t _ (front (k + 1) 11 1 (lit≤ tt))

  -- as many vertices as a contour may have stand before the part
  pub at-vertex : (k j : ℕ) → j < vertex_limit → Run s t (vertex_offset k j) 16
  at-vertex k j h = run _ (k + 1) (20 + 16 * j) 16 (omega arith) (omega arith)

  -- a word of a pair
  pub same_word : (q o : ℕ) → o + 4 ≤ 16 → u32_at s (pair_offset s q + o) ≡ u32_at t (pair_offset t q + o)
  same_word q o h =
      let b = contours_of s + 1 + q / pairs_a_block in
      let r : q % pairs_a_block < pairs_a_block = mod-lt q (lit< tt) in
      word s t _ (run _ b (8 + 16 * (q % pairs_a_block) + o) 4 (omega arith) (omega arith))
      ∙ (λ i. u32_at t (payload (same_contours i + 1 + q / pairs_a_block) + 16 * (q % pairs_a_block) + o))
