-- Where the blocks of a crowded card stand, and what its contours' blocks say. Assumes nothing.
use Rattle.std.specs.Prelude.{None}
use mathlib.Core.Path.{◌≡◌, refl, sym, ap, ◌∙◌}
use mathlib.Core.Bool.{true, not}
use mathlib.Core.List.{List, [], ◌++◌, append-nil}
use Prim.Native.Nat.{ℕ, zero, suc, ◌+◌, ◌*◌, ◌-◌, ◌<◌, ◌≤◌}
use native.Mathlib.Nat.{add-zero, add-suc, suc-add}
use native.Mathlib.Omega.{arith}
use borrow.Author.Tests.{not-false}
use lib.ListN.{length, drop, length-append}
use lib.Seq.{drop-append-add, drop-drop, get_or-drop}
use Rattle.answer.specs.Lowest.{lowest}
use Rattle.answer.proofs.LowestLaws.{is_absent}
use Rattle.block.specs.Field.{byte_at, u16_at, u32_at, u64_at}
use Rattle.block.specs.Block.{block_bytes, payload_bytes, check_offset, checked, starts, zeros_at}
use Rattle.block.specs.Write.{block_of}
use Rattle.block.proofs.Readings.{is_due}
use Rattle.closure.specs.Limits.{contour_limit}
use Rattle.fields.specs.Layout.{payload, id_of, vertex_count_of, type_of, filler_of, vertex_offset, contour_size, vertex_size}
use Rattle.card_laws.specs.Examples.{as_job41, cornered}
use Rattle.card_laws.specs.Write.{head_bytes, contour_bytes, contour_blocks, written}
use Rattle.card_laws.proofs.Starred.{verdict_computes}
use Rattle.larger.specs.Larger.{crowd, crowded}

-- ---- the blocks

-- the head, a contour's block, and the blocks of so many contours from a number on
abbrev pub head_block : ℕ → List ℕ
head_block n = block_of 1 1 0 (head_bytes (as_job41 (crowd n 1) []))

abbrev contour_block : ℕ → List ℕ
contour_block b = block_of 2 1 b (contour_bytes 1 (cornered b))

abbrev pub contours_from : ℕ → ℕ → List ℕ
contours_from n b = contour_blocks 1 b (crowd n b)

-- a card is its head and its contours' blocks
pub as_blocks : (n : ℕ) → crowded n ≡ head_block n ++ contours_from n 1
unfolding written
as_blocks n = append-nil (head_block n ++ contours_from n 1)

next_block : (n b : ℕ) → contours_from (suc n) b ≡ contour_block b ++ contours_from n (suc b)
unfolding contour_blocks crowd
next_block n b = refl

head_long : (n : ℕ) → length (head_block n) ≡ block_bytes
unfolding verdict_computes
head_long n = refl

contour_long : (b : ℕ) → length (contour_block b) ≡ block_bytes
unfolding verdict_computes
contour_long b = refl

contours_long : (n b : ℕ) → length (contours_from n b) ≡ block_bytes * n
unfolding contour_blocks crowd
contours_long zero b = refl
contours_long (suc n) b =
    length-append (contour_block b) (contours_from n (suc b)) ∙ omega (arith, contour_long b, contours_long n (suc b))

-- its length
pub long : (n : ℕ) → length (crowded n) ≡ block_bytes * suc n
long n =
    ap length (as_blocks n) ∙ length-append (head_block n) (contours_from n 1)
    ∙ omega (arith, head_long n, contours_long n 1)

behind : (block rest : List ℕ) (i : ℕ) → length block ≡ block_bytes
    → drop (block_bytes * suc i) (block ++ rest) ≡ drop (block_bytes * i) rest
behind block rest i e =
    let f : block_bytes * suc i ≡ length block + block_bytes * i = omega arith in
    rw f (drop-append-add block rest (block_bytes * i))

block_at : (n b i : ℕ) → i < n
    → (rest : List ℕ) × (drop (block_bytes * i) (contours_from n b) ≡ contour_block (b + i) ++ rest)
block_at zero b i h = absurd (omega arith)
block_at (suc n) b zero h = (contours_from n (suc b), rw add-zero (next_block n b))
block_at (suc n) b (suc i) h =
    let (rest, e) = block_at n (suc b) i (omega arith) in
    let gone = behind (contour_block b) (contours_from n (suc b)) i (contour_long b) in
    (rest, rw (next_block n b, gone, e, suc-add, add-suc))

-- ---- what a contour's block says

-- the bytes of its fields, one vertex among them
abbrev used : ℕ
used = contour_size + vertex_size

pub record Says (s : List ℕ) (k : ℕ) : Type 0 where
  pub check_is : checked s (block_bytes * suc k) ≡ true
  pub start_is : starts s (block_bytes * suc k) 2 1 (suc k) ≡ true
  pub id_is : id_of s k ≡ suc k
  pub count_is : vertex_count_of s k ≡ 1
  pub type_is : type_of s k ≡ 0
  pub filler_is : filler_of s k ≡ 0
  pub spare_is : zeros_at s (payload (suc k) + used) (payload_bytes - used) ≡ true
  pub x_is : u64_at s (vertex_offset k 0) ≡ 0
  pub y_is : u64_at s (vertex_offset k 0 + 8) ≡ 0

-- the checks alone are computed block by block
checks : (rest : List ℕ) → lowest (λ k. not (checked (contour_block (suc k) ++ rest) 0)) contour_limit ≡ None
unfolding verdict_computes
checks rest = refl

module _ (s rest : List ℕ) (k : ℕ) (cut : drop (block_bytes * suc k) s ≡ contour_block (suc k) ++ rest) where
  abbrev here : List ℕ
  here = contour_block (suc k) ++ rest

  byte : (x o : ℕ) → x ≡ block_bytes * suc k + o → byte_at s x ≡ byte_at here o
  byte x o e = ap (byte_at s) e ∙ sym (get_or-drop (block_bytes * suc k) s o 0) ∙ ap (λ (l : List ℕ). byte_at l o) cut

  u16 : (x o : ℕ) → x ≡ block_bytes * suc k + o → u16_at s x ≡ u16_at here o
  unfolding u16_at
  u16 x o e = rw (byte x o e, byte (x + 1) (o + 1) (omega arith))

  u32 : (x o : ℕ) → x ≡ block_bytes * suc k + o → u32_at s x ≡ u32_at here o
  unfolding u32_at
  u32 x o e = rw (u16 x o e, u16 (x + 2) (o + 2) (omega arith))

  u64 : (x o : ℕ) → x ≡ block_bytes * suc k + o → u64_at s x ≡ u64_at here o
  unfolding u64_at
  u64 x o e = rw (u32 x o e, u32 (x + 4) (o + 4) (omega arith))

  zeros : (x o count : ℕ) → x ≡ block_bytes * suc k + o → zeros_at s x count ≡ zeros_at here o count
  unfolding zeros_at
  zeros x o count e = rw (e, ← drop-drop o (block_bytes * suc k) s, cut)

  check : k < contour_limit → checked s (block_bytes * suc k) ≡ true
  unfolding checked
  check few =
      rw (cut, u32 (block_bytes * suc k + check_offset) check_offset refl)
      (not-false (checked here 0)
      (is_absent (λ i. not (checked (contour_block (suc i) ++ rest) 0)) contour_limit (checks rest) k few))

  says : k < contour_limit → Says s k
  unfolding verdict_computes
  says few = record {
    check_is = check few;
    start_is = is_due s (block_bytes * suc k) 2 1 (suc k) (record {
      kind_is = byte _ 0 (omega arith);
      version_is = byte _ 1 refl;
      number_is = u16 _ 2 refl ∙ omega arith;
      zeros_are = u32 _ 4 refl;
    });
    id_is = u32 _ 8 (omega arith) ∙ omega arith;
    count_is = u16 _ 16 (omega arith);
    type_is = byte _ 18 (omega arith);
    filler_is = byte _ 19 (omega arith);
    spare_is = zeros (payload (suc k) + used) (8 + used) (payload_bytes - used) (omega arith);
    x_is = u64 _ 20 (omega arith);
    y_is = u64 _ 28 (omega arith);
  }

-- every contour's block says so
pub all_say : (n k : ℕ) → n ≤ contour_limit → k < n → Says (crowded n) k
all_say n k few h =
    let (rest, e) = block_at n 1 k h in
    let f : 1 + k ≡ suc k = omega arith in
    let gone = behind (head_block n) (contours_from n 1) k (head_long n) in
    says (crowded n) rest k (rw (as_blocks n, gone, e, f)) (omega arith)
