-- When a card goes back, in the words of the table: a row holds at a place, and of several rows the first is given. The
-- rows name fields and numbers and, but for a block's sum and the test of a coordinate, compute nothing; the verdict
-- that does is said to be this one in `Exactly`. Assumes nothing.
use Rattle.std.specs.Prelude.{◌≡◌, ◌⊎◌, true, List, ℕ, suc, ◌+◌, ◌*◌, ◌%◌, ◌≤◌, ◌<◌, min, length, Err, Ok}
use Rattle.answer.specs.declared.Refusal.{Refusal}
use Rattle.block.specs.Field.{byte_at, u32_at}
use Rattle.block.specs.Block.{block_bytes, payload_bytes, check_offset, check_at, Due}
use Rattle.points.specs.Bad.{bad_point}
use Rattle.closure.specs.Limits.{contour_limit, pair_limit}
use Rattle.fields.specs.Limits.{card_bytes, per_contour_limit, candidate_limit, pass_limit, vertex_limit, pairs_a_block}
use Rattle.fields.specs.Layout.{blocks_of, payload, version_of, contours_of, pairs_of, per_contour_of, passes_of, home_offset}
use Rattle.fields.specs.Layout.{exterior_of, interior_of, id_of, tag_of, vertex_count_of, type_of, filler_of, part_of, copy_of}
use Rattle.fields.specs.Layout.{vertex_offset, before_id_of, before_tag_of, after_id_of, after_tag_of}
use Rattle.fields.specs.Layout.{head_size, grid_offset, contour_size, vertex_size, pair_size, part_offset}
use Rattle.fields.specs.Values.{point_at}
use Rattle.card.specs.Verdict.{check_of}

-- the fault is at this place, which is below n, and at none before it
pub record Lowest (n : ℕ) (Fault : ℕ → Type 0) (place : ℕ) : Type 0 where
  pub within : place < n
  pub holds : Fault place
  pub before : (j : ℕ) → j < place → Fault j → ⊥

-- ---- the rows

-- 1: the length is 0, no multiple of 512, or above the most bytes of a card; the place is the length, or one more than
-- that most if it is larger
pub record Row1 (s : List ℕ) (place : ℕ) : Type 0 where
  pub cause : (length s ≡ 0) ⊎ ((length s % block_bytes ≡ 0 → ⊥) ⊎ (card_bytes < length s))
  pub told : place ≡ min (length s) (card_bytes + 1)

-- 2: a check differs; the lowest block
abbrev pub CheckDiffers : List ℕ → ℕ → Type 0
CheckDiffers s b = check_at s (block_bytes * b) ≡ u32_at s (block_bytes * b + check_offset) → ⊥

abbrev pub Row2 : List ℕ → ℕ → Type 0
Row2 s = Lowest (blocks_of s) (CheckDiffers s)

-- the kind of block b: 1 for the head, 2 for a contour, 3 for pairs
pub data Kind (s : List ℕ) (b : ℕ) : ℕ → Type 0 where
  of_head : b ≡ 0 → Kind s b 1
  of_contour : 0 < b → b ≤ contours_of s → Kind s b 2
  of_pairs : contours_of s < b → Kind s b 3

-- the version of every block: block 0's, which is 1 or 2
pub data Version (s : List ℕ) : ℕ → Type 0 where
  is_one : version_of s ≡ 1 → Version s 1
  is_two_lem : version_of s ≡ 2 → Version s 2

-- 3: bytes 0 to 7 are not as due; the lowest of the first count blocks
abbrev pub StartsOtherwise : List ℕ → ℕ → Type 0
StartsOtherwise s b = (kind version : ℕ) → Kind s b kind → Version s version
    → Due s (block_bytes * b) kind version b → ⊥

abbrev pub Row3 : List ℕ → ℕ → ℕ → Type 0
Row3 s count = Lowest count (StartsOtherwise s)

-- 4: the lowest field; field 8, the byte that asks for the grid, is one of version 2 only
pub data BadField (s : List ℕ) : ℕ → Type 0 where
  contours : contour_limit < contours_of s → BadField s 1
  pairs : pair_limit < pairs_of s → BadField s 2
  candidates : (per_contour_of s < 1) ⊎ (per_contour_limit < per_contour_of s) → BadField s 3
  passes : pass_limit < passes_of s → BadField s 4
  exterior : 2 < exterior_of s → BadField s 5
  interior : 2 < interior_of s → BadField s 6
  all_candidates : candidate_limit < contours_of s * per_contour_of s → BadField s 7
  grid : version_of s ≡ 2 → 1 < byte_at s (payload 0 + grid_offset) → BadField s 8

abbrev pub Row4 : List ℕ → ℕ → Type 0
Row4 s = Lowest 9 (BadField s)

-- so many blocks hold the m pairs, 31 to a block, and one block less would not
pub record PairBlocks (s : List ℕ) (p : ℕ) : Type 0 where
  pub enough : pairs_of s ≤ pairs_a_block * p
  pub no_more : pairs_a_block * p < pairs_of s + pairs_a_block

-- 5: the blocks differ from 1 + n + ceil(m / 31); the place is their count
pub record Row5 (s : List ℕ) (place : ℕ) : Type 0 where
  pub differs : (p : ℕ) → PairBlocks s p → blocks_of s ≡ 1 + contours_of s + p → ⊥
  pub told : place ≡ blocks_of s

-- 6: v is not 1 to 30, the type above 1, or byte 11 not zero; the lowest contour position
pub data BadContour (s : List ℕ) (k : ℕ) : Type 0 where
  few_vertices : vertex_count_of s k < 1 → BadContour s k
  many_vertices : vertex_limit < vertex_count_of s k → BadContour s k
  no_type : 1 < type_of s k → BadContour s k
  byte_eleven : (filler_of s k ≡ 0 → ⊥) → BadContour s k

abbrev pub Row6 : List ℕ → ℕ → Type 0
Row6 s = Lowest (contours_of s) (BadContour s)

-- no field stands at this byte of block b's payload: the head has 34 bytes of fields and, in version 2, byte 34;
-- contour k has 12 and 16 a vertex and, in version 2, all from 492 on, a block of pairs 16 a pair, 31 pairs at most;
-- where the earlier blocks of pairs and the bytes before this one hold all m pairs, no field is left
pub data Spare (s : List ℕ) (b offset : ℕ) : Type 0 where
  in_head : b ≡ 0 → head_size ≤ offset → (version_of s ≡ 2 → offset ≡ grid_offset → ⊥) → Spare s b offset
  in_contour : (k : ℕ) → k < contours_of s → b ≡ suc k → contour_size + vertex_size * vertex_count_of s k ≤ offset
      → (version_of s ≡ 2 → offset < part_offset) → Spare s b offset
  past_last_pair : (i : ℕ) → b ≡ suc (contours_of s + i) → pair_size * pairs_of s ≤ pair_size * (pairs_a_block * i) + offset
      → Spare s b offset
  past_full_block : (i : ℕ) → b ≡ suc (contours_of s + i) → pair_size * pairs_a_block ≤ offset → Spare s b offset

-- 7: a spare payload byte is not zero; the lowest block
pub record SpareByte (s : List ℕ) (b : ℕ) : Type 0 where
  pub offset : ℕ
  pub behind : Spare s b offset
  pub inside : offset < payload_bytes
  pub some : byte_at s (payload b + offset) ≡ 0 → ⊥

abbrev pub Row7 : List ℕ → ℕ → Type 0
Row7 s = Lowest (blocks_of s) (SpareByte s)

-- 8: a coordinate is not finite or is above 1,048,576 in size; 0 for home, else position + 1; the lowest
pub data FarCoordinate (s : List ℕ) : ℕ → Type 0 where
  at_home : bad_point (point_at s home_offset) ≡ true → FarCoordinate s 0
  at-vertex : (k j : ℕ) → j < vertex_count_of s k → bad_point (point_at s (vertex_offset k j)) ≡ true
      → FarCoordinate s (suc k)

abbrev pub Row8 : List ℕ → ℕ → Type 0
Row8 s = Lowest (contours_of s + 1) (FarCoordinate s)

-- 9: a contour repeats an earlier id; the lowest such position
pub record Repeated (s : List ℕ) (k : ℕ) : Type 0 where
  pub earlier : ℕ
  pub is_earlier : earlier < k
  pub same : id_of s earlier ≡ id_of s k

abbrev pub Row9 : List ℕ → ℕ → Type 0
Row9 s = Lowest (contours_of s) (Repeated s)

-- contour k has this id
pub record Has (s : List ℕ) (id k : ℕ) : Type 0 where
  pub is_contour : k < contours_of s
  pub same : id_of s k ≡ id

-- 10: a written pair names an id no contour has; the lowest pair
pub data Unnamed (s : List ℕ) (q : ℕ) : Type 0 where
  first : ((k : ℕ) → Has s (before_id_of s q) k → ⊥) → Unnamed s q
  second : ((k : ℕ) → Has s (after_id_of s q) k → ⊥) → Unnamed s q

abbrev pub Row10 : List ℕ → ℕ → Type 0
Row10 s = Lowest (pairs_of s) (Unnamed s)

-- 11: a written pair's tag differs from its contour's; the lowest pair
pub data OtherTag (s : List ℕ) (q : ℕ) : Type 0 where
  first : (k : ℕ) → Has s (before_id_of s q) k → (tag_of s k ≡ before_tag_of s q → ⊥) → OtherTag s q
  second : (k : ℕ) → Has s (after_id_of s q) k → (tag_of s k ≡ after_tag_of s q → ⊥) → OtherTag s q

abbrev pub Row11 : List ℕ → ℕ → Type 0
Row11 s = Lowest (pairs_of s) (OtherTag s)

-- a written pair has the id of contour i first and that of contour j second
pub record ByPair (s : List ℕ) (i j : ℕ) : Type 0 where
  pub pair : ℕ
  pub is_pair_lem : pair < pairs_of s
  pub first : Has s (before_id_of s pair) i
  pub second : Has s (after_id_of s pair) j

-- contour j is an exterior with the part and the copy of contour i
pub record Encloses (s : List ℕ) (i j : ℕ) : Type 0 where
  pub exterior : type_of s j ≡ 0
  pub same_part : part_of s j ≡ part_of s i
  pub same_copy : copy_of s j ≡ copy_of s i

-- contour i is an interior of a part other than 0, and contour j the first exterior with its part and copy
pub record ByRule (s : List ℕ) (i j : ℕ) : Type 0 where
  pub is_contour : i < contours_of s
  pub interior : type_of s i ≡ 1
  pub of_a_part : part_of s i ≡ 0 → ⊥
  pub enclosed : Lowest (contours_of s) (Encloses s i) j

-- contour i goes before contour j: by a written pair, or by rule
pub data Precedes (s : List ℕ) (i j : ℕ) : Type 0 where
  by_pair : ByPair s i j → Precedes s i j
  by_rule : ByRule s i j → Precedes s i j

-- contour j can be reached from contour i by pairs, one or more
pub data Leads (s : List ℕ) : ℕ → ℕ → Type 0 where
  at_once : {i j : ℕ} → Precedes s i j → Leads s i j
  onward : {i k j : ℕ} → Precedes s i k → Leads s k j → Leads s i j

-- 12: a contour can be reached from itself by pairs; the lowest such position
abbrev pub OnCycle : List ℕ → ℕ → Type 0
OnCycle s k = Leads s k k

abbrev pub Row12 : List ℕ → ℕ → Type 0
Row12 s = Lowest (contours_of s) (OnCycle s)

-- ---- the order of the numbers

-- the row holds at no place
abbrev pub No : (ℕ → Type 0) → Type 0
No Row = (place : ℕ) → Row place → ⊥

-- the rows that have been passed, up to each
abbrev pub Past1 : List ℕ → Type 0
Past1 s = No (Row1 s)

abbrev pub Past2 : List ℕ → Type 0
Past2 s = Past1 s × No (Row2 s)

abbrev pub PastStart : List ℕ → Type 0
PastStart s = Past2 s × No (Row3 s 1)

abbrev pub Past4 : List ℕ → Type 0
Past4 s = PastStart s × No (Row4 s)

abbrev pub Past5 : List ℕ → Type 0
Past5 s = Past4 s × No (Row5 s)

abbrev pub PastStarts : List ℕ → Type 0
PastStarts s = Past5 s × No (Row3 s (blocks_of s))

abbrev pub Past6 : List ℕ → Type 0
Past6 s = PastStarts s × No (Row6 s)

abbrev pub Past7 : List ℕ → Type 0
Past7 s = Past6 s × No (Row7 s)

abbrev pub Past8 : List ℕ → Type 0
Past8 s = Past7 s × No (Row8 s)

abbrev pub Past9 : List ℕ → Type 0
Past9 s = Past8 s × No (Row9 s)

abbrev pub Past10 : List ℕ → Type 0
Past10 s = Past9 s × No (Row10 s)

abbrev pub Past11 : List ℕ → Type 0
Past11 s = Past10 s × No (Row11 s)

-- no row holds
abbrev pub Sound : List ℕ → Type 0
Sound s = Past11 s × No (Row12 s)

-- a number is given at a place exactly when its row holds there and no earlier one does anywhere; the start of block 0
-- is looked at before 4, the other starts right after 5
pub data Given (s : List ℕ) : ℕ → ℕ → Type 0 where
  one : {place : ℕ} → Row1 s place → Given s 1 place
  two : {place : ℕ} → Past1 s → Row2 s place → Given s 2 place
  three : {place : ℕ} → Past2 s → Row3 s 1 place → Given s 3 place
  four : {place : ℕ} → PastStart s → Row4 s place → Given s 4 place
  five : {place : ℕ} → Past4 s → Row5 s place → Given s 5 place
  three_later : {place : ℕ} → Past5 s → Row3 s (blocks_of s) place → Given s 3 place
  six : {place : ℕ} → PastStarts s → Row6 s place → Given s 6 place
  seven : {place : ℕ} → Past6 s → Row7 s place → Given s 7 place
  eight : {place : ℕ} → Past7 s → Row8 s place → Given s 8 place
  nine : {place : ℕ} → Past8 s → Row9 s place → Given s 9 place
  ten : {place : ℕ} → Past9 s → Row10 s place → Given s 10 place
  eleven : {place : ℕ} → Past10 s → Row11 s place → Given s 11 place
  twelve : {place : ℕ} → Past11 s → Row12 s place → Given s 12 place

-- the verdict is the table's: a card is refused with a number and a place exactly when they are given, and is fine
-- exactly when no row holds
pub record Exactly (s : List ℕ) : Type 0 where
  pub refused-if : (r : Refusal) → Given s r.number r.place → check_of s ≡ Err r
  pub refused_only : (r : Refusal) → check_of s ≡ Err r → Given s r.number r.place
  pub fine_if : Sound s → check_of s ≡ Ok tt
  pub fine_only : check_of s ≡ Ok tt → Sound s
