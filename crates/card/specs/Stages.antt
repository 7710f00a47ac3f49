-- When a card goes back: a stage for each row of the table, in the order in which they are looked at. A stage finds the
-- lowest place at which its test holds. Assumes nothing.
use Rattle.std.specs.Prelude.{Bool, false, not, cond, ◌||◌, ◌&&◌, List, [], ◌∷◌, ℕ, zero, suc, ◌+◌, ◌*◌, ◌-◌, ◌/◌, ◌%◌, min, length, get_or, eqb, ltb, leb, None, Some, is_some}
use Rattle.answer.specs.Answer.{Found}
use Rattle.answer.specs.Lowest.{or_further, lowest}
use Rattle.block.specs.Field.{u64_at}
use Rattle.block.specs.Block.{block_bytes, payload_bytes, checked, starts, zeros_at}
use Rattle.closure.specs.Limits.{contour_limit, pair_limit}
use Rattle.fields.specs.Limits.{card_bytes, per_contour_limit, candidate_limit, pass_limit, vertex_limit, pairs_a_block}
use Rattle.fields.specs.Limits.{farthest}
use Rattle.card.specs.declared.BlockKind.{BlockKind}
use Rattle.card.specs.declared.BlockKind.TheVariants as kind
use Rattle.fields.specs.Layout.{blocks_of, payload, version_of, is_two, contours_of, pairs_of, per_contour_of, passes_of}
use Rattle.fields.specs.Layout.{home_offset, exterior_of, interior_of, grid_of, id_of, tag_of, vertex_count_of, type_of}
use Rattle.fields.specs.Layout.{filler_of, vertex_offset, before_id_of, before_tag_of, after_id_of, after_tag_of}
use Rattle.fields.specs.Layout.{head_size, grid_offset, contour_size, vertex_size, pair_size, part_offset}

-- this place, if the test holds
abbrev pub found_if : Bool → ℕ → Found
found_if b k = or_further b k None

-- below the least or above the most
abbrev pub outside : ℕ → ℕ → ℕ → Bool
outside least most x = ltb x least || ltb most x

-- ---- 1: the length

abbrev pub bad_length_within : ℕ → List ℕ → Bool
bad_length_within most s = eqb (length s) 0 || (not (eqb (length s % block_bytes) 0) || ltb most (length s))

unfoldable pub length_fault_within : ℕ → List ℕ → Found
length_fault_within most s = found_if (bad_length_within most s) (min (length s) (most + 1))

abbrev pub length_fault : List ℕ → Found
length_fault s = length_fault_within card_bytes s

-- ---- 2: the checks

abbrev pub bad_check : List ℕ → ℕ → Bool
bad_check s b = not (checked s (block_bytes * b))

unfoldable pub check_fault : List ℕ → Found
unfolding lowest
check_fault s = lowest (bad_check s) (blocks_of s)

-- ---- 3: the starts, of the first count blocks

-- the number that a block's start says of what it is for
abbrev pub kind_number : BlockKind → ℕ
kind_number kind.Head = 1
kind_number kind.Contour = 2
kind_number kind.Pairs = 3

-- the head is of kind 1, a contour of kind 2, pairs of kind 3
abbrev pub kind_due : List ℕ → ℕ → ℕ
kind_due s b = cond (eqb b 0) 1 (cond (leb b (contours_of s)) 2 3)

-- the versions that there are
abbrev pub is_version : ℕ → Bool
is_version v = eqb v 1 || eqb v 2

-- every block is of block 0's version
abbrev pub bad_start : List ℕ → ℕ → Bool
bad_start s b = not (is_version (version_of s) && starts s (block_bytes * b) (kind_due s b) (version_of s) b)

unfoldable pub start_fault : List ℕ → ℕ → Found
unfolding lowest
start_fault s count = lowest (bad_start s) count

-- ---- 4: the head's fields, by the number that the table gives each; there is no field 0

abbrev pub head_faults_within : ℕ → ℕ → List ℕ → List Bool
head_faults_within contours pairs s =
    false
    ∷ ltb contours (contours_of s)
    ∷ ltb pairs (pairs_of s)
    ∷ outside 1 per_contour_limit (per_contour_of s)
    ∷ ltb pass_limit (passes_of s)
    ∷ ltb 2 (exterior_of s)
    ∷ ltb 2 (interior_of s)
    ∷ ltb candidate_limit (contours_of s * per_contour_of s)
    ∷ ltb 1 (grid_of s)
    ∷ []

unfoldable pub head_fault_within : ℕ → ℕ → List ℕ → Found
unfolding lowest
head_fault_within contours pairs s = lowest (λ f. get_or (head_faults_within contours pairs s) f false) 9

abbrev pub head_faults : List ℕ → List Bool
head_faults s = head_faults_within contour_limit pair_limit s

abbrev pub head_fault : List ℕ → Found
head_fault s = head_fault_within contour_limit pair_limit s

-- ---- 5: the count of blocks

abbrev pub blocks_due : List ℕ → ℕ
blocks_due s = 1 + contours_of s + (pairs_of s + (pairs_a_block - 1)) / pairs_a_block

unfoldable pub count_fault : List ℕ → Found
count_fault s = found_if (not (eqb (blocks_of s) (blocks_due s))) (blocks_of s)

-- ---- 6: each contour's vertex count, type and filler

abbrev pub bad_contour : List ℕ → ℕ → Bool
bad_contour s k = outside 1 vertex_limit (vertex_count_of s k) || (ltb 1 (type_of s k) || not (eqb (filler_of s k) 0))

unfoldable pub contour_fault : List ℕ → Found
unfolding lowest
contour_fault s = lowest (bad_contour s) (contours_of s)

-- ---- 7: the payload's spare bytes

-- the pairs in block b, which stands after the contours
abbrev pub pairs_in : List ℕ → ℕ → ℕ
pairs_in s b = min pairs_a_block (pairs_of s - pairs_a_block * (b - (contours_of s + 1)))

-- how many bytes at the front of the head's payload are fields: version 2 has one more, which asks for the grid
abbrev pub head_used : List ℕ → ℕ
head_used s = cond (is_two s) (grid_offset + 1) head_size

-- how many bytes at the front of block b's payload are fields
abbrev pub used_in : List ℕ → ℕ → ℕ
used_in s b =
    let contour = contour_size + vertex_size * vertex_count_of s (b - 1) in
    cond (eqb b 0) (head_used s) (cond (leb b (contours_of s)) contour (pair_size * pairs_in s b))

-- where block b's spare bytes end: a version 2 contour has its part and copy behind them
abbrev pub spare_end : List ℕ → ℕ → ℕ
spare_end s b = cond (eqb (kind_due s b) 2 && is_two s) part_offset payload_bytes

abbrev pub bad_spare : List ℕ → ℕ → Bool
bad_spare s b = not (zeros_at s (payload b + used_in s b) (spare_end s b - used_in s b))

unfoldable pub spare_fault : List ℕ → Found
unfolding lowest
spare_fault s = lowest (bad_spare s) (blocks_of s)

-- ---- 8: the coordinates, home as place 0, contour k as place k + 1

-- the bits, without their sign, of a number above the largest, of infinity or of no number
abbrev pub too_far : ℕ → Bool
too_far bits = ltb farthest (bits % 0x8000_0000_0000_0000)

abbrev pub far_point : List ℕ → ℕ → Bool
far_point s at = too_far (u64_at s at) || too_far (u64_at s (at + 8))

unfoldable pub far_vertex : List ℕ → ℕ → Found
unfolding lowest
far_vertex s k = lowest (λ j. far_point s (vertex_offset k j)) (vertex_count_of s k)

abbrev pub far_place : List ℕ → ℕ → Bool
far_place s zero = far_point s home_offset
far_place s (suc k) = is_some (far_vertex s k)

unfoldable pub far_fault : List ℕ → Found
unfolding lowest
far_fault s = lowest (far_place s) (contours_of s + 1)

-- ---- 9: ids that repeat an earlier one

-- where an id stands among the first count contours
unfoldable pub seek_of : List ℕ → ℕ → ℕ → Found
unfolding lowest
seek_of s count id = lowest (λ k. eqb (id_of s k) id) count

abbrev pub repeats : List ℕ → ℕ → Bool
repeats s k = is_some (seek_of s k (id_of s k))

unfoldable pub repeat_fault : List ℕ → Found
unfolding lowest
repeat_fault s = lowest (repeats s) (contours_of s)

-- ---- 10: written pairs that name an id no contour has

-- the contour that has an id
abbrev pub position_of : List ℕ → ℕ → Found
position_of s id = seek_of s (contours_of s) id

abbrev pub unnamed : List ℕ → ℕ → Bool
unnamed s q = not (is_some (position_of s (before_id_of s q))) || not (is_some (position_of s (after_id_of s q)))

unfoldable pub name_fault : List ℕ → Found
unfolding lowest
name_fault s = lowest (unnamed s) (pairs_of s)

-- ---- 11: written pairs whose tag is not their contour's

-- the position found; 0 where there is none
abbrev pub seat : Found → ℕ
seat (Some k) = k
seat None = 0

abbrev pub before_of : List ℕ → ℕ → ℕ
before_of s q = seat (position_of s (before_id_of s q))

abbrev pub after_of : List ℕ → ℕ → ℕ
after_of s q = seat (position_of s (after_id_of s q))

abbrev pub other_tag : List ℕ → ℕ → Bool
other_tag s q =
    not (eqb (tag_of s (before_of s q)) (before_tag_of s q)) || not (eqb (tag_of s (after_of s q)) (after_tag_of s q))

unfoldable pub tag_fault : List ℕ → Found
unfolding lowest
tag_fault s = lowest (other_tag s) (pairs_of s)
