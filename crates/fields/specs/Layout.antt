-- Where each field of a card stands, on any bytes: s is the card, k a contour, j a vertex, q a pair, each from 0.
-- Assumes nothing.
use Rattle.std.specs.Prelude.{Bool, cond, List, ℕ, ◌+◌, ◌*◌, ◌/◌, ◌%◌, eqb, length}
use Rattle.block.specs.Field.{byte_at, u16_at, u32_at}
use Rattle.block.specs.Block.{block_bytes}
use Rattle.fields.specs.Limits.{pairs_a_block}

-- the blocks that the file has
abbrev pub blocks_of : List ℕ → ℕ
blocks_of s = length s / block_bytes

-- where the payload of block b begins
abbrev pub payload : ℕ → ℕ
payload b = block_bytes * b + 8

-- the bytes of the head's fields that both versions have, of a contour's before its vertices, of a vertex and of a pair
abbrev pub head_size : ℕ
head_size = 34

abbrev pub contour_size : ℕ
contour_size = 12

abbrev pub vertex_size : ℕ
vertex_size = 16

abbrev pub pair_size : ℕ
pair_size = 16

-- where a version 2 head has the byte that asks for the grid in its payload: right behind the fields of both versions
abbrev pub grid_offset : ℕ
grid_offset = head_size

-- where a version 2 contour's last eight bytes begin in its payload: its part, and which copy of the part it is
abbrev pub part_offset : ℕ
part_offset = 492

abbrev pub copy_offset : ℕ
copy_offset = part_offset + 4

-- ---- the version: block 0's is the card's

abbrev pub version_of : List ℕ → ℕ
version_of s = byte_at s 1

-- whether the card is of version 2: its head may ask for the grid, its contours have a part and a copy
abbrev pub is_two : List ℕ → Bool
is_two s = eqb (version_of s) 2

-- ---- the head

abbrev pub job_of : List ℕ → ℕ
job_of s = u32_at s (payload 0 + 0)

abbrev pub contours_of : List ℕ → ℕ
contours_of s = u16_at s (payload 0 + 4)

abbrev pub pairs_of : List ℕ → ℕ
pairs_of s = u16_at s (payload 0 + 6)

abbrev pub per_contour_of : List ℕ → ℕ
per_contour_of s = u16_at s (payload 0 + 8)

abbrev pub passes_of : List ℕ → ℕ
passes_of s = u16_at s (payload 0 + 10)

abbrev pub move_limit_of : List ℕ → ℕ
move_limit_of s = u32_at s (payload 0 + 12)

-- home: its x, and 8 bytes on its y
abbrev pub home_offset : ℕ
home_offset = payload 0 + 16

abbrev pub exterior_of : List ℕ → ℕ
exterior_of s = byte_at s (payload 0 + 32)

abbrev pub interior_of : List ℕ → ℕ
interior_of s = byte_at s (payload 0 + 33)

-- the byte that asks for the grid; version 1 has none and reads as 0
abbrev pub grid_of : List ℕ → ℕ
grid_of s = cond (is_two s) (byte_at s (payload 0 + grid_offset)) 0

-- whether candidates are to be moved to the grid: only a byte of 1 asks
abbrev pub asks_grid : List ℕ → Bool
asks_grid s = eqb (grid_of s) 1

-- ---- a contour: one block each, after the head

abbrev pub id_of : List ℕ → ℕ → ℕ
id_of s k = u32_at s (payload (k + 1) + 0)

abbrev pub tag_of : List ℕ → ℕ → ℕ
tag_of s k = u32_at s (payload (k + 1) + 4)

abbrev pub vertex_count_of : List ℕ → ℕ → ℕ
vertex_count_of s k = u16_at s (payload (k + 1) + 8)

abbrev pub type_of : List ℕ → ℕ → ℕ
type_of s k = byte_at s (payload (k + 1) + 10)

abbrev pub filler_of : List ℕ → ℕ → ℕ
filler_of s k = byte_at s (payload (k + 1) + 11)

-- the part that contour k belongs to, 0 for none, and which copy of that part; version 1 has neither and reads as 0
abbrev pub part_of : List ℕ → ℕ → ℕ
part_of s k = cond (is_two s) (u32_at s (payload (k + 1) + part_offset)) 0

abbrev pub copy_of : List ℕ → ℕ → ℕ
copy_of s k = cond (is_two s) (u32_at s (payload (k + 1) + copy_offset)) 0

-- a vertex: its x, and 8 bytes on its y
abbrev pub vertex_offset : ℕ → ℕ → ℕ
vertex_offset k j = payload (k + 1) + contour_size + vertex_size * j

-- ---- a pair: 31 to a block, after the contours

abbrev pub pair_offset : List ℕ → ℕ → ℕ
pair_offset s q = payload (contours_of s + 1 + q / pairs_a_block) + pair_size * (q % pairs_a_block)

abbrev pub before_id_of : List ℕ → ℕ → ℕ
before_id_of s q = u32_at s (pair_offset s q + 0)

abbrev pub before_tag_of : List ℕ → ℕ → ℕ
before_tag_of s q = u32_at s (pair_offset s q + 4)

abbrev pub after_id_of : List ℕ → ℕ → ℕ
after_id_of s q = u32_at s (pair_offset s q + 8)

abbrev pub after_tag_of : List ℕ → ℕ → ℕ
after_tag_of s q = u32_at s (pair_offset s q + 12)
