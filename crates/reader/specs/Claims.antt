-- What is claimed of a walk: in file order it gives what `fields` reads, of the whole card too, on any bytes. Assumes
-- nothing.
use Rattle.std.specs.Prelude.{◌≡◌, true, List, [], ◌∷◌, ◌++◌, ℕ, ◌+◌}
use Rattle.std.specs.Float.{binary64}
use Rattle.std.specs.Float.Ieee.{of_bits}
use Rattle.answer.specs.declared.Point.{Point}
use Rattle.block.specs.Field.{u64_at}
use Rattle.fields.specs.Layout.{payload, is_two, grid_of, id_of, tag_of, vertex_count_of, type_of, filler_of, part_offset}
use Rattle.fields.specs.Layout.{part_of, copy_of, pair_offset}
use Rattle.fields.specs.Values.{point_at}
use Rattle.reader.specs.Walk.{walk}
use Rattle.reader.specs.OnCard.{head_of, head_widths, head_list, grid_widths, coordinates_from, contour_widths}
use Rattle.reader.specs.OnCard.{pair_read, group_widths, pair_widths}
use Rattle.reader.specs.FileOrder.{card_stretches, walk_all, Forward, pair_list, card_read}

-- the head
abbrev pub HeadInOrder : Type 0
HeadInOrder = (s : List ℕ) → walk s (payload 0) head_widths ≡ head_list (head_of s)

-- in version 2 the byte that asks for the grid comes right behind the head's other fields
abbrev pub GridInOrder : Type 0
GridInOrder = (s : List ℕ) → is_two s ≡ true
    → walk s (payload 0) (head_widths ++ grid_widths) ≡ head_list (head_of s) ++ (grid_of s ∷ [])

-- a contour with so many vertices
abbrev pub ContourInOrder : Type 0
ContourInOrder = (s : List ℕ) (k v : ℕ)
    → walk s (payload (k + 1)) (contour_widths v) ≡ id_of s k ∷ tag_of s k ∷ vertex_count_of s k ∷ type_of s k
    ∷ filler_of s k ∷ coordinates_from s k 0 v

-- its part and its copy, behind the vertices, in version 2
abbrev pub GroupInOrder : Type 0
GroupInOrder = (s : List ℕ) (k : ℕ) → is_two s ≡ true
    → walk s (payload (k + 1) + part_offset) group_widths ≡ part_of s k ∷ copy_of s k ∷ []

-- a pair
abbrev pub PairInOrder : Type 0
PairInOrder = (s : List ℕ) (q : ℕ) → walk s (pair_offset s q) pair_widths ≡ pair_list (pair_read s q)

-- a whole card: what the reader answers of its head, of each contour and of each pair is one walk over the card
abbrev pub CardInOrder : Type 0
CardInOrder = (s : List ℕ) → walk_all s (card_stretches s) ≡ card_read s

-- and that walk never goes back
abbrev pub CardForward : Type 0
CardForward = (s : List ℕ) → Forward 0 (card_stretches s)

-- a point, home or a vertex, is the two numbers whose bits are walked
abbrev pub PointOfBits : Type 0
PointOfBits = (s : List ℕ) (at : ℕ)
    → ◌≡◌ {A = Point} (record { x = of_bits binary64 (u64_at s at); y = of_bits binary64 (u64_at s (at + 8)) })
    (point_at s at)
