-- The limits of a card, next to those on contours and pairs, which stand in the crate `closure`. Assumes nothing.
use Rattle.std.specs.Prelude.{ℕ}

-- bytes of the longest card, the one with the most contours and pairs
abbrev pub card_bytes : ℕ
card_bytes = 45568

-- candidates for one contour, and for all of them
abbrev pub per_contour_limit : ℕ
per_contour_limit = 8

abbrev pub candidate_limit : ℕ
candidate_limit = 80

abbrev pub pass_limit : ℕ
pass_limit = 1000

abbrev pub vertex_limit : ℕ
vertex_limit = 30

-- pairs that one block takes
abbrev pub pairs_a_block : ℕ
pairs_a_block = 31

-- the bits of 1,048,576: no coordinate is larger in size
abbrev pub farthest : ℕ
farthest = 0x4130_0000_0000_0000
