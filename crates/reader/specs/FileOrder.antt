-- A whole card's fields in the order of the file: the head's, then each contour's, then each pair's. Assumes nothing.
use Rattle.std.specs.Prelude.{Bool, cond, List, [], ◌∷◌, ◌++◌, ℕ, zero, suc, ◌+◌, ◌*◌, ◌≤◌, min, take}
use Rattle.fields.specs.Limits.{vertex_limit}
use Rattle.fields.specs.Layout.{payload, is_two, contours_of, pairs_of, grid_of, vertex_count_of, part_offset, pair_offset}
use Rattle.reader.specs.declared.Width.{Width}
use Rattle.reader.specs.declared.Contour.{Contour}
use Rattle.reader.specs.declared.Pair.{Pair}
use Rattle.reader.specs.Fields.{bytes_of}
use Rattle.reader.specs.Walk.{walk}
use Rattle.reader.specs.OnCard.{head_of, head_list, head_widths, grid_widths, contour_read, contour_widths}
use Rattle.reader.specs.OnCard.{group_widths, pair_read, pair_widths}

-- ---- where a walk goes

-- fields without a gap between them: where the first begins, and how wide each is
pub record Stretch : Type 0 where
  pub begins : ℕ
  pub widths : List Width

-- the head's fields, and in version 2 the byte that asks for the grid right behind them
abbrev pub head_stretch : Bool → Stretch
head_stretch two = record { begins = payload 0; widths = cond two (head_widths ++ grid_widths) head_widths }

-- contour k's part and copy, behind its vertices: one stretch where the card has them, in version 2, else none
unfoldable pub group_stretches : Bool → ℕ → List Stretch
group_stretches parts k = cond parts (record { begins = payload (k + 1) + part_offset; widths = group_widths } ∷ []) []

-- so many contours, from contour k on, each with its first vertices if it names more than a contour may have
unfoldable pub contour_stretches : List ℕ → ℕ → ℕ → List Stretch
unfolding group_stretches
contour_stretches s k zero = []
contour_stretches s k (suc n) =
    record { begins = payload (k + 1); widths = contour_widths (min (vertex_count_of s k) vertex_limit) }
    ∷ (group_stretches (is_two s) k ++ contour_stretches s (suc k) n)

-- so many pairs, from pair q on
unfoldable pub pair_stretches : List ℕ → ℕ → ℕ → List Stretch
pair_stretches s q zero = []
pair_stretches s q (suc m) = record { begins = pair_offset s q; widths = pair_widths } ∷ pair_stretches s (suc q) m

-- a card: the head, each contour, each pair
unfoldable pub card_stretches : List ℕ → List Stretch
unfolding contour_stretches pair_stretches
card_stretches s =
    head_stretch (is_two s)
    ∷ (contour_stretches s 0 (contours_of s) ++ pair_stretches s 0 (pairs_of s))

-- one walk over all of them
unfoldable pub walk_all : List ℕ → List Stretch → List ℕ
walk_all s [] = []
walk_all s (t ∷ ts) = walk s t.begins t.widths ++ walk_all s ts

-- ---- that it never goes back

-- the bytes that fields of these widths take
unfoldable pub bytes_in : List Width → ℕ
bytes_in [] = 0
bytes_in (w ∷ ws) = bytes_of w + bytes_in ws

-- each stretch begins where the one before it ended, or later; the first not before `end`
unfoldable pub Forward : ℕ → List Stretch → Type 0
unfolding bytes_in
Forward end [] = Unit
Forward end (t ∷ ts) = (end ≤ t.begins) × Forward (t.begins + bytes_in t.widths) ts

-- ---- what the reader answers, in that order

-- the head's fields, and the byte that asks for the grid where the card has it
abbrev pub head_read : Bool → List ℕ → List ℕ
head_read two s = head_list (head_of s) ++ cond two (grid_of s ∷ []) []

-- the part and the copy, where the card has them
abbrev pub group_list : Bool → Contour → List ℕ
group_list parts c = cond parts (c.part ∷ c.copy ∷ []) []

-- a contour's fields, the coordinates of the vertices that it has, and behind them the part and the copy
abbrev pub contour_list : Bool → Contour → List ℕ
contour_list parts c =
    c.id ∷ c.tag ∷ c.vertices ∷ c.kind ∷ c.filler
    ∷ (take (2 * min c.vertices vertex_limit) c.coordinates ++ group_list parts c)

abbrev pub pair_list : Pair → List ℕ
pair_list p = p.before_id ∷ p.before_tag ∷ p.after_id ∷ p.after_tag ∷ []

-- so many contours, from contour k on, and so many pairs, from pair q on
unfoldable pub contours_read : List ℕ → ℕ → ℕ → List ℕ
contours_read s k zero = []
contours_read s k (suc n) = contour_list (is_two s) (contour_read s k) ++ contours_read s (suc k) n

unfoldable pub pairs_read : List ℕ → ℕ → ℕ → List ℕ
pairs_read s q zero = []
pairs_read s q (suc m) = pair_list (pair_read s q) ++ pairs_read s (suc q) m

-- the whole card
unfoldable pub card_read : List ℕ → List ℕ
unfolding contours_read pairs_read
card_read s = head_read (is_two s) s ++ (contours_read s 0 (contours_of s) ++ pairs_read s 0 (pairs_of s))
