-- A card's head, a contour and a pair, field by field as `fields` reads them, and the widths of their fields in file
-- order. Assumes nothing.
use Rattle.std.specs.Prelude.{List, [], ◌∷◌, ◌++◌, ℕ, zero, suc, ◌+◌, ◌*◌, ◌-◌, min, length, replicate}
use Rattle.block.specs.Field.{u64_at}
use Rattle.fields.specs.Limits.{vertex_limit}
use Rattle.fields.specs.Layout.{job_of, contours_of, pairs_of, per_contour_of, passes_of, move_limit_of, home_offset, exterior_of}
use Rattle.fields.specs.Layout.{interior_of, id_of, tag_of, vertex_count_of, type_of, filler_of, vertex_offset, part_of, copy_of}
use Rattle.fields.specs.Layout.{before_id_of, before_tag_of, after_id_of, after_tag_of}
use Rattle.reader.specs.declared.Width.{Width}
use Rattle.reader.specs.declared.Width.TheVariants.{One, Two, Four, Eight}
use Rattle.reader.specs.declared.Head.{Head}
use Rattle.reader.specs.declared.ContourHead.{ContourHead}
use Rattle.reader.specs.declared.Group.{Group}
use Rattle.reader.specs.declared.Contour.{Contour}
use Rattle.reader.specs.declared.Pair.{Pair}
use Rattle.reader.specs.Walk.{eights}

-- ---- the head

-- the head as it is read
unfoldable pub head_of : List ℕ → Head
head_of s = record {
  job = job_of s;
  contours = contours_of s;
  pairs = pairs_of s;
  candidates = per_contour_of s;
  passes = passes_of s;
  moves = move_limit_of s;
  x = u64_at s home_offset;
  y = u64_at s (home_offset + 8);
  exterior = exterior_of s;
  interior = interior_of s;
}

abbrev pub head_widths : List Width
head_widths = Four ∷ Two ∷ Two ∷ Two ∷ Two ∷ Four ∷ Eight ∷ Eight ∷ One ∷ One ∷ []

-- the byte that asks for the grid, behind them in version 2
abbrev pub grid_widths : List Width
grid_widths = One ∷ []

-- a head's fields in the order of the file
abbrev pub head_list : Head → List ℕ
head_list h =
    h.job ∷ h.contours ∷ h.pairs ∷ h.candidates ∷ h.passes ∷ h.moves ∷ h.x ∷ h.y ∷ h.exterior ∷ h.interior
    ∷ []

-- ---- a contour

-- the five fields of contour k that stand before its vertices, and the place after them
unfoldable pub contour_head : List ℕ → ℕ → ContourHead
contour_head s k = record {
  id = id_of s k;
  tag = tag_of s k;
  vertices = vertex_count_of s k;
  kind = type_of s k;
  filler = filler_of s k;
  after = min (vertex_offset k 0) (length s);
}

-- the coordinates of so many vertices of contour k, from vertex j on
unfoldable pub coordinates_from : List ℕ → ℕ → ℕ → ℕ → List ℕ
coordinates_from s k j zero = []
coordinates_from s k j (suc v) =
    u64_at s (vertex_offset k j) ∷ u64_at s (vertex_offset k j + 8) ∷ coordinates_from s k (suc j) v

-- as many places as the most vertices have coordinates, the rest of them zero
unfoldable pub filled : List ℕ → List ℕ
filled l = l ++ replicate (2 * vertex_limit - length l) 0

-- the part and the copy of contour k
unfoldable pub group_of : List ℕ → ℕ → Group
group_of s k = record { part = part_of s k; copy = copy_of s k }

-- contour k as it is read
unfoldable pub contour_read : List ℕ → ℕ → Contour
unfolding coordinates_from filled
contour_read s k = record {
  id = id_of s k;
  tag = tag_of s k;
  vertices = vertex_count_of s k;
  kind = type_of s k;
  filler = filler_of s k;
  coordinates = filled (coordinates_from s k 0 (min (vertex_count_of s k) vertex_limit));
  part = part_of s k;
  copy = copy_of s k;
}

-- the five fields, then two coordinates a vertex
abbrev pub contour_widths : ℕ → List Width
contour_widths v = Four ∷ Four ∷ Two ∷ One ∷ One ∷ eights (2 * v)

-- the part and the copy, where the card has them
abbrev pub group_widths : List Width
group_widths = Four ∷ Four ∷ []

-- ---- a pair

-- pair q as it is read
unfoldable pub pair_read : List ℕ → ℕ → Pair
pair_read s q = record {
  before_id = before_id_of s q;
  before_tag = before_tag_of s q;
  after_id = after_id_of s q;
  after_tag = after_tag_of s q;
}

abbrev pub pair_widths : List Width
pair_widths = Four ∷ Four ∷ Four ∷ Four ∷ []
