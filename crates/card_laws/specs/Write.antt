-- A card's bytes, from what it says: the other way round than reading, for examples. Assumes nothing.
use Rattle.std.specs.Prelude.{Bool, cond, List, [], ◌∷◌, ◌++◌, ℕ, zero, suc, ◌+◌, ◌-◌, ◌/◌, eqb, length, take, drop, Float}
use Rattle.std.specs.Float.{binary64}
use Rattle.std.specs.Float.Ieee.{to_bits}
use Rattle.answer.specs.declared.Point.{Point}
use Rattle.answer.specs.declared.ContourType.{ContourType}
use Rattle.answer.specs.declared.ContourType.TheVariants.{Exterior, Interior}
use Rattle.answer.specs.declared.CutDirectionPreference.{CutDirectionPreference}
use Rattle.answer.specs.declared.CutDirectionPreference.TheVariants.{Ccw, Cw, Auto}
use Rattle.answer.specs.Room.{padded}
use Rattle.block.specs.Write.{bytes, block_of}
use Rattle.fields.specs.Limits.{pairs_a_block}
use Rattle.fields.specs.Layout.{part_offset}
use Rattle.card_laws.specs.Card.{Contour, Pair, Card}

unfoldable pub number_bytes : Float → List ℕ
unfolding bytes to_bits
number_bytes x = bytes 8 (to_bits binary64 x)

unfoldable pub point_bytes : Point → List ℕ
unfolding number_bytes
point_bytes p = number_bytes p.x ++ number_bytes p.y

abbrev pub preference_byte : CutDirectionPreference → ℕ
preference_byte Ccw = 0
preference_byte Cw = 1
preference_byte Auto = 2

abbrev pub type_byte : ContourType → ℕ
type_byte Exterior = 0
type_byte Interior = 1

-- in version 2 the byte that asks for the grid stands behind the fields of both versions; version 1 has no place for
-- it, so a card of version 1 that asks is not what is read back
abbrev pub grid_bytes : ℕ → Bool → List ℕ
grid_bytes version asked = cond (eqb version 2) (cond asked 1 0 ∷ []) []

unfoldable pub head_bytes : Card → List ℕ
unfolding bytes point_bytes
head_bytes c =
    bytes 4 c.job ++ bytes 2 (length c.contours) ++ bytes 2 (length c.pairs) ++ bytes 2 c.per_contour_lem ++
    bytes 2 c.passes
    ++ bytes 4 c.move_limit_lem ++ point_bytes c.home ++ preference_byte c.exterior ∷ preference_byte c.interior
    ∷ grid_bytes c.version c.grid

-- points one after the other
unfoldable pub points_bytes : List Point → List ℕ
unfolding point_bytes
points_bytes [] = []
points_bytes (p ∷ more) = point_bytes p ++ points_bytes more

-- a contour's fields up to its last vertex
unfoldable pub front_bytes : Contour → List ℕ
unfolding bytes points_bytes
front_bytes c =
    bytes 4 c.id ++ bytes 4 c.tag ++ bytes 2 (length c.vertices) ++ type_byte c.kind ∷ 0
    ∷ points_bytes c.vertices

-- in version 2 its part and copy stand behind them, at 492
unfoldable pub contour_bytes : ℕ → Contour → List ℕ
unfolding bytes front_bytes
contour_bytes version c =
    cond (eqb version 2) (padded part_offset 0 (front_bytes c) ++ bytes 4 c.part ++ bytes 4 c.copy) (front_bytes c)

-- the contours' blocks, from a block number on
unfoldable pub contour_blocks : ℕ → ℕ → List Contour → List ℕ
unfolding block_of contour_bytes
contour_blocks version b [] = []
contour_blocks version b (c ∷ more) =
    block_of 2 version b (contour_bytes version c) ++ contour_blocks version (suc b) more

unfoldable pub pair_bytes : List Pair → List ℕ
unfolding bytes
pair_bytes [] = []
pair_bytes (p ∷ more) =
    bytes 4 p.before-id ++ bytes 4 p.before-tag ++ bytes 4 p.after_id_lem ++ bytes 4 p.after_tag ++ pair_bytes
    more

-- so many blocks of pairs, from a block number on
unfoldable pub pair_blocks : ℕ → ℕ → ℕ → List Pair → List ℕ
unfolding block_of pair_bytes
pair_blocks version zero b l = []
pair_blocks version (suc k) b l =
    block_of 3 version b (pair_bytes (take pairs_a_block l)) ++ pair_blocks version k (suc b) (drop pairs_a_block l)

unfoldable pub written : Card → List ℕ
unfolding block_of head_bytes contour_blocks pair_blocks
written c =
    let pages = (length c.pairs + (pairs_a_block - 1)) / pairs_a_block in
    block_of 1 c.version 0 (head_bytes c) ++ contour_blocks c.version 1 c.contours
    ++ pair_blocks c.version pages (suc (length c.contours)) c.pairs
