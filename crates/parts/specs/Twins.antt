-- A version 2 card that asks for no grid and whose contours have no part, and its twin: the same card of version 1.
-- Assumes nothing.
use Rattle.std.specs.Prelude.{◌≡◌, List, ℕ, ◌+◌, ◌*◌, ◌≤◌, ◌<◌, length, Float}
use Rattle.answer.specs.Code.{code_of}
use Rattle.block.specs.Field.{byte_at, u32_at}
use Rattle.block.specs.Block.{block_bytes, payload_bytes, check_offset, check_at}
use Rattle.fields.specs.Layout.{blocks_of, payload, contours_of, grid_of, part_of, part_offset}
use Rattle.card.specs.Verdict.{check_of}
use Rattle.instance.specs.Prepared.{prepared_of}
use Rattle.tour.specs.Tour.{tour_of}
use Rattle.questions.specs.Order.{evaluated}
use Rattle.questions.specs.Index.{picked_of, located_of, global_of}
use Rattle.questions.specs.Nearest.{nearest_of}
use Rattle.list.specs.Lines.{list_of}
use Rattle.host.specs.Hosts.{host_tour, host_place}

-- byte p of block b is the version, one of the check or, in a contour's block, one of the part or the copy
pub data Own (s : List ℕ) (b p : ℕ) : Type 0 where
  of_version : p ≡ 1 → Own s b p
  of_check : check_offset ≤ p → Own s b p
  of_part : 0 < b → b ≤ contours_of s → 8 + part_offset ≤ p → Own s b p

-- every check of a file is the one due
abbrev pub ChecksDue : List ℕ → Type 0
ChecksDue s = (b : ℕ) → b < blocks_of s → check_at s (block_bytes * b) ≡ u32_at s (block_bytes * b + check_offset)

-- every block of a file is of this version
abbrev pub AllOf : ℕ → List ℕ → Type 0
AllOf version s = (b : ℕ) → b < blocks_of s → byte_at s (block_bytes * b + 1) ≡ version

-- s is of version 2, asks for no grid and no contour has a part; t is the same of version 1, with zeros for part and
-- copy, each with the checks due. The byte that would ask is shared, so t has a zero there too
pub record Twins (s t : List ℕ) : Type 0 where
  pub some_block : 0 < blocks_of s
  pub as_long : length t ≡ length s
  pub shared : (b p : ℕ) → p < block_bytes → (Own s b p → ⊥)
      → byte_at t (block_bytes * b + p) ≡ byte_at s (block_bytes * b + p)
  pub two : AllOf 2 s
  pub one : AllOf 1 t
  pub checks : ChecksDue s × ChecksDue t
  pub no_grid : grid_of s ≡ 0
  pub no_part : (k : ℕ) → k < contours_of s → part_of s k ≡ 0
  pub zeros : (k p : ℕ) → k < contours_of s → part_offset ≤ p → p < payload_bytes → byte_at t (payload (k + 1) + p) ≡ 0

-- what every door answers of the one it answers of the other. A field is named after its function, and speaks of the
-- definition that the function promises (contracts/specs)
pub record Alike (s t : List ℕ) : Type 0 where
  pub check : check_of s ≡ check_of t
  pub prepare : prepared_of s ≡ prepared_of t
  pub tour : (room : List ℕ) (table : List Float) → tour_of s room table ≡ tour_of t room table
  pub evaluate : (order : List ℕ) → evaluated s order ≡ evaluated t order
  pub candidate : (number : ℕ) → picked_of s number ≡ picked_of t number
  pub global_to_local_lem : (number : ℕ) → located_of s number ≡ located_of t number
  pub local_to_global_lem : (contour within : ℕ) → global_of s contour within ≡ global_of t contour within
  pub solve_nn_lem : nearest_of s ≡ nearest_of t
  pub write_list_lem : list_of s ≡ list_of t
  pub jl_check_lem : code_of (check_of s) ≡ code_of (check_of t)
  pub jl_tour_lem : (room : List ℕ) (moves bits : ℕ) → host_tour s room moves bits ≡ host_tour t room moves bits
  pub jl_place_lem : (candidate contour within : ℕ)
      → host_place (located_of s candidate) contour within ≡ host_place (located_of t candidate) contour within

abbrev pub Claim : Type 0
Claim = (s t : List ℕ) → Twins s t → Alike s t
