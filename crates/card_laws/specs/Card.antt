-- What a card says, as a record of its fields; and the facts that hold of every card that is fine. Assumes nothing.
use Rattle.std.specs.Prelude.{◌≡◌, ◌⊎◌, Bool, false, List, [], ◌∷◌, ◌++◌, ℕ, zero, suc, ◌*◌, ◌≤◌, ◌<◌, length}
use Rattle.answer.specs.declared.Point.{Point}
use Rattle.answer.specs.declared.ContourType.{ContourType}
use Rattle.answer.specs.declared.CutDirectionPreference.{CutDirectionPreference}
use Rattle.block.specs.Block.{block_bytes}
use Rattle.points.specs.Bad.{bad_point}
use Rattle.closure.specs.Limits.{contour_limit, pair_limit}
use Rattle.closure.specs.Cycle.{Acyclic}
use Rattle.fields.specs.Limits.{per_contour_limit, candidate_limit, pass_limit, vertex_limit}
use Rattle.fields.specs.Layout.{version_of, job_of, contours_of, pairs_of, per_contour_of, passes_of, move_limit_of, home_offset}
use Rattle.fields.specs.Layout.{exterior_of, interior_of, grid_of, asks_grid, id_of, tag_of, vertex_count_of, type_of}
use Rattle.fields.specs.Layout.{part_of, copy_of, vertex_offset, before_id_of, before_tag_of, after_id_of, after_tag_of}
use Rattle.fields.specs.Values.{as_type, as_preference, point_at}
use Rattle.card.specs.Stages.{blocks_due, before_of, after_of}
use Rattle.card.specs.Names.{pairs_on}

-- a contour: who it is, what it is, its corners in order, and of which part and copy it is
pub record Contour : Type 0 where
  pub id : ℕ
  pub tag : ℕ
  pub kind : ContourType
  pub vertices : List Point
  pub part : ℕ
  pub copy : ℕ

-- one contour is cut before another; each is named by id and tag
pub record Pair : Type 0 where
  pub before-id : ℕ
  pub before-tag : ℕ
  pub after_id_lem : ℕ
  pub after_tag : ℕ

-- `grid`: whether candidates are to be moved to the grid, which only version 2 can ask
pub record Card : Type 0 where
  pub version : ℕ
  pub job : ℕ
  pub per_contour_lem : ℕ
  pub passes : ℕ
  pub move_limit_lem : ℕ
  pub home : Point
  pub exterior : CutDirectionPreference
  pub interior : CutDirectionPreference
  pub grid : Bool
  pub contours : List Contour
  pub pairs : List Pair

-- f of each number below n, in order
unfoldable pub tabulated : {A : Type 0} → (ℕ → A) → ℕ → List A
tabulated f zero = []
tabulated f (suc n) = tabulated f n ++ (f n ∷ [])

abbrev pub contour_of : List ℕ → ℕ → Contour
contour_of s k =
    record {
      id = id_of s k;
      tag = tag_of s k;
      kind = as_type (type_of s k);
      vertices = tabulated (λ j. point_at s (vertex_offset k j)) (vertex_count_of s k);
      part = part_of s k;
      copy = copy_of s k;
    }

abbrev pub pair_of : List ℕ → ℕ → Pair
pair_of s q =
    record {
      before-id = before_id_of s q;
      before-tag = before_tag_of s q;
      after_id_lem = after_id_of s q;
      after_tag = after_tag_of s q;
    }

-- what the bytes say
abbrev pub card_of : List ℕ → Card
card_of s =
    record {
      version = version_of s;
      job = job_of s;
      per_contour_lem = per_contour_of s;
      passes = passes_of s;
      move_limit_lem = move_limit_of s;
      home = point_at s home_offset;
      exterior = as_preference (exterior_of s);
      interior = as_preference (interior_of s);
      grid = asks_grid s;
      contours = tabulated (contour_of s) (contours_of s);
      pairs = tabulated (pair_of s) (pairs_of s);
    }

-- ---- what every fine card has

-- a contour that a pair names: there is one, it is the one with that id, and its tag is the pair's
pub record Names (s : List ℕ) (id tag k : ℕ) : Type 0 where
  pub is_contour : k < contours_of s
  pub same_id : id_of s k ≡ id
  pub same_tag : tag_of s k ≡ tag

pub record Accepted (s : List ℕ) : Type 0 where
  pub whole : length s ≡ block_bytes * blocks_due s
  pub version_known : (version_of s ≡ 1) ⊎ (version_of s ≡ 2)
  pub few_contours : contours_of s ≤ contour_limit
  pub few_pairs : pairs_of s ≤ pair_limit
  pub some_candidates : 1 ≤ per_contour_of s
  pub few_candidates : per_contour_of s ≤ per_contour_limit
  pub few_in_all : contours_of s * per_contour_of s ≤ candidate_limit
  pub few_passes : passes_of s ≤ pass_limit
  pub exterior_known : exterior_of s ≤ 2
  pub interior_known : interior_of s ≤ 2
  pub grid_known : grid_of s ≤ 1
  pub some_vertices : (k : ℕ) → k < contours_of s → 1 ≤ vertex_count_of s k
  pub few_vertices : (k : ℕ) → k < contours_of s → vertex_count_of s k ≤ vertex_limit
  pub type_known : (k : ℕ) → k < contours_of s → type_of s k ≤ 1
  pub home_near : bad_point (point_at s home_offset) ≡ false
  pub vertex_near : (k j : ℕ) → k < contours_of s → j < vertex_count_of s k
      → bad_point (point_at s (vertex_offset k j)) ≡ false
  pub ids_differ : (j k : ℕ) → j < contours_of s → k < contours_of s → id_of s j ≡ id_of s k → j ≡ k
  pub before_named : (q : ℕ) → q < pairs_of s → Names s (before_id_of s q) (before_tag_of s q) (before_of s q)
  pub after_named : (q : ℕ) → q < pairs_of s → Names s (after_id_of s q) (after_tag_of s q) (after_of s q)
  pub acyclic : Acyclic (contours_of s) (pairs_on s)
