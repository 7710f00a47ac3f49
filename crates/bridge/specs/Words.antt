-- The refusals of a question about bridges in words, each where those before it do not apply, and what the others get;
-- and what the marks and the edges found are. Assumes nothing.
use Rattle.std.specs.Prelude.{◌≡◌, true, false, ◌⊎◌, List, ℕ, suc, ◌+◌, ◌/◌, ◌≤◌, ◌<◌, length, get_or, Float, Err, None, Ok, Some}
use Rattle.std.specs.Float.{nan, binary64}
use Rattle.std.specs.Float.Ieee.{add, lt, le}
use Rattle.answer.specs.declared.Point.{Point}
use Rattle.answer.specs.Answer.{Answer}
use Rattle.fields.specs.Limits.{vertex_limit}
use Rattle.points.specs.Points.{no_ends, points, edges}
use Rattle.points.specs.Numbers.{zero64, tiny}
use Rattle.points.specs.Bad.{bad_at}
use Rattle.candidates.specs.Along.{edge_length, perimeter_of, spot_at}
use Rattle.bridge.specs.Limits.{bridge_limit}
use Rattle.bridge.specs.Lookup.{marks, mark_at, whole_of, falls_on, edge_on, spot_by, spot_on}
use Rattle.bridge.specs.Create.{bridge_at, bridges_at, blank}
use Rattle.bridge.specs.Question.{half_of, finite, Bridges, filled, bridges_of}

-- ---- what is asked of a question

-- the vertices of a contour, a part of one counted
abbrev pub vertex_count : List Float → ℕ
vertex_count numbers = (length numbers + 1) / 2

abbrev pub way_of : List Float → Float
way_of numbers = perimeter_of (points numbers)

-- neither too few vertices nor too many
abbrev pub Sized : List Float → Type 0
Sized numbers = (1 ≤ vertex_count numbers) × (vertex_count numbers ≤ vertex_limit)

-- and none of them bad
abbrev pub Good : List Float → Type 0
Good numbers = (j : ℕ) → j < vertex_count numbers → bad_at numbers j ≡ false

-- a way that is not too short
abbrev pub Long : List Float → Type 0
Long numbers = lt (way_of numbers) tiny ≡ false

-- a width that is finite, above 0, and has its half below the length of the way
pub record Fits (numbers : List Float) (width : Float) : Type 0 where
  pub counts : finite width ≡ true
  pub above : lt zero64 width ≡ true
  pub short : lt (half_of width) (way_of numbers) ≡ true

-- a centre from 0 on and below the length of the way
pub record On (numbers : List Float) (c : Float) : Type 0 where
  pub from : le zero64 c ≡ true
  pub before : lt c (way_of numbers) ≡ true

-- ---- the refusals

-- this refusal
abbrev pub back : ℕ → ℕ → Answer Bridges
back number place = Err (record { number = number; place = place })

pub record Answers (numbers : List Float) (width : Float) (centres : List Float) : Type 0 where
  -- more centres than there may be: 13, whatever else
  pub many : bridge_limit < length centres → bridges_of numbers width centres ≡ back 13 bridge_limit
  -- else too few or too many vertices: 6 at their number
  pub unsized : length centres ≤ bridge_limit → (vertex_count numbers < 1) ⊎ (vertex_limit < vertex_count numbers)
      → bridges_of numbers width centres ≡ back 6 (vertex_count numbers)
  -- else a bad vertex: 8 at the first
  pub bad : length centres ≤ bridge_limit → Sized numbers → (k : ℕ) → k < vertex_count numbers → bad_at numbers k ≡ true
      → ((j : ℕ) → j < k → bad_at numbers j ≡ false) → bridges_of numbers width centres ≡ back 8 k
  -- else too short a way: 18 at 0
  pub short : length centres ≤ bridge_limit → Sized numbers → Good numbers → lt (way_of numbers) tiny ≡ true
      → bridges_of numbers width centres ≡ back 18 0
  -- else a width that does not fit: 18 at 1
  pub unfit : length centres ≤ bridge_limit → Sized numbers → Good numbers → Long numbers → (Fits numbers width → ⊥)
      → bridges_of numbers width centres ≡ back 18 1
  -- else a centre that is not on the way: 18 at 2 more than the number of the first
  pub centre : length centres ≤ bridge_limit → Sized numbers → Good numbers → Long numbers → Fits numbers width
      → (i : ℕ) → i < length centres → (On numbers (get_or centres i nan) → ⊥)
      → ((j : ℕ) → j < i → On numbers (get_or centres j nan)) → bridges_of numbers width centres ≡ back 18 (2 + i)
  -- else the bridges; of no centres none
  pub fine : length centres ≤ bridge_limit → Sized numbers → Good numbers → Long numbers → Fits numbers width
      → ((j : ℕ) → j < length centres → On numbers (get_or centres j nan))
      → bridges_of numbers width centres
      ≡ Ok (filled (bridges_at (points numbers) (marks (points numbers)) (half_of width) centres))

-- ---- the places of an answer

-- there are as many places as there may be bridges; place i has centre i's bridge, and from the count
-- on they are blank
pub record Places (ps : List Point) (half : Float) (centres : List Float) : Type 0 where
  pub size : length centres ≤ bridge_limit → length (filled (bridges_at ps (marks ps) half centres)).items ≡ bridge_limit
  pub count : (filled (bridges_at ps (marks ps) half centres)).count ≡ length centres
  pub bridge : (i : ℕ) → i < length centres
      → get_or (filled (bridges_at ps (marks ps) half centres)).items i blank
      ≡ bridge_at ps (marks ps) half (get_or centres i nan)
  pub spare : (i : ℕ) → length centres ≤ i → get_or (filled (bridges_at ps (marks ps) half centres)).items i blank ≡ blank

-- ---- the lookups

-- the marks are the sums of the edges' lengths, and the last one is the perimeter
pub record Looked (ps : List Point) : Type 0 where
  pub long : length (marks ps) ≡ suc (length ps)
  pub first : mark_at (marks ps) 0 ≡ zero64
  pub next : (k : ℕ) → k < length ps
      → mark_at (marks ps) (suc k) ≡ add binary64 (mark_at (marks ps) k) (edge_length (get_or (edges ps) k no_ends))
  pub whole : whole_of (marks ps) ≡ perimeter_of ps
  -- the first edge that a distance falls on, or none
  pub on : (d : Float) (k : ℕ) → k < length ps → falls_on (marks ps) d k ≡ true
      → ((j : ℕ) → j < k → falls_on (marks ps) d j ≡ false) → edge_on (marks ps) d ≡ Some k
  pub off : (d : Float) → ((j : ℕ) → j < length ps → falls_on (marks ps) d j ≡ false) → edge_on (marks ps) d ≡ None
  -- the edge told is one of the contour's, whatever the distance
  pub within : 0 < length ps → (distance : Float) → (spot_on ps (marks ps) distance).vertex < length ps
  -- and it is the vertex that a candidate there would have
  pub edge : (d : Float) → (spot_by ps (marks ps) d (edge_on (marks ps) d)).vertex ≡ (spot_at ps d).vertex

abbrev pub Claim : Type 0
Claim =
    ((numbers : List Float) (width : Float) (centres : List Float) → Answers numbers width centres)
    × ((ps : List Point) (half : Float) (centres : List Float) → Places ps half centres)
    × ((ps : List Point) → Looked ps)
