-- A card's candidates, contour after contour: s is the card, k a contour, each from 0. Assumes nothing.
use Rattle.std.specs.Prelude.{Bool, cond, ◌&&◌, List, [], ◌∷◌, ◌++◌, ℕ, zero, suc, ◌*◌, min, ltb, leb, length, replicate}
use Rattle.answer.specs.declared.Point.{Point}
use Rattle.answer.specs.declared.CutDirection.{CutDirection}
use Rattle.candidates.specs.declared.Candidate.{Candidate}
use Rattle.candidates.specs.Direction.{direction_of}
use Rattle.candidates.specs.Generate.{candidates_of}
use Rattle.closure.specs.Limits.{contour_limit}
use Rattle.fields.specs.Limits.{per_contour_limit, candidate_limit, vertex_limit}
use Rattle.fields.specs.Layout.{contours_of, per_contour_of, exterior_of, interior_of, asks_grid, vertex_count_of, type_of}
use Rattle.fields.specs.Layout.{vertex_offset}
use Rattle.fields.specs.Values.{as_type, as_preference, point_at}

-- the first so many vertices of contour k
unfoldable pub vertices_of : List ℕ → ℕ → ℕ → List Point
vertices_of s k zero = []
vertices_of s k (suc j) = vertices_of s k j ++ (point_at s (vertex_offset k j) ∷ [])

-- a contour's vertices; no accepted card has more of them than the limit
unfoldable pub outline_of : List ℕ → ℕ → List Point
unfolding vertices_of
outline_of s k = vertices_of s k (min (vertex_count_of s k) vertex_limit)

-- which way round a contour is cut
abbrev pub way_of : List ℕ → ℕ → CutDirection
way_of s k = direction_of (as_type (type_of s k)) (as_preference (exterior_of s)) (as_preference (interior_of s))

-- a contour's candidates, on the grid where the card asks for it
unfoldable pub offers_of : List ℕ → ℕ → List Candidate
unfolding outline_of
offers_of s k = candidates_of (asks_grid s) (way_of s k) (outline_of s k) (per_contour_of s)

-- the candidates of the first so many contours, one contour after the other: a candidate's number is its place here
unfoldable pub gathered : List ℕ → ℕ → List Candidate
unfolding offers_of
gathered s zero = []
gathered s (suc k) = gathered s k ++ offers_of s k

-- the contour of each candidate
unfoldable pub owners : List ℕ → ℕ → List ℕ
unfolding offers_of
owners s zero = []
owners s (suc k) = owners s k ++ replicate (length (offers_of s k)) k

-- the number of each contour's first candidate, and at the end how many candidates there are
unfoldable pub firsts : List ℕ → ℕ → List ℕ
unfolding gathered
firsts s zero = 0 ∷ []
firsts s (suc k) = firsts s k ++ (length (gathered s (suc k)) ∷ [])

-- n contours with c candidates each can be held where there is room for so many contours
abbrev pub room_for_within : ℕ → ℕ → ℕ → Bool
room_for_within contours n c = leb n contours && (ltb 0 c && (leb c per_contour_limit && leb (n * c) candidate_limit))

-- how many contours are gathered: all, or none where the head asks for more than can be held; no accepted card's does
abbrev pub held_within : ℕ → List ℕ → ℕ
held_within contours s = cond (room_for_within contours (contours_of s) (per_contour_of s)) (contours_of s) 0

abbrev pub room_for : ℕ → ℕ → Bool
room_for n c = room_for_within contour_limit n c

abbrev pub held_of : List ℕ → ℕ
held_of s = held_within contour_limit s
