-- The whole search on what is read: the start that respects the pairs, then its improvement. Assumes nothing.
use Rattle.std.specs.Prelude.{◌≡◌, List, ℕ}
use Rattle.answer.specs.Room.{placed}
use Rattle.closure.specs.Limits.{contour_limit}
use Rattle.start.specs.Nearest.{Ground, nearest_within}
use Rattle.improve.specs.Search.{Chart, State, length_in, searched_within}
use Rattle.solve.specs.declared.Outcome.{Outcome}

-- what the start reads of it
abbrev pub ground_in : Chart → Ground
ground_in chart =
    record { home = chart.home; table = chart.table; t = chart.t; first = chart.first; pairs = chart.pairs }

-- the start over n contours, with room for so many
abbrev pub start_in_within : ℕ → Chart → ℕ → List ℕ
start_in_within contours chart n = nearest_within contours (ground_in chart) n

-- where the search from that start ends, after at most so many passes and so many trials
abbrev pub end_in_within : ℕ → Chart → ℕ → ℕ → ℕ → State
end_in_within contours chart n most limit = searched_within contours chart most limit (start_in_within contours chart n)

-- with room for the contours of any card
abbrev pub start_in : Chart → ℕ → List ℕ
start_in chart n = start_in_within contour_limit chart n

abbrev pub end_in : Chart → ℕ → ℕ → ℕ → State
end_in chart n most limit = end_in_within contour_limit chart n most limit

-- what is told of it: the trials, and the length evaluated from the tour held
abbrev pub outcome_in : Chart → State → Outcome
outcome_in chart s = record { moves = s.moves; length = length_in chart s.tour }

-- a search that ended in s told this outcome and left this room
pub record Solved (chart : Chart) (s : State) (room : List ℕ) (r : Outcome) (after : List ℕ) : Type 0 where
  pub told : r ≡ outcome_in chart s
  pub held : after ≡ placed s.tour room
