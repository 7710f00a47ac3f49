-- The start of a card s that no pair binds. Assumes nothing.
use Rattle.std.specs.Prelude.{List, [], ℕ, replicate}
use Rattle.answer.specs.Answer.{Answer, unless}
use Rattle.closure.specs.Limits.{contour_limit}
use Rattle.fields.specs.Layout.{contours_of}
use Rattle.card.specs.Verdict.{check_of}
use Rattle.start.specs.Nearest.{nearest}
use Rattle.start.specs.Code.{ground_of}
use Rattle.answer.specs.Room.{listed}
use Rattle.improve.specs.Search.{Chart}
use Rattle.instance.specs.Search.{chart_on}
use Rattle.answer.specs.declared.Listed.{Listed}

-- the start over n contours where none waits for another
abbrev pub nearest_in : Chart → ℕ → List ℕ
nearest_in chart n = nearest (ground_of chart.home chart.table chart.t chart.first []) n

unfoldable pub nearest_on : List ℕ → List ℕ
nearest_on s = nearest_in (chart_on s) (contours_of s)

-- a room for a stop a contour
abbrev pub no_stops : List ℕ
no_stops = replicate contour_limit 0

-- `solve_nn`
unfoldable pub nearest_of : List ℕ → Answer (Listed ℕ contour_limit)
unfolding nearest_on
nearest_of s = unless (check_of s) (listed contour_limit 0 (nearest_on s))
