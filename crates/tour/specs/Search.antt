-- Where the search on an accepted card s starts, and where it ends. Assumes nothing.
use Rattle.std.specs.Prelude.{List, ℕ}
use Rattle.fields.specs.Layout.{contours_of, passes_of, move_limit_of}
use Rattle.card.specs.Limits.{Limits, today}
use Rattle.improve.specs.Search.{State}
use Rattle.solve.specs.declared.Outcome.{Outcome}
use Rattle.solve.specs.Solve.{start_in_within, end_in_within, outcome_in}
use Rattle.instance.specs.Search.{chart_on}

-- the start that respects the pairs, within these limits
abbrev pub start_within : Limits → List ℕ → List ℕ
start_within l s = start_in_within l.contours (chart_on s) (contours_of s)

-- where the search from it ends
unfoldable pub end_within : Limits → List ℕ → State
unfolding chart_on
end_within l s = end_in_within l.contours (chart_on s) (contours_of s) (passes_of s) (move_limit_of s)

-- what is told of it
abbrev pub outcome_within : Limits → List ℕ → Outcome
outcome_within l s = outcome_in (chart_on s) (end_within l s)

-- ---- within today's

abbrev pub start_on : List ℕ → List ℕ
start_on s = start_within today s

abbrev pub end_on : List ℕ → State
end_on s = end_within today s

-- the tour, and what is told of it
abbrev pub tour_on : List ℕ → List ℕ
tour_on s = (end_on s).tour

abbrev pub outcome_on : List ℕ → Outcome
outcome_on s = outcome_within today s
