-- What the search reads of an accepted card s. Assumes nothing.
use Rattle.std.specs.Prelude.{List, ℕ, length, Float}
use Rattle.answer.specs.declared.Point.{Point}
use Rattle.candidates.specs.declared.Candidate.{Candidate}
use Rattle.fields.specs.Layout.{contours_of, home_offset}
use Rattle.fields.specs.Values.{point_at}
use Rattle.card.specs.Names.{pairs_on}
use Rattle.table.specs.Distances.{distances_of, homes_of}
use Rattle.improve.specs.Search.{Chart}
use Rattle.improve.specs.Code.{chart_of}
use Rattle.instance.specs.Gather.{gathered, owners, firsts}

-- where the beam is at first
abbrev pub home_on : List ℕ → Point
home_on s = point_at s home_offset

-- all candidates, and how many there are
abbrev pub candidates_on : List ℕ → List Candidate
candidates_on s = gathered s (contours_of s)

abbrev pub count_on : List ℕ → ℕ
count_on s = length (candidates_on s)

-- the contour of each candidate; the number of each contour's first, and at the end their count
abbrev pub owners_on : List ℕ → List ℕ
owners_on s = owners s (contours_of s)

abbrev pub firsts_on : List ℕ → List ℕ
firsts_on s = firsts s (contours_of s)

-- the distances from home, and those between candidates, row by row
abbrev pub homes_on : List ℕ → List Float
homes_on s = homes_of (candidates_on s) (home_on s)

abbrev pub table_on : List ℕ → List Float
table_on s = distances_of (candidates_on s) (owners_on s)

-- all of that together
unfoldable pub chart_on : List ℕ → Chart
chart_on s = chart_of (homes_on s) (table_on s) (count_on s) (owners_on s) (firsts_on s) (pairs_on s)
