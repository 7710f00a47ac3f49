-- An order handed in, candidate numbers as bytes, owner the contour of each of t candidates: what is wrong with it, and
-- how long it is on a card s. Assumes nothing.
use Rattle.std.specs.Prelude.{Bool, not, ◌||◌, List, [], ◌∷◌, ℕ, eqb, leb, Float, length, get_or, is_some}
use Rattle.answer.specs.Answer.{Answer, Check, Found, unless}
use Rattle.answer.specs.Lowest.{lowest, refuse_at, refuse_if}
use Rattle.answer.specs.Stage.{first_refusal}
use Rattle.fields.specs.Layout.{contours_of}
use Rattle.card.specs.Verdict.{check_of}
use Rattle.improve.specs.Search.{Chart, owner_of, length_in}
use Rattle.instance.specs.Search.{count_on, owners_on, chart_on}

-- the contour of the stop at position p
abbrev pub stop_at : List ℕ → List ℕ → ℕ → ℕ
stop_at owner order p = owner_of owner (get_or order p 0)

-- its contour was met at an earlier position
abbrev pub met_before : List ℕ → List ℕ → ℕ → Bool
met_before owner order p = is_some (lowest (λ j. eqb (stop_at owner order j) (stop_at owner order p)) p)

-- a number that no candidate has, or a contour met before
abbrev pub bad_stop : List ℕ → ℕ → List ℕ → ℕ → Bool
bad_stop owner t order p = leb t (get_or order p 0) || met_before owner order p

-- the first bad position
unfoldable pub first_bad_stop : List ℕ → ℕ → List ℕ → Found
unfolding lowest
first_bad_stop owner t order = lowest (bad_stop owner t order) (length order)

-- 15: a length other than the number n of contours; else the first bad position
unfoldable pub order_check : ℕ → List ℕ → ℕ → List ℕ → Check
unfolding first_refusal first_bad_stop
order_check n owner t order =
    first_refusal (refuse_if (not (eqb (length order) n)) 15 (length order) ∷ refuse_at 15 (first_bad_stop owner t order)
    ∷ [])

-- the length, unless the check refuses
-- an order on what the search reads, over n contours
abbrev pub measured_in : Chart → ℕ → List ℕ → Answer Float
measured_in chart n order = unless (order_check n chart.owner chart.t order) (length_in chart order)

-- `evaluate`: the card's own refusals come first
unfoldable pub evaluated : List ℕ → List ℕ → Answer Float
unfolding first_refusal order_check
evaluated s order =
    unless (first_refusal (check_of s ∷ order_check (contours_of s) (owners_on s) (count_on s) order ∷ []))
    (length_in (chart_on s) order)
