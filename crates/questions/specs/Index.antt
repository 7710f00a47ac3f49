-- Index questions on a card s: its own refusals come first. Assumes nothing.
use Rattle.std.specs.Prelude.{List, [], ◌∷◌, ℕ, ◌+◌, ◌-◌, leb, get_or}
use Rattle.answer.specs.Answer.{Answer, Check, Count, unless}
use Rattle.answer.specs.Stage.{first_refusal}
use Rattle.answer.specs.Lowest.{refuse_if}
use Rattle.candidates.specs.declared.Candidate.{Candidate}
use Rattle.candidates.specs.Generate.{blank}
use Rattle.fields.specs.Layout.{contours_of}
use Rattle.card.specs.Verdict.{check_of}
use Rattle.instance.specs.declared.Instance.{Instance}
use Rattle.instance.specs.Search.{candidates_on, count_on, owners_on, firsts_on}
use Rattle.questions.specs.declared.Local.{Local}

-- 15: a candidate number that no candidate has
unfoldable pub number_check : List ℕ → ℕ → Check
unfolding first_refusal
number_check s a = first_refusal (check_of s ∷ refuse_if (leb (count_on s) a) 15 a ∷ [])

-- `candidate`: the candidate with this number
unfoldable pub picked_of : List ℕ → ℕ → Answer Candidate
picked_of s a = unless (number_check s a) (get_or (candidates_on s) a blank)

-- the contour of candidate a, and its number within that contour
abbrev pub place_on : List ℕ → ℕ → Local
place_on s a = record { contour = get_or (owners_on s) a 0; within = a - get_or (firsts_on s) (get_or (owners_on s) a 0) 0 }

-- the same read from what was gathered
abbrev pub place_in : Instance → ℕ → Local
place_in all a = record { contour = get_or all.owner a 0; within = a - get_or all.first (get_or all.owner a 0) 0 }

-- `global_to_local`
unfoldable pub located_of : List ℕ → ℕ → Answer Local
unfolding number_check
located_of s a = unless (number_check s a) (place_on s a)

-- how many candidates contour k has
abbrev pub size_on : List ℕ → ℕ → ℕ
size_on s k = get_or (firsts_on s) (k + 1) 0 - get_or (firsts_on s) k 0

-- 15: a contour that the card does not have; else a candidate that the contour does not have
unfoldable pub local_check : List ℕ → ℕ → ℕ → Check
unfolding first_refusal
local_check s k j = first_refusal (refuse_if (leb (contours_of s) k) 15 k ∷ refuse_if (leb (size_on s k) j) 15 j ∷ [])

-- `local_to_global`: the number over the whole card of candidate j of contour k
unfoldable pub global_of : List ℕ → ℕ → ℕ → Count
unfolding first_refusal local_check
global_of s k j = unless (first_refusal (check_of s ∷ local_check s k j ∷ [])) (get_or (firsts_on s) k 0 + j)
