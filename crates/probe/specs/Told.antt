-- How a door tells an answer: one number, and what is lent afterwards. Assumes nothing.
use Rattle.std.specs.Prelude.{cond, ltb, eqb, get_or, List, [], ◌∷◌, ℕ, Float, Bool, Err, None, Ok, Option, Some}
use Rattle.std.specs.Float.{nan}
use Rattle.answer.specs.Answer.{Answer}
use Rattle.answer.specs.Code.{code_of}
use Rattle.answer.specs.Kinds.{as_type, as_preference}
use Rattle.answer.specs.declared.CutDirection.{CutDirection}
use Rattle.answer.specs.declared.CutDirection.TheVariants as cut
use Rattle.candidates.specs.declared.Candidate.{Candidate}
use Rattle.candidates.specs.Generate.{Candidates}
use Rattle.candidates.specs.Question.{offered_of}
use Rattle.cost.specs.declared.Nearest.{Nearest}

-- an answer: 0, or the refusal
abbrev pub answer_code : {A : Type 0} → Answer A → ℕ
answer_code (Ok x) = 0
answer_code (Err r) = code_of (Err r)

-- what is lent for a part of it, afterwards: a refusal keeps it
abbrev pub told_or : {A B : Type 0} → Answer A → (A → B) → B → B
told_or (Ok x) part kept = part x
told_or (Err r) part kept = kept

-- what is lent for the whole of it
abbrev pub value_or : {A : Type 0} → Answer A → A → A
value_or a kept = told_or a (λ x. x) kept

-- a closest place: 0, 1 where there is none, or the refusal
abbrev pub closest_code : Answer (Option Nearest) → ℕ
closest_code (Ok (Some n)) = 0
closest_code (Ok None) = 1
closest_code (Err r) = code_of (Err r)

-- what is lent for a part of it, afterwards
abbrev pub nearest_or : {A : Type 0} → Answer (Option Nearest) → (Nearest → A) → A → A
nearest_or (Ok (Some n)) part kept = part n
nearest_or (Ok None) part kept = kept
nearest_or (Err r) part kept = kept

-- a verdict: 1 for yes, 0 for no, or the refusal
abbrev pub verdict_code : Answer Bool → ℕ
verdict_code (Ok b) = cond b 1 0
verdict_code (Err r) = code_of (Err r)

-- a direction as a number
abbrev pub way_of : CutDirection → ℕ
way_of cut.Ccw = 0
way_of cut.Cw = 1

-- the candidates of a contour, asked by numbers as on a card: 1 asks for the grid
abbrev pub asked_of : List Float → ℕ → ℕ → ℕ → ℕ → ℕ → Answer Candidates
asked_of numbers c grid kind exterior interior =
    offered_of numbers c (eqb grid 1) (as_type kind) (as_preference exterior) (as_preference interior)

-- never read: all eight places are there
abbrev pub no_candidate : Candidate
no_candidate = record { x = nan; y = nan; end_x = nan; end_y = nan; vertex = 0; direction = cut.Ccw }

-- candidate k; past the eighth the first
abbrev pub nth_of : Candidates → ℕ → Candidate
nth_of found k = get_or found.items (cond (ltb k 8) k 0) no_candidate

-- a candidate's point and end point
abbrev pub place_of : Candidate → List Float
place_of n = n.x ∷ n.y ∷ n.end_x ∷ n.end_y ∷ []
