-- The tour of any bytes, with the rooms lent for it. Assumes nothing.
use Rattle.std.specs.Prelude.{List, [], ◌∷◌, ◌++◌, ℕ, ◌*◌, ltb, length, drop, Float, Err, Ok}
use Rattle.answer.specs.Answer.{Answer, Check}
use Rattle.solve.specs.declared.Outcome.{Outcome}
use Rattle.answer.specs.Stage.{first_refusal}
use Rattle.answer.specs.Lowest.{refuse_if}
use Rattle.fields.specs.Layout.{contours_of}
use Rattle.card.specs.Limits.{Limits, today}
use Rattle.card.specs.Verdict.{check_within}
use Rattle.answer.specs.Room.{placed}
use Rattle.instance.specs.Search.{count_on, table_on}
use Rattle.tour.specs.Search.{end_within, outcome_within}

-- what a call leaves behind: its answer, the tour's room and the table's
pub record Left : Type 0 where
  pub answer : Answer Outcome
  pub room : List ℕ
  pub table : List Float

abbrev pub left : Answer Outcome → List ℕ → List Float → Left
left answer room table = record { answer = answer; room = room; table = table }

-- 13: the tour's room has fewer entries than there are contours; else the table's has fewer than there are distances
unfoldable pub room_check : List ℕ → ℕ → ℕ → Check
unfolding first_refusal
room_check s entries distances =
    let t = count_on s in
    first_refusal (refuse_if (ltb entries (contours_of s)) 13 (contours_of s)
    ∷ refuse_if (ltb distances (t * t)) 13 (t * t) ∷ [])

-- the card's own refusals, within these limits, come first
unfoldable pub tour_check_within : Limits → List ℕ → ℕ → ℕ → Check
unfolding first_refusal room_check
tour_check_within l s entries distances = first_refusal (check_within l s ∷ room_check s entries distances ∷ [])

-- an accepted card: the tour and the distances stand at the front of their rooms, whose rests are kept
abbrev pub toured_within : Limits → List ℕ → List ℕ → List Float → Left
toured_within l s room table =
    left (Ok (outcome_within l s)) (placed (end_within l s).tour room)
    (table_on s ++ drop (count_on s * count_on s) table)

-- a refusal changes nothing
abbrev pub toured_unless : Check → Left → List ℕ → List Float → Left
toured_unless (Ok _) done room table = done
toured_unless (Err r) done room table = left (Err r) room table

-- the tour of any bytes
unfoldable pub tour_within : Limits → List ℕ → List ℕ → List Float → Left
unfolding tour_check_within
tour_within l s room table =
    toured_unless (tour_check_within l s (length room) (length table)) (toured_within l s room table) room table

-- ---- within today's

abbrev pub tour_check : List ℕ → ℕ → ℕ → Check
tour_check s entries distances = tour_check_within today s entries distances

abbrev pub toured : List ℕ → List ℕ → List Float → Left
toured s room table = toured_within today s room table

abbrev pub tour_of : List ℕ → List ℕ → List Float → Left
tour_of s room table = tour_within today s room table
