-- The verdict on any bytes: the first stage that refuses, in the order in which the numbers are looked at. Assumes
-- nothing.
use Rattle.std.specs.Prelude.{List, [], ◌∷◌, ◌++◌, ℕ}
use Rattle.answer.specs.Answer.{Check, Found}
use Rattle.answer.specs.Lowest.{refuse_at}
use Rattle.answer.specs.Stage.{first_refusal}
use Rattle.closure.specs.Limits.{contour_limit}
use Rattle.closure.specs.Cycle.{first_on_cycle_within}
use Rattle.fields.specs.Layout.{blocks_of, contours_of}
use Rattle.card.specs.Limits.{Limits, today}
use Rattle.card.specs.Stages.{length_fault_within, check_fault, start_fault, head_fault_within, count_fault}
use Rattle.card.specs.Stages.{contour_fault}
use Rattle.card.specs.Stages.{spare_fault, far_fault, repeat_fault, name_fault, tag_fault}
use Rattle.card.specs.Rules.{rules_of}
use Rattle.card.specs.Names.{seats_of, pairs_on}

-- 12: the lowest contour that can be reached from itself by pairs, written or by rule
unfoldable pub cycle_fault_within : ℕ → List ℕ → Found
unfolding seats_of rules_of
cycle_fault_within most s = first_on_cycle_within most (contours_of s) (pairs_on s)

abbrev pub cycle_fault : List ℕ → Found
cycle_fault s = cycle_fault_within contour_limit s

-- ---- within any limits

-- what comes before the pairs: the file, its head, the blocks, the contours
abbrev pub card_stages_within : Limits → List ℕ → List Check
card_stages_within l s =
    refuse_at 1 (length_fault_within l.bytes s)
    ∷ refuse_at 2 (check_fault s)
    ∷ refuse_at 3 (start_fault s 1)
    ∷ refuse_at 4 (head_fault_within l.contours l.pairs s)
    ∷ refuse_at 5 (count_fault s)
    ∷ refuse_at 3 (start_fault s (blocks_of s))
    ∷ refuse_at 6 (contour_fault s)
    ∷ refuse_at 7 (spare_fault s)
    ∷ refuse_at 8 (far_fault s)
    ∷ refuse_at 9 (repeat_fault s)
    ∷ []

-- the pairs, once their positions are known
abbrev pub seat_stages_within : Limits → List ℕ → List Check
seat_stages_within l s = refuse_at 11 (tag_fault s) ∷ refuse_at 12 (cycle_fault_within l.contours s) ∷ []

-- the pairs
abbrev pub pair_stages_within : Limits → List ℕ → List Check
pair_stages_within l s = refuse_at 10 (name_fault s) ∷ seat_stages_within l s

-- all of them
abbrev pub stages_within : Limits → List ℕ → List Check
stages_within l s = card_stages_within l s ++ pair_stages_within l s

unfoldable pub check_within : Limits → List ℕ → Check
unfolding first_refusal length_fault_within check_fault start_fault head_fault_within count_fault contour_fault spare_fault
    far_fault repeat_fault name_fault tag_fault cycle_fault_within
check_within l s = first_refusal (stages_within l s)

-- ---- within today's

abbrev pub card_stages : List ℕ → List Check
card_stages s = card_stages_within today s

abbrev pub seat_stages : List ℕ → List Check
seat_stages s = seat_stages_within today s

abbrev pub pair_stages : List ℕ → List Check
pair_stages s = pair_stages_within today s

abbrev pub check_of : List ℕ → Check
check_of s = check_within today s
