-- The verdict is the table's: refused with a number and a place exactly when they are given, fine exactly when no row
-- holds. Assumes nothing.
use Rattle.std.specs.Prelude.{Err, Ok}
use mathlib.Mathlib.Data.Bool.Basic.{eq-false_of_not-eq-true}
use mathlib.Core.Path.{◌≡◌, sym, ◌∙◌}
use mathlib.Core.List.{List, [], ◌∷◌}
use Prim.Native.Nat.{ℕ, ◌≤◌}
use lib.Dec.{lit<}
use borrow.Author.Tests.{ltb-true, ltb-false}
use native.Mathlib.Omega.{arith}
use Rattle.answer.specs.declared.Refusal.{Refusal}
use Rattle.answer.specs.Answer.{Check}
use Rattle.answer.specs.Lowest.{refuse_at}
use Rattle.answer.specs.Stage.{first_refusal}
use Rattle.closure.specs.Limits.{contour_limit}
use Rattle.fields.specs.Layout.{blocks_of, contours_of}
use Rattle.card.specs.Stages.{length_fault, check_fault, start_fault, head_fault, count_fault, contour_fault, spare_fault}
use Rattle.card.specs.Stages.{far_fault, repeat_fault, name_fault, tag_fault}
use Rattle.card.specs.Verdict.{cycle_fault, check_of, check_within}
use Rattle.card_laws.specs.Table.{Row1, Row2, Row3, Row4, Row5, Row6, Row7, Row8, Row9, Row10, Row11, Row12}
use Rattle.card_laws.specs.Table.{contours, Past1, Past2, PastStart, Past4, Past5, PastStarts, Past6, Past7}
use Rattle.card_laws.specs.Table.{Past8, Past9, Past10, Past11, Sound, Given, one, two, three, four, five}
use Rattle.card_laws.specs.Table.{three_later, six, seven, eight, nine, ten, eleven, twelve, Exactly}
use Rattle.card_laws.proofs.ExactLaws.{Exact, stop, on, in_turn, none_here}
use Rattle.card_laws.proofs.RowLaws.{exact1, exact2, exact3, exact4, exact5, exact6, exact9, no_bad_field}
use Rattle.card_laws.proofs.FarRow.{exact8}
use Rattle.card_laws.proofs.PairRows.{exact7, exact10, exact11}
use Rattle.card_laws.proofs.CycleRow.{exact12}

module _ (s : List ℕ) where
  -- ---- the stages that are left from each on

  abbrev from12 : List Check
  from12 = refuse_at 12 (cycle_fault s) ∷ []

  abbrev from11 : List Check
  from11 = refuse_at 11 (tag_fault s) ∷ from12

  abbrev from10 : List Check
  from10 = refuse_at 10 (name_fault s) ∷ from11

  abbrev from9 : List Check
  from9 = refuse_at 9 (repeat_fault s) ∷ from10

  abbrev from8 : List Check
  from8 = refuse_at 8 (far_fault s) ∷ from9

  abbrev from7 : List Check
  from7 = refuse_at 7 (spare_fault s) ∷ from8

  abbrev from6 : List Check
  from6 = refuse_at 6 (contour_fault s) ∷ from7

  abbrev from_starts : List Check
  from_starts = refuse_at 3 (start_fault s (blocks_of s)) ∷ from6

  abbrev from5 : List Check
  from5 = refuse_at 5 (count_fault s) ∷ from_starts

  abbrev from4 : List Check
  from4 = refuse_at 4 (head_fault s) ∷ from5

  abbrev from3 : List Check
  from3 = refuse_at 3 (start_fault s 1) ∷ from4

  abbrev from2 : List Check
  from2 = refuse_at 2 (check_fault s) ∷ from3

  -- ---- what later rows stand on

  pub few : Past4 s → contours_of s ≤ contour_limit
  few past = ltb-false contour_limit (contours_of s) (eq-false_of_not-eq-true
      (λ t. no_bad_field s past.1 1 (lit< tt) (contours (ltb-true _ _ t))))

  pub few_by_11 : Past11 s → contours_of s ≤ contour_limit
  few_by_11 past = few past.0.0.0.0.0.0.0.0

  tags : Past10 s → Exact (tag_fault s) (Row11 s)
  tags past = exact11 s past.0.1 past.1

  cycles : Past11 s → Exact (cycle_fault s) (Row12 s)
  cycles past = exact12 s past.0.0.1 past.0.1 (few_by_11 past)

  -- ---- past the rows up to one, the verdict is what the stages behind it say

  past1 : Past1 s → check_of s ≡ first_refusal from2
  unfolding check_within
  past1 past = on 1 (length_fault s) (Row1 s) (exact1 s) from2 past

  past2 : Past2 s → check_of s ≡ first_refusal from3
  past2 past = past1 past.0 ∙ on 2 (check_fault s) (Row2 s) (exact2 s) from3 past.1

  past_start : PastStart s → check_of s ≡ first_refusal from4
  past_start past = past2 past.0 ∙ on 3 (start_fault s 1) (Row3 s 1) (exact3 s 1) from4 past.1

  past4 : Past4 s → check_of s ≡ first_refusal from5
  past4 past = past_start past.0 ∙ on 4 (head_fault s) (Row4 s) (exact4 s) from5 past.1

  past5 : Past5 s → check_of s ≡ first_refusal from_starts
  past5 past = past4 past.0 ∙ on 5 (count_fault s) (Row5 s) (exact5 s) from_starts past.1

  past-starts : PastStarts s → check_of s ≡ first_refusal from6
  past-starts past =
      past5 past.0 ∙ on 3 (start_fault s (blocks_of s)) (Row3 s (blocks_of s)) (exact3 s (blocks_of s)) from6 past.1

  past6 : Past6 s → check_of s ≡ first_refusal from7
  past6 past = past-starts past.0 ∙ on 6 (contour_fault s) (Row6 s) (exact6 s) from7 past.1

  past7 : Past7 s → check_of s ≡ first_refusal from8
  past7 past = past6 past.0 ∙ on 7 (spare_fault s) (Row7 s) (exact7 s) from8 past.1

  past8 : Past8 s → check_of s ≡ first_refusal from9
  past8 past = past7 past.0 ∙ on 8 (far_fault s) (Row8 s) (exact8 s) from9 past.1

  past9 : Past9 s → check_of s ≡ first_refusal from10
  past9 past = past8 past.0 ∙ on 9 (repeat_fault s) (Row9 s) (exact9 s) from10 past.1

  past10 : Past10 s → check_of s ≡ first_refusal from11
  past10 past = past9 past.0 ∙ on 10 (name_fault s) (Row10 s) (exact10 s) from11 past.1

  past11 : Past11 s → check_of s ≡ first_refusal from12
  past11 past = past10 past.0 ∙ on 11 (tag_fault s) (Row11 s) (tags past.0) from12 past.1

  sound_is_fine : Sound s → check_of s ≡ Ok tt
  unfolding first_refusal
  sound_is_fine sound = past11 sound.0 ∙ on 12 (cycle_fault s) (Row12 s) (cycles sound.0) [] sound.1

  -- ---- what is given is what the verdict tells

  given_is : (number place : ℕ) → Given s number place → check_of s ≡ Err (record { number = number; place = place })
  unfolding check_within
  given_is number place (one row) = stop 1 (length_fault s) (Row1 s) (exact1 s) from2 place row
  given_is number place (two past row) = past1 past ∙ stop 2 (check_fault s) (Row2 s) (exact2 s) from3 place row
  given_is number place (three past row) = past2 past ∙ stop 3 (start_fault s 1) (Row3 s 1) (exact3 s 1) from4 place row
  given_is number place (four past row) = past_start past ∙ stop 4 (head_fault s) (Row4 s) (exact4 s) from5 place row
  given_is number place (five past row) = past4 past ∙ stop 5 (count_fault s) (Row5 s) (exact5 s) from_starts place row
  given_is number place (three_later past row) =
      past5 past ∙ stop 3 (start_fault s (blocks_of s)) (Row3 s (blocks_of s)) (exact3 s (blocks_of s)) from6 place row
  given_is number place (six past row) = past-starts past ∙ stop 6 (contour_fault s) (Row6 s) (exact6 s) from7 place row
  given_is number place (seven past row) = past6 past ∙ stop 7 (spare_fault s) (Row7 s) (exact7 s) from8 place row
  given_is number place (eight past row) = past7 past ∙ stop 8 (far_fault s) (Row8 s) (exact8 s) from9 place row
  given_is number place (nine past row) = past8 past ∙ stop 9 (repeat_fault s) (Row9 s) (exact9 s) from10 place row
  given_is number place (ten past row) = past9 past ∙ stop 10 (name_fault s) (Row10 s) (exact10 s) from11 place row
  given_is number place (eleven past row) = past10 past ∙ stop 11 (tag_fault s) (Row11 s) (tags past) from12 place row
  given_is number place (twelve past row) = past11 past ∙ stop 12 (cycle_fault s) (Row12 s) (cycles past) [] place row

  -- ---- what the verdict tells is given

  told_12 : Past11 s → (r : Refusal) → first_refusal from12 ≡ Err r → Given s r.number r.place
  unfolding first_refusal
  told_12 past =
      in_turn 12 (cycle_fault s) (Row12 s) (cycles past) [] (Given s) (λ p row. twelve past row)
      (λ none r e. let z : ◌≡◌ {A = ℕ} 0 1 = cc in absurd (omega arith))

  told_11 : Past10 s → (r : Refusal) → first_refusal from11 ≡ Err r → Given s r.number r.place
  told_11 past =
      in_turn 11 (tag_fault s) (Row11 s) (tags past) from12 (Given s) (λ p row. eleven past row)
      (λ none. told_12 (past, none))

  told_10 : Past9 s → (r : Refusal) → first_refusal from10 ≡ Err r → Given s r.number r.place
  told_10 past =
      in_turn 10 (name_fault s) (Row10 s) (exact10 s) from11 (Given s) (λ p row. ten past row)
      (λ none. told_11 (past, none))

  told_9 : Past8 s → (r : Refusal) → first_refusal from9 ≡ Err r → Given s r.number r.place
  told_9 past =
      in_turn 9 (repeat_fault s) (Row9 s) (exact9 s) from10 (Given s) (λ p row. nine past row)
      (λ none. told_10 (past, none))

  told_8 : Past7 s → (r : Refusal) → first_refusal from8 ≡ Err r → Given s r.number r.place
  told_8 past =
      in_turn 8 (far_fault s) (Row8 s) (exact8 s) from9 (Given s) (λ p row. eight past row) (λ none. told_9 (past, none))

  told_7 : Past6 s → (r : Refusal) → first_refusal from7 ≡ Err r → Given s r.number r.place
  told_7 past =
      in_turn 7 (spare_fault s) (Row7 s) (exact7 s) from8 (Given s) (λ p row. seven past row)
      (λ none. told_8 (past, none))

  told_6 : PastStarts s → (r : Refusal) → first_refusal from6 ≡ Err r → Given s r.number r.place
  told_6 past =
      in_turn 6 (contour_fault s) (Row6 s) (exact6 s) from7 (Given s) (λ p row. six past row)
      (λ none. told_7 (past, none))

  told-starts : Past5 s → (r : Refusal) → first_refusal from_starts ≡ Err r → Given s r.number r.place
  told-starts past =
      in_turn 3 (start_fault s (blocks_of s)) (Row3 s (blocks_of s)) (exact3 s (blocks_of s)) from6 (Given s)
      (λ p row. three_later past row) (λ none. told_6 (past, none))

  told_5 : Past4 s → (r : Refusal) → first_refusal from5 ≡ Err r → Given s r.number r.place
  told_5 past =
      in_turn 5 (count_fault s) (Row5 s) (exact5 s) from_starts (Given s) (λ p row. five past row)
      (λ none. told-starts (past, none))

  told_4 : PastStart s → (r : Refusal) → first_refusal from4 ≡ Err r → Given s r.number r.place
  told_4 past =
      in_turn 4 (head_fault s) (Row4 s) (exact4 s) from5 (Given s) (λ p row. four past row) (λ none. told_5 (past, none))

  told_3 : Past2 s → (r : Refusal) → first_refusal from3 ≡ Err r → Given s r.number r.place
  told_3 past =
      in_turn 3 (start_fault s 1) (Row3 s 1) (exact3 s 1) from4 (Given s) (λ p row. three past row)
      (λ none. told_4 (past, none))

  told_2 : Past1 s → (r : Refusal) → first_refusal from2 ≡ Err r → Given s r.number r.place
  told_2 past =
      in_turn 2 (check_fault s) (Row2 s) (exact2 s) from3 (Given s) (λ p row. two past row) (λ none. told_3 (past, none))

  told_1 : (r : Refusal) → check_of s ≡ Err r → Given s r.number r.place
  unfolding check_within
  told_1 = in_turn 1 (length_fault s) (Row1 s) (exact1 s) from2 (Given s) (λ p row. one row) told_2

  -- ---- a fine card is past every row

  fine1 : check_of s ≡ Ok tt → Past1 s
  unfolding check_within
  fine1 e = none_here 1 (length_fault s) (Row1 s) (exact1 s) from2 e

  fine2 : check_of s ≡ Ok tt → Past2 s
  fine2 e = (fine1 e, none_here 2 (check_fault s) (Row2 s) (exact2 s) from3 (sym (past1 (fine1 e)) ∙ e))

  fine_start : check_of s ≡ Ok tt → PastStart s
  fine_start e = (fine2 e, none_here 3 (start_fault s 1) (Row3 s 1) (exact3 s 1) from4 (sym (past2 (fine2 e)) ∙ e))

  fine4 : check_of s ≡ Ok tt → Past4 s
  fine4 e = (fine_start e, none_here 4 (head_fault s) (Row4 s) (exact4 s) from5 (sym (past_start (fine_start e)) ∙ e))

  fine5 : check_of s ≡ Ok tt → Past5 s
  fine5 e = (fine4 e, none_here 5 (count_fault s) (Row5 s) (exact5 s) from_starts (sym (past4 (fine4 e)) ∙ e))

  fine_starts : check_of s ≡ Ok tt → PastStarts s
  fine_starts e = (
    fine5 e,
    none_here 3 (start_fault s (blocks_of s)) (Row3 s (blocks_of s)) (exact3 s (blocks_of s)) from6
        (sym (past5 (fine5 e)) ∙ e),
  )

  fine6 : check_of s ≡ Ok tt → Past6 s
  fine6 e = (
    fine_starts e,
    none_here 6 (contour_fault s) (Row6 s) (exact6 s) from7
        (sym (past-starts (fine_starts e)) ∙ e),
  )

  fine7 : check_of s ≡ Ok tt → Past7 s
  fine7 e = (fine6 e, none_here 7 (spare_fault s) (Row7 s) (exact7 s) from8 (sym (past6 (fine6 e)) ∙ e))

  fine8 : check_of s ≡ Ok tt → Past8 s
  fine8 e = (fine7 e, none_here 8 (far_fault s) (Row8 s) (exact8 s) from9 (sym (past7 (fine7 e)) ∙ e))

  fine9 : check_of s ≡ Ok tt → Past9 s
  fine9 e = (fine8 e, none_here 9 (repeat_fault s) (Row9 s) (exact9 s) from10 (sym (past8 (fine8 e)) ∙ e))

  fine10 : check_of s ≡ Ok tt → Past10 s
  fine10 e = (fine9 e, none_here 10 (name_fault s) (Row10 s) (exact10 s) from11 (sym (past9 (fine9 e)) ∙ e))

  fine11 : check_of s ≡ Ok tt → Past11 s
  fine11 e = (fine10 e, none_here 11 (tag_fault s) (Row11 s) (tags (fine10 e)) from12 (sym (past10 (fine10 e)) ∙ e))

  fine_sound : check_of s ≡ Ok tt → Sound s
  fine_sound e = (fine11 e, none_here 12 (cycle_fault s) (Row12 s) (cycles (fine11 e)) [] (sym (past11 (fine11 e)) ∙ e))

pub exactly : (s : List ℕ) → Exactly s
exactly s =
    record {
      refused-if = λ r g. given_is s r.number r.place g;
      refused_only = told_1 s;
      fine_if = sound_is_fine s;
      fine_only = fine_sound s;
    }
