-- What a reader from before says of every sound card, and that what it refuses gets no tour. Assumes nothing.
use Rattle.std.specs.Prelude.{None, Ok, Some}
use mathlib.Core.Path.{◌≡◌, refl, ◌∙◌}
use mathlib.Core.Bool.{false}
use mathlib.Core.List.{List}
use Prim.Native.Nat.{ℕ, zero, suc, ◌≤◌, ◌<◌}
use native.Mathlib.Omega.{arith}
use borrow.Author.Tests.{lt-ltb, le-ltb}
use lib.Dec.{lit<}
use lib.ListN.{length, get_or}
use Rattle.answer.specs.Stage.{first_refusal}
use Rattle.answer.proofs.LowestLaws.{at_is}
use Rattle.answer.proofs.StageLaws.{is_fine}
use Rattle.fields.specs.Layout.{contours_of, pairs_of}
use Rattle.card.specs.Limits.{today, before}
use Rattle.card.specs.Stages.{length_fault_within, check_fault, start_fault, head_faults_within, head_fault_within}
use Rattle.card.specs.Verdict.{stages_within, check_within, check_of}
use Rattle.card.proofs.FaultLaws.{too_long}
use Rattle.card.proofs.GroupLaws.{fine_absent}
use Rattle.card_laws.proofs.Facts.{accepted}
use Rattle.tour.specs.Tour.{tour_check_within, tour_within}
use Rattle.filed.specs.Before.{Raised, Longest, Refuses, NotLarger, Longer, MoreContours, MorePairs, NoTour}
use Rattle.filed.specs.Before.{Reads, Claim}
use Rattle.filed.proofs.LimitLaws.{Passes, Small, passes, small, one_verdict, one_head, one_cycle, length_again}

module _ (s : List ℕ) (fine : check_of s ≡ Ok tt) where
  now : Passes today s
  now = passes today s fine

  short_fine : length s ≤ before.bytes → length_fault_within before.bytes s ≡ None
  short_fine h = length_again today.bytes before.bytes s now.length_fine h

  short : contours_of s ≤ before.contours → pairs_of s ≤ before.pairs → length s ≤ before.bytes
  short n m = let whole = (accepted s fine).whole in omega arith

  not_larger : NotLarger s
  not_larger n m =
      let here : Small before s = record { contours = n; pairs = m } in
      let there = small today s now.head_fine in
      one_verdict before today s (record {
        length_fine = short_fine (short n m);
        head_fine = one_head before today s here there ∙ now.head_fine;
        cycle_fine = one_cycle before today s here there ∙ now.cycle_fine;
      }) now ∙ fine

  longer : Longer s
  unfolding check_within
  longer h = rw (← too_long before.bytes s h)

  -- the stages between the length and the head name no limit
  checks_fine : check_fault s ≡ None
  unfolding check_within
  checks_fine = fine_absent 2 (check_fault s) (is_fine (stages_within today s) fine 1 (lit< tt))

  start_fine : start_fault s 1 ≡ None
  unfolding check_within
  start_fine = fine_absent 3 (start_fault s 1) (is_fine (stages_within today s) fine 2 (lit< tt))

  at_field : (f : ℕ) → length s ≤ before.bytes → head_fault_within before.contours before.pairs s ≡ Some f
      → Refuses s 4 f
  unfolding check_within
  at_field f h e = rw (short_fine h, checks_fine, start_fine, e)

  first_field : before.contours < contours_of s → head_fault_within before.contours before.pairs s ≡ Some 1
  unfolding head_fault_within
  first_field n =
      at_is (λ f. get_or (head_faults_within before.contours before.pairs s) f false) 9 1
      (record { within = lit< tt; holds = lt-ltb before.contours (contours_of s) n; before = none })
    where
      none : (j : ℕ) → j < 1 → get_or (head_faults_within before.contours before.pairs s) j false ≡ false
      none zero h = refl
      none (suc j) h = absurd (omega arith)

  second_field : contours_of s ≤ before.contours → before.pairs < pairs_of s
      → head_fault_within before.contours before.pairs s ≡ Some 2
  unfolding head_fault_within
  second_field n m =
      at_is (λ f. get_or (head_faults_within before.contours before.pairs s) f false) 9 2
      (record { within = lit< tt; holds = lt-ltb before.pairs (pairs_of s) m; before = none })
    where
      none : (j : ℕ) → j < 2 → get_or (head_faults_within before.contours before.pairs s) j false ≡ false
      none zero h = refl
      none (suc zero) h = le-ltb before.contours (contours_of s) n
      none (suc (suc j)) h = absurd (omega arith)

  more_contours : MoreContours s
  more_contours h n = at_field 1 h (first_field n)

  more_pairs : MorePairs s
  more_pairs h n m = at_field 2 h (second_field n m)

  reads : Reads s
  reads = record { not_larger = not_larger; longer = longer; more_contours = more_contours; more_pairs = more_pairs }

no_tour : (s : List ℕ) → NoTour s
unfolding tour_within tour_check_within first_refusal
no_tour s r e room table = rw e

raised : Raised
raised = record { bytes = (refl, refl); contours = (refl, refl); pairs = (refl, refl) }

longest-today : Longest today
longest-today = refl

longest-before : Longest before
longest-before = refl

pub claim : Claim
claim = record {
  raised = raised;
  longest-today = longest-today;
  longest-before = longest-before;
  reads = reads;
  no_tour = no_tour;
}
