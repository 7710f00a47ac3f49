-- Stages one after the other, as the code takes them: stopped by one that refuses, or past one that does not. Assumes
-- nothing.
use Rattle.std.specs.Prelude.{Err, None, Ok, Some}
use mathlib.Core.Path.{◌≡◌, refl, ap, ◌∙◌}
use mathlib.Core.Bool.{false}
use mathlib.Core.List.{List, [], ◌∷◌, ◌++◌}
use Prim.Native.Nat.{ℕ, ◌≤◌}
use native.Mathlib.Omega.{arith}
use lib.Dec.{lit<}
use lib.ListN.{get_or}
use borrow.Author.Tests.{ltb-false}
use Rattle.answer.specs.declared.Refusal.{Refusal}
use Rattle.answer.specs.Answer.{Check, Found}
use Rattle.answer.specs.Stage.{or_else, first_refusal}
use Rattle.answer.specs.Lowest.{refuse_at}
use Rattle.answer.proofs.LowestLaws.{is_absent}
use Rattle.answer.proofs.StageLaws.{is_fine}
use Rattle.closure.specs.Limits.{contour_limit, pair_limit}
use Rattle.closure.specs.Cycle.{first_on_cycle}
use Rattle.fields.specs.Layout.{contours_of, pairs_of}
use Rattle.card.specs.Stages.{head_faults_within, head_fault_within, head_fault}
use Rattle.card.specs.Names.{pairs_on}
use Rattle.card.specs.Verdict.{cycle_fault, cycle_fault_within, card_stages, pair_stages, check_of, check_within}

module _ (x a : Check) (more : List Check) (is : a ≡ x) where
  stopped : (r : Refusal) → a ≡ Err r → a ≡ first_refusal (x ∷ more)
  unfolding first_refusal
  stopped r e = rw (← is, e)

  passed : (b : Check) → a ≡ Ok tt → b ≡ first_refusal more → b ≡ first_refusal (x ∷ more)
  unfolding first_refusal
  passed b e f = rw (← is, e) f

pub last_stage : (x a : Check) → a ≡ x → a ≡ first_refusal (x ∷ [])
unfolding first_refusal
last_stage (Ok _) a e = e
last_stage (Err r) a e = e

-- a stage as the code takes it, with the number it refuses with and what its search found: it stops there, lets the
-- next ones go on, or is the last
module _ (number : ℕ) {f g : Found} {a : Check} (made : a ≡ refuse_at number f) (found : f ≡ g) where
  pub stage_is : a ≡ refuse_at number g
  stage_is = made ∙ ap (refuse_at number) found

  pub stops_at : (more : List Check) {r : Refusal} → a ≡ Err r → a ≡ first_refusal (refuse_at number g ∷ more)
  stops_at more e = stopped _ a more stage_is _ e

  pub goes_past : (more : List Check) {b : Check} → a ≡ Ok tt → b ≡ first_refusal more →
      b ≡ first_refusal (refuse_at number g ∷ more)
  goes_past more e rest = passed _ a more stage_is _ e rest

  pub ends_with : a ≡ first_refusal (refuse_at number g ∷ [])
  ends_with = last_stage _ a stage_is

-- ---- the same for a group of stages

in_turn : (xs more : List Check) → first_refusal (xs ++ more) ≡ or_else (first_refusal xs) (first_refusal more)
unfolding first_refusal
in_turn [] more = refl
in_turn (Ok _ ∷ xs) more = in_turn xs more
in_turn (Err r ∷ xs) more = refl

module _ (xs more : List Check) (a : Check) (is : a ≡ first_refusal xs) where
  group_stopped : (r : Refusal) → a ≡ Err r → a ≡ first_refusal (xs ++ more)
  group_stopped r e = rw (in_turn xs more, ← is, e)

  group_passed : (b : Check) → a ≡ Ok tt → b ≡ first_refusal more → b ≡ first_refusal (xs ++ more)
  group_passed b e f = rw (in_turn xs more, ← is, e) f

-- a stage that is fine found nothing
pub fine_absent : (number : ℕ) (f : Found) → refuse_at number f ≡ Ok tt → f ≡ None
fine_absent number (Some k) e = let z : ◌≡◌ {A = ℕ} 0 1 = cc in absurd (omega arith)
fine_absent number None e = refl

-- ---- the counts that the first stages let pass

-- no fault of the head: no more contours and pairs than the limits
pub no_more : (contours pairs : ℕ) (s : List ℕ) → head_fault_within contours pairs s ≡ None
    → (contours_of s ≤ contours) × (pairs_of s ≤ pairs)
unfolding head_fault_within
no_more contours pairs s e =
    let none = is_absent (λ f. get_or (head_faults_within contours pairs s) f false) 9 e in
    (ltb-false _ _ (none 1 (lit< tt)), ltb-false _ _ (none 2 (lit< tt)))

pub few_of_both : (s : List ℕ) → first_refusal (card_stages s) ≡ Ok tt
    → (contours_of s ≤ contour_limit) × (pairs_of s ≤ pair_limit)
few_of_both s e =
    no_more contour_limit pair_limit s (fine_absent 4 (head_fault s) (is_fine (card_stages s) e 3 (lit< tt)))

-- the cycle's stage, from the positions handed in
pub cycle_is : (s p : List ℕ) (n : ℕ) (f : Found) → n ≡ contours_of s → p ≡ pairs_on s → f ≡ first_on_cycle n p
    → f ≡ cycle_fault s
unfolding cycle_fault_within
cycle_is s p n f e h g = g ∙ ap (λ (x : ℕ). first_on_cycle x p) e ∙ ap (first_on_cycle (contours_of s)) h

-- ---- the verdict: what comes before the pairs, then the pairs

module _ (s : List ℕ) (a : Check) (first : a ≡ first_refusal (card_stages s)) where
  pub stages_stop : (r : Refusal) → a ≡ Err r → a ≡ check_of s
  unfolding check_within
  stages_stop r f = group_stopped (card_stages s) (pair_stages s) a first r f

  pub pairs_say : (b : Check) → a ≡ Ok tt → b ≡ first_refusal (pair_stages s) → b ≡ check_of s
  unfolding check_within
  pairs_say b e f = group_passed (card_stages s) (pair_stages s) a first b e f
