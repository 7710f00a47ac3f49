-- What byte 34 of the head was before request 2026-07. Assumes nothing.
use Rattle.std.specs.Prelude.{None, Ok, Some}
use mathlib.Mathlib.Data.Bool.Basic.{not_iff_not}
use mathlib.Core.Path.{◌≡◌, refl, sym, ap, ◌∙◌}
use mathlib.Core.Bool.{Bool, true, false, not, cond}
use mathlib.Core.List.{List, [], ◌∷◌}
use Prim.Native.Nat.{ℕ, zero, suc, ◌+◌, ◌-◌, ◌<◌, min}
use native.Mathlib.Omega.{arith}
use lib.Dec.{eqb, eqb-suc-zero, lit<}
use lib.ListN.{get_or}
use lib.Ieee.{Float, lt}
use Rattle.answer.specs.Lowest.{lowest, lowest_from}
use Rattle.answer.proofs.LowestLaws.{is_absent, absent_is, at_is, lowest_same}
use Rattle.answer.proofs.StageLaws.{is_fine}
use Rattle.block.specs.Field.{byte_at}
use Rattle.block.specs.Block.{payload_bytes, zeros_at}
use Rattle.block.proofs.Readings.{zeros_each, zero-before}
use Rattle.fields.specs.Layout.{blocks_of, payload, is_two, head_size, grid_offset, per_contour_of, grid_of}
use Rattle.fields.specs.Layout.{asks_grid}
use Rattle.fields.specs.Limits.{per_contour_limit}
use Rattle.fields.proofs.AskingLaws.{asks_by, grid_of_zero, grid_of_another}
use Rattle.answer.specs.declared.CutDirection.{CutDirection}
use Rattle.answer.specs.declared.Point.{Point}
use Rattle.points.specs.Numbers.{tiny}
use Rattle.candidates.specs.declared.Candidate.{Candidate}
use Rattle.candidates.specs.Along.{perimeter_of, spot, spot_at}
use Rattle.candidates.specs.Generate.{candidate_at, target, spaced, candidates_from, candidates_of}
use Rattle.instance.specs.Gather.{way_of, outline_of, offers_of}
use Rattle.card.specs.Limits.{today}
use Rattle.card.specs.Stages.{length_fault, check_fault, start_fault, head_faults, head_fault, head_fault_within, count_fault}
use Rattle.card.specs.Stages.{contour_fault, bad_spare, spare_fault}
use Rattle.card.specs.Verdict.{stages_within, check_within, check_of}
use Rattle.card.proofs.GroupLaws.{fine_absent}
use Rattle.card_laws.proofs.Facts.{accepted}
use Rattle.card_laws.proofs.Starred.{verdict_computes}
use Rattle.filed.specs.Asking.{head_fault_then, bad_spare_then, spare_fault_then, check_then, spaced_then}
use Rattle.filed.specs.Asking.{candidates_then, NotAsked, Asked, Today, Claim}

-- ---- not asked

module _ (s : List ℕ) (none : grid_of s ≡ 0) where
  same_head : head_fault s ≡ head_fault_then s
  unfolding head_fault_then head_fault_within lowest lowest_from
  same_head = rw none

  same_spare : (b : ℕ) → bad_spare s b ≡ bad_spare_then s b
  same_spare zero = go (is_two s) refl
    where
      -- in version 2 the head's spare bytes begin one later today, behind a zero
      go : (two : Bool) → is_two s ≡ two
          → (let used = cond two (head_size + 1) head_size in not (zeros_at s (payload 0 + used) (payload_bytes - used)))
          ≡ not (zeros_at s (payload 0 + head_size) (payload_bytes - head_size))
      go true e =
          ap not (zero-before s (payload 0 + head_size) (payload_bytes - (head_size + 1))
          (sym (ap (λ (t : Bool). cond t (byte_at s (payload 0 + grid_offset)) 0) e) ∙ none))
      go false e = refl
  same_spare (suc k) = rw (eqb-suc-zero k)

  same_spare_fault : spare_fault s ≡ spare_fault_then s
  unfolding spare_fault spare_fault_then
  same_spare_fault = lowest_same (blocks_of s) (bad_spare s) (bad_spare_then s) (λ b h. same_spare b)

same_verdict : (s : List ℕ) → grid_of s ≡ 0 → check_of s ≡ check_then s
unfolding check_then check_within
same_verdict s none = rw (same_head s none, same_spare_fault s none)

-- without the flag the text of today is that of then
spaced_then_lem : (way : CutDirection) (ps : List Point) (total : Float) (c k n : ℕ)
    → spaced false way ps total c k n ≡ spaced_then way ps total c k n
unfolding spaced spaced_then
spaced_then_lem way ps total c k zero = refl
spaced_then_lem way ps total c k (suc n) =
    ap (λ (l : List Candidate). candidate_at way (spot_at ps (target total c k)) ∷ l)
    (spaced_then_lem way ps total c (suc k) n)

of_then : (way : CutDirection) (ps : List Point) (c : ℕ) → candidates_of false way ps c ≡ candidates_then way ps c
unfolding candidates_of candidates_from candidates_then
of_then way [] c = refl
of_then way (v ∷ more) c =
    let ps = v ∷ more in
    let most = min c per_contour_limit in
    let lone = candidate_at way (spot v 0) ∷ [] in
    ap (λ (l : List Candidate). cond (eqb most 1) lone (cond (lt (perimeter_of ps) tiny) lone l))
    (spaced_then_lem way ps (perimeter_of ps) most 0 most)

same_candidates : (s : List ℕ) → grid_of s ≡ 0 → (k : ℕ)
    → offers_of s k ≡ candidates_then (way_of s k) (outline_of s k) (per_contour_of s)
unfolding offers_of
same_candidates s none k =
    ap (λ (b : ℕ). candidates_of (eqb b 1) (way_of s k) (outline_of s k) (per_contour_of s)) none
    ∙ of_then (way_of s k) (outline_of s k) (per_contour_of s)

not_asked : (s : List ℕ) → grid_of s ≡ 0 → NotAsked s
not_asked s none = record { verdict = same_verdict s none; candidates = same_candidates s none }

-- ---- asked

module _ (s : List ℕ) (asks : asks_grid s ≡ true) (fine : check_of s ≡ Ok tt) where
  -- no stage of today's finds anything
  stages_fine : (rank : ℕ) → rank < 13 → get_or (stages_within today s) rank (Ok tt) ≡ Ok tt
  unfolding check_within
  stages_fine rank h = is_fine (stages_within today s) fine rank h

  head_fine : head_fault_then s ≡ None
  unfolding head_fault_then head_fault_within
  head_fine =
      let none =
      is_absent (λ f. get_or (head_faults s) f false) 9 (fine_absent 4 (head_fault s) (stages_fine 3 (lit< tt))) in
      absent_is (λ f. get_or (head_faults s) f false) 8 (λ f h. none f (omega arith))

  some_byte : byte_at s (payload 0 + grid_offset) ≡ 0 → ⊥
  some_byte none = let one = ((asks_by s).0 asks).1 in omega arith

  bad_head : bad_spare_then s 0 ≡ true
  bad_head =
      (not_iff_not {b = zeros_at s (payload 0 + head_size) (payload_bytes - head_size)}).1
      (λ t. some_byte (zeros_each s (payload 0 + head_size) (payload_bytes - head_size) t 0 (lit< tt)))

  spare_told : spare_fault_then s ≡ Some 0
  unfolding spare_fault_then
  spare_told =
      let whole = (accepted s fine).whole in
      at_is (bad_spare_then s) (blocks_of s) 0
      (record { within = omega arith; holds = bad_head; before = λ j h. absurd (omega arith) })

asked : (s : List ℕ) → Asked s
unfolding check_then
asked s asks fine =
    let found = stages_fine s asks fine in
    rw (
      fine_absent 1 (length_fault s) (found 0 (lit< tt)),
      fine_absent 2 (check_fault s) (found 1 (lit< tt)),
      fine_absent 3 (start_fault s 1) (found 2 (lit< tt)),
      head_fine s asks fine,
      fine_absent 5 (count_fault s) (found 4 (lit< tt)),
      fine_absent 3 (start_fault s (blocks_of s)) (found 5 (lit< tt)),
      fine_absent 6 (contour_fault s) (found 6 (lit< tt)),
      spare_told s asks fine,
    )

-- ---- cards of one block

cards_today : Today
unfolding verdict_computes
cards_today = record {
  not_asking = refl;
  asking = refl;
  does_ask = refl;
  above = refl;
  most-above = refl;
  of_version_1 = refl;
  spare_there = refl;
  no_field_there = refl;
  most_there = refl;
}

pub claim : Claim
claim = record {
  byte_0 = λ s none. not_asked s (grid_of_zero s none);
  version_1 = λ s one. not_asked s (grid_of_another s (λ two. let e = one in omega arith));
  asked = asked;
  today = cards_today;
}
