-- Two limits on one card that is not larger than either allows: every definition that names them says the same. Assumes
-- nothing.
use Rattle.std.specs.Prelude.{None, Ok}
use mathlib.Core.Path.{◌≡◌, refl, sym, ap, ◌∙◌}
use mathlib.Core.Bool.{Bool, true, false, not, ◌||◌}
use mathlib.Core.List.{List}
use Prim.Native.Nat.{ℕ, ◌+◌, ◌%◌, ◌≤◌, min}
use native.Mathlib.Omega.{arith}
use borrow.Author.Tests.{le-leb, le-ltb, ltb-false}
use lib.Dec.{eqb, ltb, lit<}
use lib.Ieee.{Float}
use lib.ListN.{length}
use Rattle.answer.specs.Lowest.{lowest}
use Rattle.answer.proofs.RoomLaws.{padded_front}
use Rattle.answer.proofs.StageLaws.{is_fine}
use Rattle.answer.proofs.Truth.{or-none}
use Rattle.block.specs.Block.{block_bytes}
use Rattle.closure.specs.Cycle.{on_cycle}
use Rattle.fields.specs.Layout.{contours_of, pairs_of}
use Rattle.card.specs.Limits.{Limits}
use Rattle.card.specs.Stages.{found_if, bad_length_within, length_fault_within, head_fault_within, name_fault}
use Rattle.card.specs.Names.{pairs_on, known_before, seats_within, named_as_within, named_within}
use Rattle.card.specs.Verdict.{cycle_fault_within, stages_within, check_within}
use Rattle.card.proofs.GroupLaws.{fine_absent, no_more}
use Rattle.instance.specs.Gather.{held_within}
use Rattle.improve.specs.Search.{searched_within}
use Rattle.start.specs.Nearest.{nearest_within}
use Rattle.tour.specs.Search.{start_within, end_within}
use Rattle.tour.specs.Tour.{tour_check_within, tour_within}
use Rattle.filed.specs.Filed.{SamePairs}

-- the three stages that name a limit find nothing
pub record Passes (l : Limits) (s : List ℕ) : Type 0 where
  pub length_fine : length_fault_within l.bytes s ≡ None
  pub head_fine : head_fault_within l.contours l.pairs s ≡ None
  pub cycle_fine : cycle_fault_within l.contours s ≡ None

-- no more contours and pairs than the limits
pub record Small (l : Limits) (s : List ℕ) : Type 0 where
  pub contours : contours_of s ≤ l.contours
  pub pairs : pairs_of s ≤ l.pairs

pub passes : (l : Limits) (s : List ℕ) → check_within l s ≡ Ok tt → Passes l s
unfolding check_within
passes l s e =
    let all = is_fine (stages_within l s) e in
    record {
      length_fine = fine_absent 1 (length_fault_within l.bytes s) (all 0 (lit< tt));
      head_fine = fine_absent 4 (head_fault_within l.contours l.pairs s) (all 3 (lit< tt));
      cycle_fine = fine_absent 12 (cycle_fault_within l.contours s) (all 12 (lit< tt));
    }

pub small : (l : Limits) (s : List ℕ) → head_fault_within l.contours l.pairs s ≡ None → Small l s
small l s e = let both = no_more l.contours l.pairs s e in record { contours = both.0; pairs = both.1 }

-- where both pass, the verdicts are one
pub one_verdict : (l m : Limits) (s : List ℕ) → Passes l s → Passes m s → check_within l s ≡ check_within m s
unfolding check_within
one_verdict l m s p q =
    rw (p.length_fine, p.head_fine, p.cycle_fine, q.length_fine, q.head_fine, q.cycle_fine)

module _ (l m : Limits) (s : List ℕ) (a : Small l s) (b : Small m s) where
  pub one_head : head_fault_within l.contours l.pairs s ≡ head_fault_within m.contours m.pairs s
  unfolding head_fault_within
  one_head =
      rw (
        le-ltb l.contours (contours_of s) a.contours,
        le-ltb l.pairs (pairs_of s) a.pairs,
        le-ltb m.contours (contours_of s) b.contours,
        le-ltb m.pairs (pairs_of s) b.pairs,
      )

  pub one_cycle : cycle_fault_within l.contours s ≡ cycle_fault_within m.contours s
  unfolding cycle_fault_within
  one_cycle =
      let i = a.contours in
      let j = b.contours in
      let e : min (contours_of s) l.contours ≡ min (contours_of s) m.contours = omega arith in
      ap (λ (n : ℕ). lowest (on_cycle n (pairs_on s)) n) e

  pub one-held : held_within l.contours s ≡ held_within m.contours s
  one-held = rw (le-leb (contours_of s) l.contours a.contours, le-leb (contours_of s) m.contours b.contours)

  pub one_start : start_within l s ≡ start_within m s
  unfolding nearest_within
  one_start = rw (le-leb (contours_of s) l.contours a.contours, le-leb (contours_of s) m.contours b.contours)

  module _ (long : length (start_within m s) ≡ contours_of s) where
    pub one_end : end_within l s ≡ end_within m s
    unfolding end_within searched_within
    one_end =
        rw (
          one_start,
          long,
          le-leb (contours_of s) l.contours a.contours,
          le-leb (contours_of s) m.contours b.contours,
        )

    pub one-tour : (room : List ℕ) (table : List Float) → check_within l s ≡ check_within m s
        → tour_within l s room table ≡ tour_within m s room table
    unfolding tour_within tour_check_within
    one-tour room table e = rw (e, one_end)

-- the pairs of a card that is not too large, in a room for as many
named_all : (l : Limits) (s : List ℕ) → Small l s
    → named_within l s ≡ named_as_within l (name_fault s) (known_before s (name_fault s))
unfolding named_within
named_all l s a = rw (le-ltb l.contours (contours_of s) a.contours, le-ltb l.pairs (pairs_of s) a.pairs)

pub one_list : (l m : Limits) (s : List ℕ) → Small l s → Small m s → SamePairs (named_within l s) (named_within m s)
one_list l m s a b =
    let known = known_before s (name_fault s) in
    rw (named_all l s a, named_all m s b)
    (record {
      stopped = refl;
      count = refl;
      positions =
          padded_front (seats_within l) 0 known (length known) refl
          ∙ sym (padded_front (seats_within m) 0 known (length known) refl);
    })

-- ---- the length

found_none : (b : Bool) (k : ℕ) → found_if b k ≡ None → b ≡ false
found_none true k e = let z : ◌≡◌ {A = ℕ} 0 1 = cc in absurd (omega arith)
found_none false k e = refl

-- a length that is not at fault is not 0, is one of whole blocks, and is not above the limit
sized : (most : ℕ) (s : List ℕ) → length_fault_within most s ≡ None
    → (eqb (length s) 0 ≡ false) × (not (eqb (length s % block_bytes) 0) ≡ false) × (ltb most (length s) ≡ false)
unfolding length_fault_within
sized most s e =
    let bad = found_none (bad_length_within most s) (min (length s) (most + 1)) e in
    let some = or-none (eqb (length s) 0) (not (eqb (length s % block_bytes) 0) || ltb most (length s)) bad in
    let whole = or-none (not (eqb (length s % block_bytes) 0)) (ltb most (length s)) some.1 in
    (some.0, whole.0, whole.1)

pub short_enough : (most : ℕ) (s : List ℕ) → length_fault_within most s ≡ None → length s ≤ most
short_enough most s e = ltb-false most (length s) (sized most s e).2

-- with another limit that it is not above either, it is not at fault
pub length_again : (most other : ℕ) (s : List ℕ) → length_fault_within most s ≡ None → length s ≤ other
    → length_fault_within other s ≡ None
unfolding length_fault_within
length_again most other s e h =
    let fine = sized most s e in rw (fine.0, fine.1, le-ltb other (length s) h)
