-- 12 is given exactly when no legal order exists; and a fine card's links, pair by pair. Assumes nothing.
use Rattle.std.specs.Prelude.{None, Ok, Some}
use mathlib.Core.Path.{◌≡◌, refl}
use mathlib.Core.List.{List}
use Prim.Native.Nat.{ℕ}
use native.Mathlib.Omega.{arith}
use Rattle.answer.specs.Answer.{Found}
use Rattle.answer.specs.Lowest.{lowest}
use Rattle.closure.specs.Cycle.{on_cycle, Acyclic}
use Rattle.closure.proofs.PathLaws.{absent_exactly}
use Rattle.hierarchy.proofs.SortedLaws.{legal_exactly}
use Rattle.fields.specs.Layout.{contours_of}
use Rattle.card.specs.Names.{pairs_on}
use Rattle.card.specs.Verdict.{check_of}
use Rattle.card_laws.specs.Table.{Past10, Past11, Row12, OnCycle, twelve}
use Rattle.card_laws.specs.Orders.{SomeOrder, RefusedWith, Twelve, Links}
use Rattle.card_laws.proofs.ExactLaws.{lowest_exact}
use Rattle.card_laws.proofs.LinkLaws.{link_precedes, precedes_link, pairs_below}
use Rattle.card_laws.proofs.OrderLaws.{by_positions, by_ids}
use Rattle.card_laws.proofs.CycleRow.{leads-reach, cycle_row, row_cycle}
use Rattle.card_laws.proofs.Verdicts.{exactly, few_by_11}
use Rattle.card_laws.proofs.Facts.{accepted}

-- ---- 12

module _ (s : List ℕ) where
  no_order_exists : Past11 s → RefusedWith 12 s → SomeOrder s → ⊥
  no_order_exists past (place, e) (order, legal) =
      let free : Acyclic (contours_of s) (pairs_on s) =
      (legal_exactly (contours_of s) (few_by_11 s past) (pairs_on s)).0
      (order, by_positions s past.0.0.1 past.0.1 order legal) in
      let fine : check_of s ≡ Ok tt =
      (exactly s).fine_if (
        past,
        (λ p row. free p row.within
            (leads-reach s past.0.0.1 past.0.1 row.holds)),
      ) in
      let z : ◌≡◌ {A = ℕ} 0 1 = cc in
      omega arith

  goes_back : Past11 s → (SomeOrder s → ⊥) → RefusedWith 12 s
  goes_back past none = go (lowest (on_cycle n seats) n) refl
    where
      n : ℕ
      n = contours_of s

      seats : List ℕ
      seats = pairs_on s

      go : (f : Found) → lowest (on_cycle n seats) n ≡ f → RefusedWith 12 s
      go (Some k) e =
          let row : Row12 s k =
          (lowest_exact (on_cycle n seats) n (OnCycle s) (cycle_row s past.0.0.1 past.0.1)
          (row_cycle s past.0.0.1 past.0.1)).found k e in
          (k, (exactly s).refused-if (record { number = 12; place = k }) (twelve past row))
      go None e =
          let some = (legal_exactly n (few_by_11 s past) seats).1 ((absent_exactly n seats).0 e) in
          absurd (none (some.0, by_ids s past.0.0.1 past.0.1 some.0 some.1))

  order_exists : check_of s ≡ Ok tt → SomeOrder s
  order_exists e =
      let facts = accepted s e in
      let past : Past10 s = ((exactly s).fine_only e).0.0 in
      let some = (legal_exactly (contours_of s) facts.few_contours (pairs_on s)).1 facts.acyclic in
      (some.0, by_ids s past.0.1 past.1 some.0 some.1)

pub twelve_exactly : (s : List ℕ) → Twelve s
twelve_exactly s = record { no_order = no_order_exists s; sent_back = goes_back s; fine_order = order_exists s }

-- ---- links

pub links : (s : List ℕ) → check_of s ≡ Ok tt → Links s
links s e =
    let past : Past10 s = ((exactly s).fine_only e).0.0 in
    record {
      linked-if = precedes_link s past.0.1 past.1;
      linked_only = link_precedes s past.0.1 past.1;
      all_contours = pairs_below s past.0.1 past.1;
    }
