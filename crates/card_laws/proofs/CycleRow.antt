-- Row 12 of the table, once ids are unique, every pair's ids are known and there are no more contours than the closure
-- takes. Assumes nothing.
use mathlib.Core.Path.{◌≡◌}
use mathlib.Core.Bool.{true}
use mathlib.Core.List.{List}
use Prim.Native.Nat.{ℕ, ◌≤◌, ◌<◌, min}
use native.Mathlib.Omega.{arith}
use Rattle.closure.specs.Limits.{contour_limit}
use Rattle.closure.specs.Cycle.{linked, on_cycle, Reaches, step, onward}
use Rattle.closure.proofs.PathLaws.{cycle_exactly}
use Rattle.fields.specs.Layout.{contours_of}
use Rattle.card.specs.Names.{pairs_on}
use Rattle.card.specs.Verdict.{cycle_fault, cycle_fault_within}
use Rattle.card_laws.specs.Table.{Row9, Row10, Leads, at_once, OnCycle, Row12, No}
use Rattle.card_laws.proofs.LinkLaws.{link_precedes, precedes_link}
use Rattle.card_laws.proofs.ExactLaws.{Exact, lowest_exact, nowhere}

module _ (s : List ℕ) (unique : No (Row9 s)) (named : No (Row10 s)) where
  reach_leads : {i j : ℕ} → Reaches (linked (contours_of s) (pairs_on s)) i j → Leads s i j
  reach_leads (step e) = at_once (link_precedes s unique named _ _ e)
  reach_leads (onward e r) = Leads.onward (link_precedes s unique named _ _ e) (reach_leads r)

  pub leads-reach : {i j : ℕ} → Leads s i j → Reaches (linked (contours_of s) (pairs_on s)) i j
  leads-reach (at_once b) = step (precedes_link s unique named _ _ b)
  leads-reach (Leads.onward b l) = onward (precedes_link s unique named _ _ b) (leads-reach l)

  pub cycle_row : (k : ℕ) → k < contours_of s → on_cycle (contours_of s) (pairs_on s) k ≡ true → OnCycle s k
  cycle_row k h e = reach_leads ((cycle_exactly (contours_of s) (pairs_on s) k).0 e)

  pub row_cycle : (k : ℕ) → k < contours_of s → OnCycle s k → on_cycle (contours_of s) (pairs_on s) k ≡ true
  row_cycle k h l = (cycle_exactly (contours_of s) (pairs_on s) k).1 (leads-reach l)

  pub exact12 : contours_of s ≤ contour_limit → Exact (cycle_fault s) (Row12 s)
  unfolding cycle_fault_within
  exact12 few =
      let e : min (contours_of s) contour_limit ≡ contours_of s = omega arith in
      rw e (lowest_exact (on_cycle (contours_of s) (pairs_on s)) (contours_of s) (OnCycle s) cycle_row row_cycle)

  pub no_cycle : No (Row12 s) → (k : ℕ) → k < contours_of s → Reaches (linked (contours_of s) (pairs_on s)) k k → ⊥
  no_cycle none k h r =
      nowhere (on_cycle (contours_of s) (pairs_on s)) (contours_of s) (OnCycle s) cycle_row row_cycle none k h
      (reach_leads r)
