-- What an answer about bridges holds. Assumes nothing.
use Rattle.std.specs.Prelude.{Err, Ok}
use mathlib.Core.Path.{◌≡◌, refl, sym, ap, ◌∙◌}
use mathlib.Core.List.{List}
use Prim.Native.Nat.{ℕ, ◌≤◌}
use native.Mathlib.Omega.{arith}
use lib.ListN.{length, take}
use lib.Ieee.{Float}
use Rattle.answer.specs.Answer.{Check, unless}
use Rattle.answer.proofs.RoomLaws.{padded-length, padded_front}
use Rattle.points.specs.Points.{points}
use Rattle.bridge.specs.declared.Bridge.{Bridge}
use Rattle.bridge.specs.Limits.{bridge_limit}
use Rattle.bridge.specs.Lookup.{marks}
use Rattle.bridge.specs.Create.{bridges_at, blank}
use Rattle.bridge.specs.Question.{half_of, bridge_check, Bridges, filled, bridges_of}
use Rattle.bridge.proofs.FillLaws.{bridges_length}
use Rattle.bridge.proofs.QuestionLaws.{fine_few}

module _ (numbers : List Float) (width : Float) (centres : List Float) where
  abbrev all : List Bridge
  all = bridges_at (points numbers) (marks (points numbers)) (half_of width) centres

  -- the check told is the question's: what that refuses is refused so, and nothing else
  pub checked : bridges_of numbers width centres ≡ unless (bridge_check numbers width centres) (filled all)
  unfolding bridges_of
  checked = refl

  pub accepted : bridge_check numbers width centres ≡ Ok tt → bridges_of numbers width centres ≡ Ok (filled all)
  unfolding bridges_of
  accepted e = rw e

  -- there are bridges exactly where nothing is wrong
  pub told_fine : (a : Bridges) → bridges_of numbers width centres ≡ Ok a → bridge_check numbers width centres ≡ Ok tt
  unfolding bridges_of
  told_fine a = go (bridge_check numbers width centres)
    where
      go : (c : Check) → unless c (filled all) ≡ Ok a → c ≡ Ok (tt {0})
      go (Ok _) e = refl
      go (Err r) e = let z : ◌≡◌ {A = ℕ} 0 1 = cc in absurd (omega arith)

  -- then: as many as there may be at most, in a room of that size, of which they are the front
  module _ (a : Bridges) (is : bridges_of numbers width centres ≡ Ok a) where
    handed : a ≡ filled all
    handed = let e = sym (accepted (told_fine a is)) ∙ is in cc

    few : length all ≤ bridge_limit
    few = rw (bridges_length (points numbers) (marks (points numbers)) (half_of width) centres centres)
        (fine_few numbers width centres (told_fine a is))

    pub count_fits : a.count ≤ bridge_limit
    unfolding filled
    count_fits = rw (ap (λ (b : Bridges). b.count) handed) few

    pub items_fill : length a.items ≡ bridge_limit
    unfolding filled
    items_fill =
        ap (λ (b : Bridges). length b.items) handed ∙ padded-length bridge_limit blank all few

    pub items_front : take a.count a.items ≡ all
    unfolding filled
    items_front =
        ap (λ (b : Bridges). take b.count b.items) handed ∙ padded_front bridge_limit blank all (length all) refl
