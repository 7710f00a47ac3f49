-- 12 and legal orders: a card with no earlier fault is sent back with 12 exactly when its contours can be cut in no
-- order that its pairs allow. Assumes nothing.
use Rattle.std.specs.Prelude.{◌≡◌, true, List, ℕ, ◌<◌, get_or, Err, Ok}
use Rattle.closure.specs.Cycle.{linked}
use Rattle.closure.specs.Pairs.{paired, every, both}
use Rattle.keep.specs.Legal.{EachOnce}
use Rattle.fields.specs.Layout.{contours_of}
use Rattle.card.specs.Names.{pairs_on}
use Rattle.card.specs.Verdict.{check_of}
use Rattle.card_laws.specs.Table.{Past11, Precedes}

-- an order in which a card can be cut, as positions: each contour once, and what goes before another, by a written pair
-- or by rule, stands before it
pub record LegalOrder (s order : List ℕ) : Type 0 where
  pub each_once : EachOnce (contours_of s) order
  pub pairs-kept : (i j : ℕ) → i < contours_of s → j < contours_of s
      → Precedes s (get_or order i 0) (get_or order j 0) → i < j

-- the card can be cut in some order
abbrev pub SomeOrder : List ℕ → Type 0
SomeOrder s = (order : List ℕ) × LegalOrder s order

-- the card is sent back with this number, wherever the fault is
abbrev pub RefusedWith : ℕ → List ℕ → Type 0
RefusedWith number s = (place : ℕ) × (check_of s ≡ Err (record { number = number; place = place }))

pub record Twelve (s : List ℕ) : Type 0 where
  pub no_order : Past11 s → RefusedWith 12 s → SomeOrder s → ⊥
  pub sent_back : Past11 s → (SomeOrder s → ⊥) → RefusedWith 12 s
  pub fine_order : check_of s ≡ Ok tt → SomeOrder s

-- of a fine card: positions are linked exactly where a written pair or the rule puts the one before the other, and
-- every pair's positions are contours
pub record Links (s : List ℕ) : Type 0 where
  pub linked-if : (i j : ℕ) → Precedes s i j → linked (contours_of s) (pairs_on s) i j ≡ true
  pub linked_only : (i j : ℕ) → linked (contours_of s) (pairs_on s) i j ≡ true → Precedes s i j
  pub all_contours : every (both (contours_of s)) (paired (pairs_on s)) ≡ true
