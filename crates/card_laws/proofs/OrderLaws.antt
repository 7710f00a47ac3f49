-- An order by ids is legal exactly where it is by positions, once ids are unique and every pair's ids are known.
-- Assumes nothing.
use mathlib.Core.List.{List}
use Prim.Native.Nat.{ℕ}
use Rattle.keep.specs.Legal.{Legal}
use Rattle.fields.specs.Layout.{contours_of}
use Rattle.card.specs.Names.{pairs_on}
use Rattle.card_laws.specs.Table.{No, Row9, Row10}
use Rattle.card_laws.specs.Orders.{LegalOrder}
use Rattle.card_laws.proofs.LinkLaws.{link_precedes, precedes_link}

module _ (s : List ℕ) (unique : No (Row9 s)) (named : No (Row10 s)) (order : List ℕ) where
  -- what keeps each pair's ids in their order keeps each link of positions
  pub by_positions : LegalOrder s order → Legal (contours_of s) (pairs_on s) order
  by_positions legal = record {
    each = legal.each_once;
    before = λ p q hp hq t. legal.pairs-kept p q hp hq (link_precedes s unique named _ _ t);
  }

  -- and the other way round
  pub by_ids : Legal (contours_of s) (pairs_on s) order → LegalOrder s order
  by_ids legal = record {
    each_once = legal.each;
    pairs-kept = λ i j hi hj b. legal.before i j hi hj (precedes_link s unique named _ _ b);
  }
