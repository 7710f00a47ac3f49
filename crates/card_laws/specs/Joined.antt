-- All pairs of a fine card in one list, two positions a pair: the written ones as they stand, repeats kept, and behind
-- them those by rule, by the interior's position. Assumes nothing.
use Rattle.std.specs.Prelude.{◌≡◌, List, ℕ, suc, ◌+◌, ◌*◌, ◌<◌, length, get_or}
use Rattle.fields.specs.Layout.{version_of, contours_of, pairs_of, part_of, before_id_of, after_id_of}
use Rattle.card.specs.Names.{written_on, pairs_on}
use Rattle.card_laws.specs.Table.{Has, ByRule}

-- the two positions of pair q of a list
abbrev pub first_at : List ℕ → ℕ → ℕ
first_at l q = get_or l (2 * q) 0

abbrev pub second_at : List ℕ → ℕ → ℕ
second_at l q = get_or l (2 * q + 1) 0

-- as many pairs as are written, each the contours with its ids; then so many by rule, each contour's once, in order
pub record Joined (s : List ℕ) (rules : ℕ) : Type 0 where
  pub all : length (pairs_on s) ≡ 2 * (pairs_of s + rules)
  pub before : (q : ℕ) → q < pairs_of s → Has s (before_id_of s q) (first_at (pairs_on s) q)
  pub after : (q : ℕ) → q < pairs_of s → Has s (after_id_of s q) (second_at (pairs_on s) q)
  pub by_rule : (r : ℕ) → r < rules
      → ByRule s (first_at (pairs_on s) (pairs_of s + r)) (second_at (pairs_on s) (pairs_of s + r))
  pub in_order : (r : ℕ) → suc r < rules
      → first_at (pairs_on s) (pairs_of s + r) < first_at (pairs_on s) (pairs_of s + suc r)
  pub each : (i j : ℕ) → ByRule s i j → (r : ℕ) × (r < rules) × (first_at (pairs_on s) (pairs_of s + r) ≡ i)

-- in version 1 there is no rule; and where no contour has a part, the pairs are those written
pub record Unruled (s : List ℕ) : Type 0 where
  pub version-one : version_of s ≡ 1 → (i j : ℕ) → ByRule s i j → ⊥
  pub as_written : ((k : ℕ) → k < contours_of s → part_of s k ≡ 0) → pairs_on s ≡ written_on s
