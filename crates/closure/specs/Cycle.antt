-- Where pairs of positions lead, and the lowest position on a cycle. Assumes nothing.
use Rattle.std.specs.Prelude.{Bool, true, ◌&&◌, ◌||◌, ◌≡◌, List, ℕ, zero, suc, ◌<◌, min, ltb}
use Rattle.answer.specs.Answer.{Found}
use Rattle.answer.specs.Lowest.{lowest}
use Rattle.closure.specs.Limits.{contour_limit}
use Rattle.closure.specs.Pairs.{paired, some_of, is_pair}

-- a pair puts i before j, and both are below n
unfoldable pub linked : ℕ → List ℕ → ℕ → ℕ → Bool
unfolding paired some_of
linked n pairs i j = ltb i n && (ltb j n && some_of (is_pair i j) (paired pairs))

-- links lead from i to j in one or more steps
pub data Reaches (link : ℕ → ℕ → Bool) : ℕ → ℕ → Type 0 where
  step : {i j : ℕ} → link i j ≡ true → Reaches link i j
  onward : {i m j : ℕ} → link i m ≡ true → Reaches link m j → Reaches link i j

-- no position below n reaches itself
abbrev pub Acyclic : ℕ → List ℕ → Type 0
Acyclic n pairs = (i : ℕ) → i < n → Reaches (linked n pairs) i i → ⊥

-- links lead from i to j, through positions below k on the way
unfoldable pub leads : (ℕ → ℕ → Bool) → ℕ → ℕ → ℕ → Bool
leads link zero i j = link i j
leads link (suc k) i j = leads link k i j || (leads link k i k && leads link k k j)

-- a position below n that can be reached from itself
abbrev pub on_cycle : ℕ → List ℕ → ℕ → Bool
on_cycle n pairs i = leads (linked n pairs) n i i

-- the lowest position on a cycle among the first so many contours; no more of them than `most` are looked at
abbrev pub first_on_cycle_within : ℕ → ℕ → List ℕ → Found
first_on_cycle_within most contours pairs = lowest (on_cycle (min contours most) pairs) (min contours most)

abbrev pub first_on_cycle : ℕ → List ℕ → Found
first_on_cycle contours pairs = first_on_cycle_within contour_limit contours pairs
