-- How the loops find last ranks: what was met so far goes with them from entry to entry. Assumes nothing.
use Rattle.std.specs.Prelude.{cond, List, [], ◌∷◌, ◌≡◌, ℕ, suc, ◌<◌, eqb, get_or}

-- the last rank of x in an order of which k entries are passed already; where x is not in the rest, what was met before
unfoldable pub latest : ℕ → ℕ → ℕ → List ℕ → ℕ
latest x k met [] = met
latest x k met (y ∷ more) = latest x (suc k) (cond (eqb y x) (suc k) met) more

-- the table q holds the last rank of each byte in the order, and what p holds for a byte that is not there
pub record RanksOf (order p q : List ℕ) : Type 0 where
  pub told : (x : ℕ) → x < 256 → get_or q x 0 ≡ latest x 0 (get_or p x 0) order
