-- A loop over numbers in a row, as a definition. Assumes nothing.
use Rattle.std.specs.Prelude.{ℕ, zero, suc}

-- one step for each of the k numbers from a on, in order
unfoldable pub each : {S : Type 0} → (ℕ → S → S) → ℕ → ℕ → S → S
each step zero a s = s
each step (suc k) a s = each step k (suc a) (step a s)
