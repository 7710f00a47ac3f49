-- A list held in the first entries of an array. Assumes nothing.
use Rattle.std.specs.Prelude.{◌≡◌, List, ℕ, length}
use Rattle.answer.specs.Room.{padded}

-- the array of n entries holds the list, the rest 0, and count is its length
pub record Filled (n : ℕ) (items : List ℕ) (count : ℕ) (l : List ℕ) : Type 0 where
  pub holds : items ≡ padded n 0 l
  pub counts : count ≡ length l
