-- How the code lists: one question for both sides of a pair, with a closure; and for Kahn's order the positions taken
-- and then the queue in one array, the waits in another. Assumes nothing.
use Rattle.std.specs.Prelude.{Bool, cond, Option, Some, None, List, [], ◌∷◌, ◌≡◌, ℕ, ◌+◌, ◌≤◌, eqb, length, take, drop}
use Rattle.closure.specs.Limits.{contour_limit}
use Rattle.closure.specs.Pairs.{Pair}
use Rattle.hierarchy.specs.Fill.{Filled}
use Rattle.hierarchy.specs.Sort.{Kahn}

-- of a pair that passes the test a closure hands out what is picked, and of another none
abbrev pub Finds : (ℕ → ℕ → Option ℕ → Type 0) → (Pair → Bool) → (Pair → ℕ) → Type 0
Finds hands_out test pick = (b a : ℕ) (r : Option ℕ) → hands_out b a r →
    let p : Pair = record { before = b; after = a } in r ≡ cond (test p) (Some (pick p)) None

-- so many of the positions are held back
unfoldable pub held_count : List ℕ → ℕ
held_count [] = 0
held_count (w ∷ more) = held_count more + cond (eqb w 0) 0 1

-- the arrays as they stand, all that is in the order seen as the queue
abbrev pub standing : List ℕ → List ℕ → ℕ → Kahn
standing waits order count = record { taken = []; queue = take count order; waits = waits }

-- the first i of that queue are taken
abbrev pub first_taken : ℕ → Kahn → Kahn
first_taken i s = record { taken = take i s.queue; queue = drop i s.queue; waits = s.waits }

-- the order has room for every position still held back
pub record HasRoom (waits order : List ℕ) (count : ℕ) : Type 0 where
  pub size : length waits ≡ contour_limit
  pub filled : Filled contour_limit order count (take count order)
  pub room : count + held_count waits ≤ contour_limit

-- the arrays hold this
pub record Stands (s : Kahn) (waits order : List ℕ) (count : ℕ) : Type 0 where
  pub roomy : HasRoom waits order count
  pub is : standing waits order count ≡ s
