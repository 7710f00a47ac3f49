-- A flat list of numbers read as pairs, two numbers a pair. Assumes nothing.
use Rattle.std.specs.Prelude.{Bool, true, false, ◌&&◌, ◌||◌, List, [], ◌∷◌, ℕ, eqb, ltb, get_or}

-- the first is cut before the second
pub record Pair : Type 0 where
  pub before : ℕ
  pub after : ℕ

-- the pair that two numbers are
abbrev pub pair_of : List ℕ → Pair
pair_of two = record { before = get_or two 0 0; after = get_or two 1 0 }

-- the whole pairs of a flat list, in its order; half a pair at its end is no pair
unfoldable pub paired : List ℕ → List Pair
paired [] = []
paired (b ∷ []) = []
paired (b ∷ (a ∷ more)) = record { before = b; after = a } ∷ paired more

-- every pair passes the test
unfoldable pub every : (Pair → Bool) → List Pair → Bool
every test [] = true
every test (p ∷ more) = test p && every test more

-- some pair passes the test
unfoldable pub some_of : (Pair → Bool) → List Pair → Bool
some_of test [] = false
some_of test (p ∷ more) = test p || some_of test more

-- the pair is this one
abbrev pub is_pair : ℕ → ℕ → Pair → Bool
is_pair b a p = eqb p.before b && eqb p.after a

-- both positions are below n
abbrev pub both : ℕ → Pair → Bool
both n p = ltb p.before n && ltb p.after n
