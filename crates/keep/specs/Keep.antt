-- Whether an order keeps to the pairs, and whether all that must come before a position has been visited. Assumes
-- nothing.
use Rattle.std.specs.Prelude.{Bool, cond, not, ◌||◌, List, [], ◌∷◌, ℕ, suc, ltb, eqb, get_or}
use Rattle.closure.specs.Pairs.{Pair, paired, every}

-- the rank of the last x in the order, counted from 1: where x is among the entries behind the first, one more than its
-- rank there; else 1 where it is the first; else 0
unfoldable pub last_rank : List ℕ → ℕ → ℕ
last_rank [] x = 0
last_rank (y ∷ more) x = let later = last_rank more x in cond (ltb 0 later) (suc later) (cond (eqb y x) 1 0)

-- a pair is kept by two last ranks unless both are there and the first is not before the second
abbrev pub kept_at : ℕ → ℕ → Bool
kept_at b a = eqb b 0 || (eqb a 0 || ltb b a)

-- a pair is kept by an order
unfoldable pub kept_in : List ℕ → Pair → Bool
unfolding last_rank
kept_in order p = kept_at (last_rank order p.before) (last_rank order p.after)

-- each pair of which both are in the order has its first one's last rank before its second one's
unfoldable pub keeps_pairs : List ℕ → List ℕ → Bool
unfolding paired every kept_in
keeps_pairs order pairs = every (kept_in order) (paired pairs)

-- where the pair's second is k, its first has been visited: its flag is not 0
unfoldable pub ready_by : List ℕ → ℕ → Pair → Bool
ready_by visited k p = not (eqb p.after k) || not (eqb (get_or visited p.before 0) 0)

-- whatever a pair puts before k has been visited
unfoldable pub ready_in : List ℕ → List ℕ → ℕ → Bool
unfolding paired every ready_by
ready_in visited pairs k = every (ready_by visited k) (paired pairs)
