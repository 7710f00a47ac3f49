-- The length of a tour of candidate numbers, as floats give it. Assumes nothing.
use Rattle.std.specs.Prelude.{List, ℕ, ◌+◌, ◌*◌, get_or, Float}
use Rattle.std.specs.Float.{nan, binary64}
use Rattle.std.specs.Float.Ieee.{add, of_bits}
use Rattle.table.specs.Walk.{walk}

-- how far a candidate is from home; not a number where there is no such candidate
abbrev pub home_at : List Float → ℕ → Float
home_at home a = get_or home a nan

-- the distance from candidate a to candidate b of the t by t distances, row by row; not a number past their end
abbrev pub distance_at : List Float → ℕ → ℕ → ℕ → Float
distance_at table t a b = get_or table (a * t + b) nan

-- one leg more, rounded once
abbrev pub add_leg : List Float → ℕ → Float → ℕ → ℕ → Float
add_leg table t sum a b = add binary64 sum (distance_at table t a b)

-- the tour's length: the way from home, then each leg added, left to right; +0 for an empty tour
unfoldable pub length_of : List Float → List Float → ℕ → List ℕ → Float
unfolding walk
length_of home table t tour = walk (of_bits binary64 0) (home_at home) (add_leg table t) tour
