-- The whole part of a whole number's root, digit by digit. Assumes nothing.
use Rattle.std.specs.Prelude.{cond, ℕ, zero, suc, ◌+◌, ◌*◌, ◌/◌, leb, eqb}
use Rattle.std.specs.Float.Ieee.{size}

-- a root r of all but the last digit (to base four) with its own last digit (to base two): 1 where that still fits into
-- n
abbrev pub last_digit : ℕ → ℕ → ℕ
last_digit n r = cond (leb ((2 * r + 1) * (2 * r + 1)) n) (2 * r + 1) (2 * r)

-- the root of an n of at most d digits to base four
unfoldable pub digits : ℕ → ℕ → ℕ
digits zero n = 0
digits (suc d) n = last_digit n (digits d (n / 4))

-- the largest r with r * r at most n
unfoldable pub whole_root : ℕ → ℕ
unfolding digits size
whole_root n = digits (size n) n

-- the marker of a root that goes on beyond its whole part: 1 there, 0 where n is a square
abbrev pub goes_on : ℕ → ℕ
goes_on n = cond (eqb (whole_root n * whole_root n) n) 0 1

-- n's root in half steps, as a rounding needs to see it: an even number is a whole root; an odd one, half a step above
-- the whole part, stands for every root between two whole numbers, since it lies on the same side of each of them
unfoldable pub halves : ℕ → ℕ
unfolding whole_root
halves n = 2 * whole_root n + goes_on n
