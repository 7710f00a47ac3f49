-- The square root of a binary64 number as IEEE 754 has it: the exact root, rounded once to the nearest. Assumes
-- nothing.
use Rattle.std.specs.Prelude.{Bool, cond, ◌&&◌, ℕ, ◌*◌, ◌/◌, ◌^◌, ℤ, ltb, Float, Err, Ok}
use Rattle.std.specs.Float.{nan, inf, fin, binary64}
use Rattle.std.specs.Float.Ieee.{up, down, round}
use Rattle.answer.specs.declared.Refusal.{Refusal}
use Rattle.answer.specs.Answer.{Answer}
use Rattle.root.specs.Whole.{halves}

-- every finite binary64 number is a whole number of steps of 2^-1074
abbrev pub steps : ℕ → ℤ → ℕ
steps m e = m * up e * 2 ^ 1074 / down e

-- the root of m * 2^e with the sign s: counted in steps, cut to halves of a step, and rounded to the format
unfoldable pub root_finite : Bool → ℕ → ℤ → Float
unfolding halves round
root_finite s m e = round binary64 s (halves (steps m e * 2 ^ 1074)) (2 ^ 1075)

-- below zero: -0 is not
abbrev pub negative : Bool → ℕ → Bool
negative s m = s && ltb 0 m

-- IEEE 754's squareRoot: not a number below zero, infinity of infinity, -0 of -0
unfoldable pub sqrt_of : Float → Float
unfolding root_finite
sqrt_of nan = nan
sqrt_of (inf s) = cond s nan (inf s)
sqrt_of (fin s m e) = cond (negative s m) nan (root_finite s m e)

-- not a number, infinite or below zero
abbrev pub no_root : Refusal
no_root = record { number = 14; place = 0 }

-- the root that users ask for: refused with 14 at 0 where there is no finite one
unfoldable pub root_of : Float → Answer Float
unfolding root_finite
root_of nan = Err no_root
root_of (inf s) = Err no_root
root_of (fin s m e) = cond (negative s m) (Err no_root) (Ok (root_finite s m e))
