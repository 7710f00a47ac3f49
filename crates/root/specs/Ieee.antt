-- IEEE 754's square root in words, and that sqrt_of is it: the number of binary64 that is strictly nearest to the exact
-- root. A root is never half way between two neighbours, so no rule for ties is needed and no choice is left. Assumes
-- nothing.
use Rattle.std.specs.Prelude.{◌≡◌, Bool, true, false, ℕ, ◌+◌, ◌*◌, ◌^◌, ◌<◌, pos, T, Float}
use Rattle.std.specs.Float.{nan, inf, fin, binary64}
use Rattle.std.specs.Float.Ieee.{fits, lt}
use Rattle.std.specs.Float.Ieee.Exact.{HasValue}
use Rattle.std.specs.Float.Ieee.Scale.{finite}
use Rattle.root.specs.Root.{sqrt_of}
use Rattle.root.specs.Steps.{steps_of, sign_of, has_root}

-- +0 and -0
abbrev pub zero_of : Bool → Float
zero_of s = fin s 0 (pos 0)

-- the exact root of x, counted in steps of 2^-1074 and then squared: x times 2^2148, and x is steps_of x * 2^-1074
abbrev pub root_squared : Float → ℕ
root_squared x = steps_of x * 2 ^ 1074

-- twice the middle between r and y, in the same steps
abbrev pub twice_middle : Float → Float → ℕ
twice_middle r y = steps_of r + steps_of y

-- r is the finite number of binary64 that is strictly nearest to the exact root of x, among those not below zero (any
-- below zero is farther than 0 is): against every other y, the root lies on r's side of the middle between r and y.
-- Root and middle are taken twice and squared, so that whole numbers say it
pub record NearestRoot (x r : Float) : Type 0 where
  pub held : T (fits binary64 r)
  pub real : T (has_root r)
  -- which says something of a zero only
  pub sign : sign_of r ≡ sign_of x
  pub above : (y : Float) → T (fits binary64 y) → T (has_root y) → steps_of r < steps_of y
      → 4 * root_squared x < twice_middle r y * twice_middle r y
  pub below : (y : Float) → T (fits binary64 y) → T (has_root y) → steps_of y < steps_of r
      → twice_middle r y * twice_middle r y < 4 * root_squared x

-- +0 of +0, -0 of -0
abbrev pub KeepsZeros : (Float → Float) → Type 0
KeepsZeros root = (s : Bool) → root (zero_of s) ≡ zero_of s

-- not a number below zero
abbrev pub NoneBelow : (Float → Float) → Type 0
NoneBelow root = (x : Float) → T (lt x (zero_of false)) → root x ≡ nan

-- what IEEE 754 asks of a square root on binary64
pub record SquareRoot (root : Float → Float) : Type 0 where
  pub of_nan : root nan ≡ nan
  pub of_infinity : root (inf false) ≡ inf false
  pub of_minus_infinity : root (inf true) ≡ nan
  pub of_zero : KeepsZeros root
  pub of_below : NoneBelow root
  pub of_others : (x : Float) → T (fits binary64 x) → T (has_root x) → NearestRoot x (root x)

-- counting in steps loses nothing: each finite number of binary64 is so many of them, exactly
abbrev pub Counted : Type 0
Counted = (x : Float) → T (fits binary64 x) → T (finite x) → HasValue x (sign_of x) (steps_of x) (2 ^ 1074)

-- no other answer is IEEE 754's
abbrev pub Only : Type 0
Only = (root : Float → Float) → SquareRoot root → (x : Float) → T (fits binary64 x) → root x ≡ sqrt_of x

abbrev pub Claim : Type 0
Claim = Counted × SquareRoot sqrt_of × Only
