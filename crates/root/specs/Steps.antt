-- Finite values counted in steps of the format's smallest one, their sign, and which of them have a root. Assumes
-- nothing.
use Rattle.std.specs.Prelude.{Bool, false, not, ℕ, ◌*◌, ◌/◌, ◌^◌, Float}
use Rattle.std.specs.Float.{nan, inf, fin, Format, binary64}
use Rattle.std.specs.Float.Ieee.{low, up, down}
use Rattle.root.specs.Root.{negative}

-- the size of a finite value in steps of the format's smallest; 0 for the others
abbrev pub steps_in : Format → Float → ℕ
steps_in f nan = 0
steps_in f (inf s) = 0
steps_in f (fin s m e) = m * up e * 2 ^ low f / down e

-- in steps of 2^-1074
abbrev pub steps_of : Float → ℕ
steps_of x = steps_in binary64 x

-- below zero, or -0
abbrev pub sign_of : Float → Bool
sign_of nan = false
sign_of (inf s) = s
sign_of (fin s m e) = s

-- finite, and not below zero
abbrev pub has_root : Float → Bool
has_root nan = false
has_root (inf s) = false
has_root (fin s m e) = not (negative s m)
