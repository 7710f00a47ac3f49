-- The square of the scope document's examples. Assumes nothing.
use Rattle.std.specs.Prelude.{List, [], ◌∷◌, Float}
use Rattle.std.specs.Float.{binary64}
use Rattle.std.specs.Float.Ieee.{of_bits}
use Rattle.points.specs.Numbers.{zero64}

abbrev pub four64 : Float
four64 = of_bits binary64 0x4010_0000_0000_0000

-- (0,0), (4,0), (4,4), (0,4)
abbrev pub square : List Float
square = zero64 ∷ zero64 ∷ four64 ∷ zero64 ∷ four64 ∷ four64 ∷ zero64 ∷ four64 ∷ []
