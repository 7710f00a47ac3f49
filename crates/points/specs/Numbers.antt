-- Numbers that are named. Assumes nothing.
use Rattle.std.specs.Prelude.{Float}
use Rattle.std.specs.Float.{binary64}
use Rattle.std.specs.Float.Ieee.{of_bits}

abbrev pub zero64 : Float
zero64 = of_bits binary64 0

abbrev pub one64 : Float
one64 = of_bits binary64 0x3ff0_0000_0000_0000

-- 1e-12
abbrev pub tiny : Float
tiny = of_bits binary64 0x3d71_9799_812d_ea11

-- the largest finite number
abbrev pub huge : Float
huge = of_bits binary64 0x7fef_ffff_ffff_ffff
