-- The starred roots of the scope document, computed from the definition. Assumes nothing.
use mathlib.Core.Path.{◌≡◌, refl}
use Prim.Native.Nat.{ℕ}
use lib.Ieee.{binary64, of_bits, of_fields, odd, size, span, climb, round, units}
use lib.Count.{count_trailing_zeros}
use Rattle.root.specs.Whole.{whole_root, digits, halves}
use Rattle.root.specs.Root.{sqrt_of, root_finite}

-- the root of one pattern of bits is another
abbrev pub HasRoot : ℕ → ℕ → Type 0
HasRoot x r = sqrt_of (of_bits binary64 x) ≡ of_bits binary64 r

-- 4 and 2, 0.25 and 0.5, 1 + 2^-52 and 1, 1 - 2^-53 and itself, 2^-1074 and 2^-537, -0 and itself
abbrev pub StarredRoots : Type 0
StarredRoots =
    HasRoot 0x4010_0000_0000_0000 0x4000_0000_0000_0000
    × HasRoot 0x3fd0_0000_0000_0000 0x3fe0_0000_0000_0000
    × HasRoot 0x3ff0_0000_0000_0001 0x3ff0_0000_0000_0000
    × HasRoot 0x3fef_ffff_ffff_ffff 0x3fef_ffff_ffff_ffff
    × HasRoot 1 0x1e60_0000_0000_0000
    × HasRoot 0x8000_0000_0000_0000 0x8000_0000_0000_0000

pub starred_roots : StarredRoots
unfolding sqrt_of root_finite whole_root digits halves of_bits of_fields odd size span climb round units count_trailing_zeros
starred_roots = (refl, refl, refl, refl, refl, refl)
