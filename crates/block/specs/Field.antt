-- Numbers in a list of bytes, the lowest byte first. A byte past the end reads 0. Assumes nothing.
use Rattle.std.specs.Prelude.{List, ℕ, ◌+◌, ◌*◌, get_or, Float}
use Rattle.std.specs.Float.{binary64}
use Rattle.std.specs.Float.Ieee.{of_bits}

-- the byte at an offset
abbrev pub byte_at : List ℕ → ℕ → ℕ
byte_at s at = get_or s at 0

-- two bytes
unfoldable pub u16_at : List ℕ → ℕ → ℕ
u16_at s at = byte_at s at + 256 * byte_at s (at + 1)

-- four bytes
unfoldable pub u32_at : List ℕ → ℕ → ℕ
unfolding u16_at
u32_at s at = u16_at s at + 65536 * u16_at s (at + 2)

-- eight bytes
unfoldable pub u64_at : List ℕ → ℕ → ℕ
unfolding u32_at
u64_at s at = u32_at s at + 4294967296 * u32_at s (at + 4)

-- eight bytes that are the bits of a binary64 number; every NaN pattern is the one NaN
unfoldable pub f64_at : List ℕ → ℕ → Float
unfolding u64_at of_bits
f64_at s at = of_bits binary64 (u64_at s at)
