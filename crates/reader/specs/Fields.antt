-- A field at a place: its value, by the reading of that many bytes, and the place after it. Assumes nothing.
use Rattle.std.specs.Prelude.{List, ℕ, ◌+◌, min, length}
use Rattle.block.specs.Field.{byte_at, u16_at, u32_at, u64_at}
use Rattle.reader.specs.declared.Width.{Width}
use Rattle.reader.specs.declared.Width.TheVariants.{One, Two, Four, Eight}
use Rattle.reader.specs.declared.Field.{Field}

-- how many bytes that is
abbrev pub bytes_of : Width → ℕ
bytes_of One = 1
bytes_of Two = 2
bytes_of Four = 4
bytes_of Eight = 8

-- the number that so many bytes are
abbrev pub value_at : List ℕ → ℕ → Width → ℕ
value_at s at One = byte_at s at
value_at s at Two = u16_at s at
value_at s at Four = u32_at s at
value_at s at Eight = u64_at s at

-- the field at a place; after it comes the next byte's place, or the end
abbrev pub field_at : List ℕ → ℕ → Width → Field
field_at s at w = record { value = value_at s at w; after = min (at + bytes_of w) (length s) }
