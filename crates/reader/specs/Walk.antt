-- Fields that follow each other, walked in file order. Assumes nothing.
use Rattle.std.specs.Prelude.{List, [], ◌∷◌, ℕ, replicate}
use Rattle.reader.specs.declared.Width.{Width}
use Rattle.reader.specs.declared.Width.TheVariants.{Eight}
use Rattle.reader.specs.Fields.{field_at}

-- the values of fields of these widths, from a place on
unfoldable pub walk : List ℕ → ℕ → List Width → List ℕ
walk s at [] = []
walk s at (w ∷ ws) = (field_at s at w).value ∷ walk s (field_at s at w).after ws

-- so many fields of eight bytes
abbrev pub eights : ℕ → List Width
eights n = replicate n Eight
