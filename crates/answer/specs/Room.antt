-- Rooms: a list written to the front of one whose rest is kept, and a list in a room of fixed size. Assumes nothing.
use Rattle.std.specs.Prelude.{List, ◌++◌, ℕ, ◌-◌, length, drop, replicate}
use Rattle.answer.specs.declared.Listed.{Listed}

-- a list written to the front of a room, whose rest is kept
abbrev pub placed : {A : Type 0} → List A → List A → List A
placed l room = l ++ drop (length l) room

-- a list in a room for so many, what is not used spare
abbrev pub padded : {A : Type 0} → ℕ → A → List A → List A
padded size spare l = l ++ replicate (size - length l) spare

-- such a list with its length, as it is handed out
abbrev pub listed : {A : Type 0} (size : ℕ) → A → List A → Listed A size
listed size spare l = record { items = padded size spare l; count = length l }
