-- A check as one number, for hosts. Assumes nothing.
use Rattle.std.specs.Prelude.{ℕ, ◌+◌, ◌*◌, ◌^◌, ◌-◌, min, Err, Ok}
use Rattle.answer.specs.Answer.{Check}

-- nothing wrong is 0; a refusal is its number times 2^32 plus its place, a place beyond 32 bits shown as the largest
abbrev pub code_of : Check → ℕ
code_of (Ok _) = 0
code_of (Err r) = r.number * 2 ^ 32 + min r.place (2 ^ 32 - 1)
