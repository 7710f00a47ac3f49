-- Of several checks in a row, the first that refuses is the one told. Assumes nothing.
use Rattle.std.specs.Prelude.{List, [], ◌∷◌, Err, Ok}
use Rattle.answer.specs.Answer.{Check}

-- the first check, unless nothing is wrong there: then the second
abbrev pub or_else : Check → Check → Check
or_else (Ok _) b = b
or_else (Err r) b = Err r

-- the first stage that refuses; Fine where none does
unfoldable pub first_refusal : List Check → Check
first_refusal [] = Ok tt
first_refusal (a ∷ more) = or_else a (first_refusal more)
