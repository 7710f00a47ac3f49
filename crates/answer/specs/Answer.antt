-- What a question is answered with, and what a lookup finds. Assumes nothing.
use Rattle.std.specs.Prelude.{ℕ, Err, Ok, Option, Result}
use Rattle.answer.specs.declared.Refusal.{Refusal}

-- what was asked for, or why it goes back
abbrev pub Answer : Type 0 → Type 0
Answer A = Result A Refusal

-- nothing is wrong, or what is
abbrev pub Check : Type 0
Check = Answer (Unit {0})

-- the value, unless the check refuses
abbrev pub unless : {A : Type 0} → Check → A → Answer A
unless (Ok _) x = Ok x
unless (Err r) x = Err r

-- a count, or why there is none
abbrev pub Count : Type 0
Count = Answer ℕ

-- the place where something is, or that there is none
abbrev pub Found : Type 0
Found = Option ℕ
