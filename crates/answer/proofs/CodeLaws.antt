-- A refusal's code holds its number and, below 2^32, its place. Assumes nothing.
use Rattle.std.specs.Prelude.{Err}
use mathlib.Core.Path.{◌≡◌}
use Prim.Native.Nat.{◌^◌, ◌/◌, ◌%◌, ◌<◌}
use native.Mathlib.Omega.{arith}
use Rattle.answer.specs.declared.Refusal.{Refusal}
use Rattle.answer.specs.Code.{code_of}

pub code-number : (r : Refusal) → code_of (Err r) / 2 ^ 32 ≡ r.number
code-number r = omega arith

pub code_place : (r : Refusal) → r.place < 2 ^ 32 → code_of (Err r) % 2 ^ 32 ≡ r.place
code_place r h = omega arith
