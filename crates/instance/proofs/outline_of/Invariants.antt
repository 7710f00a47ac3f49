-- `instance::outline_of` meets its contract. Assumes nothing.
use mathlib.Core.Path.{◌≡◌}
use Rattle.instance.proofs.GatherLaws.{numbers_at}
use Rattle.instance.proofs.outline_of.Given as goal

-- the numbers of the first j vertices stand in their room
abbrev pub invariant-loop-j : goal.invariant-loop-j
invariant-loop-j l = l.numbers ≡ numbers_at l.card l.k l.j
