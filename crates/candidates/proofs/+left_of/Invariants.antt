-- `candidates::left_of` ends: what is taken off grows. Assumes nothing.
use Prim.Native.Nat.{◌+◌, ◌-◌}
use Rattle.root.specs.Steps.{steps_of}
use Rattle.candidates.proofs.+left_of.Given as goal

abbrev pub decreases-left_of : goal.decreases-left_of
decreases-left_of l = steps_of l.x + 1 - steps_of l.y
