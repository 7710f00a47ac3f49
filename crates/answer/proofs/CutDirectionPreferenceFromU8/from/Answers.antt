-- A direction asked for from a byte meets its contract: the arm decides. Assumes nothing.
use Rattle.std.proofs.Common.{arith}
use Rattle.std.proofs.lemmas.Bool.Decides.{nat_tests}
use Rattle.answer.specs.Kinds.{as_preference}
use Rattle.answer.proofs.CutDirectionPreferenceFromU8.from.Goals as goal

pub returns-in-0 : goal.returns-in-0
unfolding as_preference
returns-in-0 c = grind (arith, nat_tests)

pub returns-in-1 : goal.returns-in-1
unfolding as_preference
returns-in-1 c = grind (arith, nat_tests)

pub returns-in_default : goal.returns-in_default
unfolding as_preference
returns-in_default c = grind (arith, nat_tests)
