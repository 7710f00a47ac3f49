-- `bridge::way_check` meets its contract: the place after the first centre off the way fits. Assumes nothing.
use mathlib.Core.Path.{sym, ◌∙◌}
use native.Mathlib.Omega.{arith}
use Rattle.bridge.proofs.QuestionLaws.{off_within}
use Rattle.bridge.proofs.way_check.Goals as goal

pub overflow_add-k : goal.overflow_add-k
overflow_add-k c =
    omega (arith, off_within _ _ _ (sym c.first_off.ensures ∙ c.in-Some.is))
