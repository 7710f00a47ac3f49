-- `cost::home_and_legs` meets its contract: the place after the first bad point is one. Assumes nothing.
use Rattle.std.proofs.Common.{sym, ◌∙◌, arith}
use Rattle.cost.proofs.RapidLaws.{bad_within}
use Rattle.cost.proofs.home_and_legs.Goals as goal

pub overflow_add-k : goal.overflow_add-k
overflow_add-k c =
    omega (arith, bad_within _ _ _ (sym c.first_bad.ensures ∙ c.in-Some.is))
