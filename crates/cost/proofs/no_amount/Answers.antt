-- `cost::no_amount` meets its contract: each way out is a law of finite numbers. Assumes nothing.
use Rattle.std.proofs.Common.{sym}
use Rattle.cost.proofs.AmountLaws.{finite_amount, endless_amount}
use Rattle.cost.proofs.no_amount.Goals as goal

pub returns-then-not-is_finite : goal.returns-then-not-is_finite
returns-then-not-is_finite c =
    rw c.if-not-is_finite.true (sym (endless_amount _ c.if-not-is_finite.ensures.value))

pub returns-else-not-is_finite : goal.returns-else-not-is_finite
returns-else-not-is_finite c = finite_amount _ c.if-not-is_finite.ensures.value
