-- `improve::at_limit` meets its contract. Assumes nothing.
use native.Mathlib.Omega.{arith}
use borrow.Author.Tests.{lt-ltb}
use Rattle.improve.specs.Search.{at_limit}
use Rattle.improve.proofs.at_limit.Goals as goal

pub returns-then-limit-ne0 : goal.returns-then-limit-ne0
unfolding at_limit
returns-then-limit-ne0 c = rw (c.from.ensures, lt-ltb 0 c.args.limit (omega arith))

pub returns-else-limit-ne0 : goal.returns-else-limit-ne0
unfolding at_limit
returns-else-limit-ne0 c = rw c.if-limit-ne0.false
