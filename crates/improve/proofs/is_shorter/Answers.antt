-- `improve::is_shorter` meets its contract. Assumes nothing.
use borrow.Author.Rules.{rules}
use Rattle.improve.specs.Search.{shorter}
use Rattle.improve.proofs.is_shorter.Goals as goal

pub returns : goal.returns
unfolding shorter
returns c = search rules
