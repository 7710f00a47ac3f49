-- `text::Page::put_byte` meets its contract. Assumes nothing.
use mathlib.Core.Path.{ap}
use Rattle.text.specs.OnPage.{left}
use Rattle.text.proofs.PageLaws.{byte_put, byte_left}
use Rattle.text.proofs.Page.put_byte.Goals as goal

pub returns-then-self : goal.returns-then-self
returns-then-self c = ap (left c.args.self.now) (byte_put _ _ _ c.if-self.true)

pub returns-else-self : goal.returns-else-self
returns-else-self c = ap (left c.args.self.now) (byte_left _ _ _ c.if-self.false)
