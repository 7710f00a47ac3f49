-- `text::Page::put_decimal` meets its contract. Assumes nothing.
use Rattle.text.proofs.PageLaws.{put_as}
use Rattle.text.proofs.TextLaws.{decimal_is}
use borrow.Author.Rules.{rules}
use Rattle.text.proofs.Page.put_decimal.Goals as goal

pub returns : goal.returns
returns c = let d = c.decimal-k.ensures in put_as _ _ _ _ c.put.ensures (decimal_is _ _ _ (search rules) d.len d.digits)
