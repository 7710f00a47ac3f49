-- `text::Page::put_hex` meets its contract. Assumes nothing.
use Rattle.text.proofs.PageLaws.{put_as}
use Rattle.text.proofs.TextLaws.{hex_is}
use borrow.Author.Rules.{rules}
use Rattle.text.proofs.Page.put_hex.Goals as goal

pub returns : goal.returns
returns c = let d = c.hex-k.ensures in put_as _ _ _ _ c.put.ensures (hex_is _ _ _ (search rules) d.len d.digits)
