-- `text::Page::put_number` meets its contract. Assumes nothing.
use Rattle.text.proofs.PageLaws.{put_on}
use Rattle.text.proofs.Page.put_number.Goals as goal

pub returns : goal.returns
returns c = put_on _ _ _ _ _ c.put.ensures c.put_decimal.ensures
