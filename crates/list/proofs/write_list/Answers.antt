-- `list::write_list` meets its contract. Assumes nothing.
use borrow.Author.Rules.{rules}
use Rattle.text.proofs.PageLaws.{goes_on, handed_back}
use Rattle.list.proofs.write_list.Goals as goal

pub returns-clause-page_after : goal.returns-clause-page_after
returns-clause-page_after c = handed_back _ _ _ _ c.new-page.ensures c.put_list.ensures _ (search rules)

pub returns-clause-value : goal.returns-clause-value
returns-clause-value c = goes_on _ _ _ _ c.new-page.ensures c.put_list.ensures
