-- `hierarchy::loosen` meets its contract. Assumes nothing.
use Rattle.hierarchy.proofs.SortLaws.{room_left, loosen_last, loosen-one}
use Rattle.hierarchy.proofs.loosen.Goals as goal

pub bounds-order-count : goal.bounds-order-count
bounds-order-count c = room_left _ _ _ _ c.requires.1 c.requires.0 c.if-w-eq1.true

pub returns-then-w-eq1 : goal.returns-then-w-eq1
returns-then-w-eq1 c = loosen_last _ _ _ _ c.requires.1 c.requires.0 c.if-w-eq1.true

pub returns : goal.returns
returns c = loosen-one _ _ _ _ c.requires.1 c.requires.0 _ c.saturating_sub.ensures c.if-w-eq1.false
