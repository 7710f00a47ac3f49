-- `keep::note_ranks` meets its contract. Assumes nothing.
use mathlib.Core.Path.{refl}
use Rattle.keep.proofs.RankLaws.{ranks_none, ranks_more, ranks_all}
use Rattle.keep.proofs.note_ranks.Goals as goal

pub loop-i-init : goal.loop-i-init
loop-i-init c = ranks_none _ _ c.requires

pub loop-i-preserved : goal.loop-i-preserved
loop-i-preserved c = ranks_more _ _ _ _ _ refl (c.type_inv.order c.loop-i.i).fits c.loop-i-test.true c.loop-i.invariant

pub returns : goal.returns
returns c = ranks_all _ _ _ _ c.loop-i-test.false c.loop-i.invariant
