-- `hierarchy::list_free` meets its contract. Assumes nothing.
use Rattle.hierarchy.proofs.SortLaws.{free-none, free_yes, free_no, free_all}
use Rattle.hierarchy.proofs.list_free.Goals as goal
use Rattle.hierarchy.proofs.list_free.Goals.{then-waits-k-eq0, else-waits-k-eq0}

pub loop-k-init : goal.loop-k-init
loop-k-init c = free-none _ _ _ c.requires.1

pub loop-k-preserved : goal.loop-k-preserved
loop-k-preserved c =
    let more = c.loop-k-test.true in
    let part = c.loop-k.invariant in
    elim c.if-waits-k-eq0.branch [
      | then-waits-k-eq0 w ↦ rw (w.order-is, w.count-is)
          (free_yes _ _ _ _ _ c.requires.0 more part w.if-waits-k-eq0.true)
      | else-waits-k-eq0 w ↦ rw (w.order-is, w.count-is)
          (free_no _ _ _ _ _ c.requires.0 more part w.if-waits-k-eq0.false)
    ]

pub returns : goal.returns
returns c = free_all _ _ _ _ _ c.loop-k-test.false c.loop-k.invariant
