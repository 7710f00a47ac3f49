-- `hierarchy::release` meets its contract. Assumes nothing.
use Rattle.hierarchy.proofs.SortLaws.{release-none, release_hit, release_miss, release_low, release_all}
use Rattle.hierarchy.proofs.release.Goals as goal
use Rattle.hierarchy.proofs.release.Goals.{then-counts, else-counts}

pub loop-b-init : goal.loop-b-init
loop-b-init c = release-none _ _ _ _ _ _ c.requires.1

pub loosen-count-requires : goal.loosen-count-requires
loosen-count-requires c = (
  release_low _ _ _ _ _ _ _ _ _ c.loop-b-test.true c.loop-b.invariant c.counts.ensures c.requires.0 c.if-counts.true,
  c.loop-b.invariant.roomy,
)

pub loop-b-preserved : goal.loop-b-preserved
loop-b-preserved c =
    let more = c.loop-b-test.true in
    let part = c.loop-b.invariant in
    elim c.if-counts.branch [
      | then-counts w ↦ rw (w.waits-is, w.order-is, w.count-is)
          (release_hit _ _ _ _ _ _ _ _ _ more part c.counts.ensures _ _ _ w.if-counts.true w.loosen-count.ensures)
      | else-counts w ↦ rw (w.waits-is, w.order-is, w.count-is)
          (release_miss _ _ _ _ _ _ _ _ _ more part c.counts.ensures w.if-counts.false)
    ]

pub returns : goal.returns
returns c =
    release_all _ _ c.args.pairs.now _ _ _ _ _ _ c.as_chunks.ensures.front c.loop-b-test.false c.loop-b.invariant
