-- `hierarchy::tally` meets its contract. Assumes nothing.
use mathlib.Core.Path.{sym, ◌∙◌}
use Rattle.hierarchy.proofs.SortLaws.{tally-none, tally_hit, tally_miss, tally_all}
use Rattle.hierarchy.proofs.tally.Goals as goal
use Rattle.hierarchy.proofs.tally.Goals.{then-both_below, else-both_below}

pub loop-b-init : goal.loop-b-init
loop-b-init c = tally-none _ _

pub loop-b-preserved : goal.loop-b-preserved
loop-b-preserved c =
    let part = c.loop-b.invariant in
    elim c.if-both_below.branch [
      | then-both_below w ↦ rw w.waits-is
          (tally_hit _ _ _ _ c.loop-b-test.true part (sym c.both_below.ensures ∙ w.if-both_below.true) c.requires)
      | else-both_below w ↦ rw w.waits-is
          (tally_miss _ _ _ _ c.loop-b-test.true part (sym c.both_below.ensures ∙ w.if-both_below.false))
    ]

pub returns : goal.returns
returns c = tally_all _ c.args.pairs.now _ _ _ c.as_chunks.ensures.front c.loop-b-test.false c.loop-b.invariant
