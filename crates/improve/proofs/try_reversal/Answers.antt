-- `improve::try_reversal` meets its contract: a stretch reversed twice is as it was. Assumes nothing.
use native.Mathlib.Omega.{arith}
use Rattle.improve.specs.Code.{charted}
use Rattle.improve.specs.Search.{length_in, legal}
use Rattle.improve.proofs.TrialLaws.{reversal-held, reversal-back}
use Rattle.improve.proofs.try_reversal.Goals as goal

pub returns-then-is_none : goal.returns-then-is_none
returns-then-is_none c =
    let chart = charted c.args.chart.now in
    reversal-back (length_in chart) (legal chart) c.args.i c.args.j c.args.tour.now _ c.args.cost _ c.reverse.ensures
    c.weigh-accepted.ensures _ (omega arith) (omega arith) c.reverse-then-is_none.ensures
    (rw (c.is_none.ensures, c.if-is_none.true))

pub returns-else-is_none : goal.returns-else-is_none
returns-else-is_none c =
    let chart = charted c.args.chart.now in
    reversal-held (length_in chart) (legal chart) c.args.i c.args.j c.args.tour.now _ c.args.cost _ c.reverse.ensures
    c.weigh-accepted.ensures (rw (c.is_none.ensures, c.if-is_none.false))
