-- `bridge::bad_width` meets its contract: each side is a law of widths. Assumes nothing.
use mathlib.Core.Path.{sym}
use Rattle.bridge.proofs.QuestionLaws.{wide_or_not, not-above}
use Rattle.bridge.proofs.bad_width.Goals as goal
use Rattle.bridge.proofs.bad_width.Goals.{then-width, else-width}

pub returns : goal.returns
returns c =
    elim c.if-width.branch [
      | then-width w ↦ rw (w.result-is, w.half_of.ensures) (wide_or_not _ _ w.if-width.true)
      | else-width w ↦ rw (w.result-is, w.if-width.false) (sym (not-above _ _ w.if-width.false))
    ]
