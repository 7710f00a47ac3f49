-- `bridge::bridges_at` meets its contract: by what the check answers; the marks that are lent are the contour's.
-- Assumes nothing.
use Rattle.std.proofs.Common.{rules, Ok}
use mathlib.Core.Path.{sym, ap, ◌∙◌}
use mathlib.Core.List.{List}
use native.Mathlib.Omega.{arith}
use lib.Ieee.{Float}
use Rattle.points.specs.Points.{points}
use Rattle.bridge.specs.Create.{bridges_at}
use Rattle.bridge.specs.Question.{filled, bridges_of}
use Rattle.bridge.proofs.MarkLaws.{marks-held, marks_lent, marks_count}
use Rattle.bridge.proofs.QuestionLaws.{fine_few, fine_sized}
use Rattle.bridge.proofs.bridges_at.Goals as goal

pub marks_of-marks-requires : goal.marks_of-marks-requires
marks_of-marks-requires c = fine_sized _ _ _ (sym c.bridge_check.ensures ∙ c.in_ok-bridge_check.was)

pub overflow_add-end : goal.overflow_add-end
overflow_add-end c = omega arith

pub slice_bounds-marks-end : goal.slice_bounds-marks-end
slice_bounds-marks-end c = marks-held _ _ (fine_sized _ _ _ (sym c.bridge_check.ensures ∙ c.in_ok-bridge_check.was))
    c.marks_of-marks.ensures

pub slice_bounds-each_centre-end : goal.slice_bounds-each_centre-end
slice_bounds-each_centre-end c = marks_count _ _ (fine_sized _ _ _ (sym c.bridge_check.ensures ∙ c.in_ok-bridge_check.was))
    c.marks_of-marks.ensures

pub each_centre-requires : goal.each_centre-requires
each_centre-requires c = fine_few _ _ _ (sym c.bridge_check.ensures ∙ c.in_ok-bridge_check.was)

pub returns-in_err-bridge_check : goal.returns-in_err-bridge_check
unfolding bridges_of
returns-in_err-bridge_check c = search rules

pub returns : goal.returns
unfolding bridges_of
returns c =
    let s = c.args in
    let few = fine_sized _ _ _ (sym c.bridge_check.ensures ∙ c.in_ok-bridge_check.was) in
    rw (← c.bridge_check.ensures, c.in_ok-bridge_check.was, ← c.half_of.ensures)
    (ap Ok (c.each_centre.ensures
    ∙ ap (λ (ms : List Float). filled (bridges_at (points s.numbers.now) ms c.half_of.result
    s.centres.now)) (marks_lent _ _ few c.marks_of-marks.ensures)))
