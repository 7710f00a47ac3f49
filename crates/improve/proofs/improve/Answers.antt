-- `improve::improve` meets its contract: a tour that is not worth a search is left alone. Assumes nothing.
use Rattle.improve.proofs.PassLaws.{no_passes, too_few, too_many, worthy}
use Rattle.improve.proofs.improve.Goals as goal
use Rattle.improve.proofs.improve.Goals.{then-passes-eq0-via-then-passes-eq0}
use Rattle.improve.proofs.improve.Goals.{then-passes-eq0-via-else-passes-eq0+then-tour-lt3}
use Rattle.improve.proofs.improve.Goals.{then-passes-eq0-via-else-passes-eq0+else-tour-lt3+then-tour-gt-CONTOURS}

pub returns-then-passes-eq0 : goal.returns-then-passes-eq0
returns-then-passes-eq0 c = elim c.then-passes-eq0.branch [
  | then-passes-eq0-via-then-passes-eq0 w ↦ no_passes _ _ _ _ w.if-passes-eq0.true
  | then-passes-eq0-via-else-passes-eq0+then-tour-lt3 w ↦ too_few _ _ _ _ w.if-tour-lt3.true
  | then-passes-eq0-via-else-passes-eq0+else-tour-lt3+then-tour-gt-CONTOURS w ↦
      too_many _ _ _ _ w.if-tour-gt-CONTOURS.true
]

pub returns : goal.returns
returns c =
    worthy _ _ _ _ _ _ c.if-passes-eq0.false c.if-tour-lt3.false c.if-tour-gt-CONTOURS.false c.run.ensures
