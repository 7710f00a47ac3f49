-- `questions::place_of_fine` meets its contract. Assumes nothing.
use mathlib.Core.Path.{◌∙◌}
use Rattle.instance.proofs.PreparedLaws.{held_on}
use Rattle.questions.proofs.IndexLaws.{no_such_number, place_on_lem, place_is}
use Rattle.questions.proofs.place_of_fine.Goals as goal

pub returns-then-all-a : goal.returns-then-all-a
returns-then-all-a c =
    rw c.at.ensures (no_such_number _ _ (held_on _ c.requires _ c.gather-all.ensures) _
    c.if-all-a.true)

pub returns : goal.returns
returns c =
    let fine = c.requires in
    let is = c.gather-all.ensures in
    place_is _ _ (held_on _ fine _ is) _ _ c.if-all-a.false (c.locate.ensures ∙ place_on_lem _ fine _ is _)
