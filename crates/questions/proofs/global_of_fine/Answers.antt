-- `questions::global_of_fine` meets its contract. Assumes nothing.
use mathlib.Core.Path.{refl}
use native.Mathlib.Omega.{arith}
use Rattle.instance.proofs.PreparedLaws.{held_on}
use Rattle.questions.proofs.IndexLaws.{no_such_contour, rising, no_such_place, number_is}
use Rattle.questions.proofs.global_of_fine.Goals as goal

pub returns-then-all-contour : goal.returns-then-all-contour
returns-then-all-contour c =
    rw c.at.ensures (no_such_contour _ _ (held_on _ c.requires _ c.gather-all.ensures) _ _ c.if-all-contour.true)

pub bounds-all-contour : goal.bounds-all-contour
bounds-all-contour c = let h =
    (held_on _ c.requires _ c.gather-all.ensures) in omega arith

pub bounds-all-contour-2 : goal.bounds-all-contour-2
bounds-all-contour-2 c = let h =
    (held_on _ c.requires _ c.gather-all.ensures) in
    omega arith

pub overflow_sub-end : goal.overflow_sub-end
overflow_sub-end c =
    rising _ _ (held_on _ c.requires _
    c.gather-all.ensures) _ 0 c.if-all-contour.false _ _
    refl refl

pub returns-then-end-from : goal.returns-then-end-from
returns-then-end-from c =
    rw c.at-then-end-from.ensures (no_such_place _ _ (held_on _ c.requires _
    c.gather-all.ensures) _ _
    c.if-all-contour.false _ _ refl
    refl
    c.if-end-from.true)

pub returns : goal.returns
returns c =
    number_is _ _ (held_on _ c.requires _
    c.gather-all.ensures) _ _
    c.if-all-contour.false _ _ refl
    refl
    c.if-end-from.false
