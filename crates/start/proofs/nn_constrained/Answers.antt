-- `start::nn_constrained` meets its contract. The invariant: the steps still to come lead from the tour written so far
-- to where all of them lead from nothing; the room's rest is as it was. Assumes nothing.
use mathlib.Core.List.{[], ◌∷◌, ◌++◌}
use mathlib.Core.Path.{refl}
use Prim.Native.Nat.{◌<◌}
use native.Mathlib.Omega.{arith}
use lib.ListN.{length, length-set}
use Rattle.table.proofs.EachLaws.{begin-zero, carry, arrive}
use Rattle.start.specs.Code.{flag_count, stood}
use Rattle.start.proofs.FlagLaws.{flags_none, flags_more}
use Rattle.start.proofs.StepLaws.{way-told, step_waits, step_goes, last_written, rest_kept, written}
use Rattle.start.proofs.StepLaws.{unwritten}
use Rattle.start.proofs.nn_constrained.Goals as goal

pub returns-then-n-gt-CONTOURS : goal.returns-then-n-gt-CONTOURS
returns-then-n-gt-CONTOURS c = unwritten _ _ _ c.if-n-gt-CONTOURS.true

pub loop-init : goal.loop-init
unfolding stood
loop-init c = (([], flags_none flag_count, begin-zero _ _ _), omega arith, refl, refl, refl)

pub loop-preserved-in_default : goal.loop-preserved-in_default
loop-preserved-in_default c =
    let l = c.loop in
    let h : l.made < length l.tour = omega (arith, l.invariant.1) in (
      (
        l.invariant.0.0,
        l.invariant.0.1,
        carry _ _ _ _ _ _ l.invariant.0.2 c.loop-test.true
            (step_waits _ _ _ _ _ _ _ h
            (c.choose.ensures _ _ (way-told _ _ _ _ _ _ _ l.invariant.3) refl refl l.invariant.0.1)
            (rw c.in_default.is)),
      ),
      omega arith,
      l.invariant.2,
      l.invariant.3,
      l.invariant.4,
    )

pub loop-preserved : goal.loop-preserved
loop-preserved c =
    let l = c.loop in
    let h : l.made < length l.tour = omega (arith, l.invariant.1) in
    let k = c.in-Some.choice.contour in
    let room : k < length l.visited = omega (arith, l.invariant.2) in
    rw c.from.ensures (
      (
        l.invariant.0.0 ++ (k ∷ []),
        flags_more _ _ k room l.invariant.0.1,
        carry _ _ _ _ _ _ l.invariant.0.2 c.loop-test.true
            (step_goes _ _ _ _ _ _ _ h
            (c.in-Some.ensures _ _ (way-told _ _ _ _ _ _ _ l.invariant.3) refl refl l.invariant.0.1) refl),
      ),
      omega arith,
      simp length-set l.invariant.2,
      last_written l.tour l.made _ h,
      rest_kept l.tour c.args.tour.now l.made c.in-Some.choice.candidate l.invariant.4,
    )

pub returns : goal.returns
returns c =
    let l = c.loop in
    written _ _ _ _ _ _ refl c.if-n-gt-CONTOURS.false (omega (arith, l.invariant.1))
    (arrive _ _ _ _ _ l.invariant.0.2 c.loop-test.false) l.invariant.4
