-- `questions::candidate_of_fine` meets its contract. Assumes nothing.
use native.Mathlib.Omega.{arith}
use Rattle.instance.proofs.PreparedLaws.{held_on}
use Rattle.questions.proofs.IndexLaws.{no_such_candidate, candidate_is}
use Rattle.questions.proofs.candidate_of_fine.Goals as goal

pub returns-then-all-number : goal.returns-then-all-number
returns-then-all-number c =
    rw c.at.ensures (no_such_candidate _ _ (held_on _ c.requires _ c.gather-all.ensures) _ c.if-all-number.true)

pub offset_bounds-all-number : goal.offset_bounds-all-number
offset_bounds-all-number c = let h =
    held_on _ c.requires _ c.gather-all.ensures in omega arith

pub bounds-all-number : goal.bounds-all-number
bounds-all-number c = let h =
    held_on _ c.requires _ c.gather-all.ensures in omega arith

pub returns : goal.returns
returns c =
    candidate_is _ _ (held_on _ c.requires _
    c.gather-all.ensures) _ _ c.if-all-number.false
