-- `table::copy_known` meets its contract. The invariant: the first b entries of row a are copied, all else is kept.
-- Assumes nothing.
use mathlib.Core.Path.{◌≡◌}
use Prim.Native.Nat.{◌*◌}
use native.Mathlib.Omega.{arith}
use lib.Seq.{paste-zero}
use Rattle.table.proofs.BackLaws.{column_of, copied_more}
use Rattle.table.proofs.copy_known.Goals as goal

pub loop-b-init : goal.loop-b-init
loop-b-init c = let s = c.args in
    paste-zero s.room.now (s.a * s.t) (column_of s.room.now s.t s.a)

pub loop-b-preserved : goal.loop-b-preserved
loop-b-preserved c =
    copied_more _ _ _ _ _ c.loop-b.invariant c.requires.t_le_candidate_limit.1.0 (omega arith) c.requires.t_bound

pub returns : goal.returns
returns c =
    let s = c.args in
    let h = c.loop-b in
    let e : h.b ≡ s.known = omega arith in
    rw e at h.invariant
