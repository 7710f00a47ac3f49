-- `table::fill_row` meets its contract. The invariant: the first b entries are filled, the rest of the room kept.
-- Assumes nothing.
use mathlib.Core.Path.{◌≡◌}
use native.Mathlib.Omega.{arith}
use Rattle.table.proofs.FillLaws.{begun_with}
use Rattle.table.proofs.RoomLaws.{row_more, row_all}
use Rattle.table.proofs.fill_row.Goals as goal

pub loop-b-init : goal.loop-b-init
loop-b-init c = begun_with c.args.known _ _ c.requires.known_le_t.1

pub loop-b-preserved : goal.loop-b-preserved
loop-b-preserved c =
    row_more _ _ _ _ _ _ _ c.loop-b.invariant _ _ _ c.requires.t_le_candidate_limit.1
    c.loop-b-test.true c.requires.t_bound c.byte_at-k.ensures
    c.byte_at.ensures c.leg.ensures

pub returns : goal.returns
returns c = let e : c.loop-b.b ≡ c.args.t =
    omega arith in row_all _ _ _ _ _ _ _ c.loop-b.invariant e
