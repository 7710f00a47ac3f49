-- `table::fill_table` meets its contract. The invariant: the first a rows are filled, the rest of the room kept.
-- Assumes nothing.
use mathlib.Core.Bool.{◌&&◌}
use mathlib.Core.Path.{◌≡◌}
use native.Mathlib.Nat.{zero-mul}
use native.Mathlib.Omega.{arith}
use borrow.Author.Count.{below_none}
use lib.ListN.{length-take, length-drop}
use Rattle.table.specs.Distances.{chained}
use Rattle.table.proofs.PlaceLaws.{row_fits}
use Rattle.table.proofs.RoomLaws.{table_many, table_short, table_all}
use Rattle.table.proofs.BackLaws.{closed_more, known_some, row-begun, row_done}
use Rattle.table.proofs.fill_table.Goals as goal
use Rattle.table.proofs.fill_table.Goals.{then-t-gt-CANDIDATES-via-then-t-gt-CANDIDATES}
use Rattle.table.proofs.fill_table.Goals.{then-t-gt-CANDIDATES-via-else-t-gt-CANDIDATES+then-room-t}

pub returns-then-t-gt-CANDIDATES : goal.returns-then-t-gt-CANDIDATES
returns-then-t-gt-CANDIDATES c = elim c.then-t-gt-CANDIDATES.branch [
  | then-t-gt-CANDIDATES-via-then-t-gt-CANDIDATES w ↦ table_many _ _ _ _ w.if-t-gt-CANDIDATES.true
  | then-t-gt-CANDIDATES-via-else-t-gt-CANDIDATES+then-room-t w ↦
      table_short _ _ _ _ (omega arith) c.well_formed.1.0.1.0.1 w.if-room-t.true
]

pub loop-a-init : goal.loop-a-init
unfolding chained
loop-a-init c = (rw (zero-mul), λ e. below_none _)

pub copy_known-requires : goal.copy_known-requires
copy_known-requires c =
    let h = c.loop-a in
    let asked = c.is_closed-closed in
    let known = c.known_in-known in
    let some = known_some (h.closed && asked.result) h.a known.result known.ensures in
    record { t_le_candidate_limit = (omega arith, (omega arith, some.0)); t_bound = omega arith }

pub fill_row-requires : goal.fill_row-requires
fill_row-requires c =
    let s = c.args in
    let items = s.items in
    let h = c.loop-a in
    let asked = c.is_closed-closed in
    let known = c.known_in-known in
    let some = known_some (h.closed && asked.result) h.a known.result known.ensures in
    let copy = c.copy_known in record {
      t_le_candidate_limit = (omega arith, omega arith);
      t_bound = simp (length-take, length-drop) (omega (arith, row_fits h.a s.t s.t (omega arith)));
      known_le_t = (
        omega (arith, some.0),
        row-begun items s.t s.owner.now h.a known.result s.room.now h.room
            copy.new.room h.invariant.0 (omega arith) some.0
            (λ k. closed_more items h.closed asked.result h.a h.invariant.1 asked.ensures (some.1 k))
            (omega arith) copy.ensures,
      );
    }

pub loop-a-preserved : goal.loop-a-preserved
loop-a-preserved c =
    let s = c.args in
    let items = s.items in
    let h = c.loop-a in
    let asked = c.is_closed-closed in
    let closed = closed_more items h.closed asked.result h.a h.invariant.1 asked.ensures in
    let known = c.known_in-known in
    let some = known_some (h.closed && asked.result) h.a known.result known.ensures in
    let copy = c.copy_known in
    let row = c.fill_row in (
      row_done items s.t s.owner.now h.a known.result s.room.now h.room
          copy.new.room h.invariant.0 (omega arith) some.0 (λ k. closed (some.1 k)) (omega arith) copy.ensures
          row.new.room row.ensures,
      closed,
    )

pub returns : goal.returns
returns c =
    let e : c.loop-a.a ≡ c.args.t = omega arith in
    table_all _ _ _ _ _ _ c.loop-a.invariant.0 (omega arith) (omega arith) c.well_formed.1.0.1.0.1 e
