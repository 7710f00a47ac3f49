-- `tour::tour_of_fine` meets its contract: the rooms' refusals, or what the search leaves behind at the front of each.
-- Assumes nothing.
use mathlib.Core.Path.{sym, ap, ◌∙◌}
use Prim.Native.Nat.{ℕ, ◌*◌}
use native.Mathlib.Omega.{arith}
use Rattle.instance.proofs.PreparedLaws.{prepared_on}
use Rattle.tour.proofs.DoorLaws.{room_refused, table_refused, rooms_passed, part_lent, toured_is}
use Rattle.tour.proofs.tour_of_fine.Goals as goal

pub returns-then-room-n : goal.returns-then-room-n
returns-then-room-n c =
    rw c.at.ensures (let h =
    (prepared_on _ c.requires _ c.prepare-p.ensures
    ).held in room_refused _ _ _ _ _ h.contours h.count c.if-room-n.true)

pub overflow_mul-distances : goal.overflow_mul-distances
overflow_mul-distances c = let h =
    (prepared_on _ c.requires _ c.prepare-p.ensures
    ).held in omega arith

pub returns-then-table-distances : goal.returns-then-table-distances
returns-then-table-distances c =
    rw c.at-then-table-distances.ensures (let h =
    (prepared_on _ c.requires _
    c.prepare-p.ensures).held in table_refused _ _ _ _ _ h.contours h.count
    c.if-room-n.false c.if-table-distances.true)

pub slice_bounds-run-end-2 : goal.slice_bounds-run-end-2
slice_bounds-run-end-2 c = part_lent _ _ c.if-room-n.false

pub slice_bounds-run-end-4 : goal.slice_bounds-run-end-4
slice_bounds-run-end-4 c = part_lent _ _ c.if-table-distances.false

pub run-requires : goal.run-requires
run-requires c =
    let fine = c.requires in
    let on = prepared_on _ fine _ c.prepare-p.ensures in record { card_value = fine; prepared_on = on; room_length = sym (part_lent _ _ c.if-room-n.false) ∙ on.held.contours; table_length = sym (part_lent _ _ c.if-table-distances.false) ∙ ap (λ (t : ℕ). t * t) on.held.count }

pub returns : goal.returns
returns c =
    let a = c.args in
    let p = c.prepare-p.result in
    let r = c.run in
    let h = (prepared_on _ c.requires _ c.prepare-p.ensures).held in
    rooms_passed a.card.now a.room.now a.table.now p.all.contours p.all.count h.contours
    h.count _ c.if-room-n.false
    c.if-table-distances.false
    (toured_is _ a.room.now _ a.table.now _ _ p.all.contours (p.all.count * p.all.count)
    r.ensures.solved r.auto.room r.ensures.table_after (ap (λ (t : ℕ). t * t) h.count))
