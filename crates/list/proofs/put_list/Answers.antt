-- `list::put_list` meets its contract. Assumes nothing.
-- the rooms for the tour and the table
use Prim.Native.Nat.{ℕ}
use mathlib.Core.Path.{◌≡◌}
use lib.ListN.{length, replicate, length-replicate}
use lib.Ieee.{of_bits, binary64}
use Rattle.closure.specs.Limits.{contour_limit}
use Rattle.table.specs.Distances.{entry_limit}
use Rattle.text.proofs.PageLaws.{put_as}
use Rattle.list.proofs.DoorLaws.{refused-listed, done_fine, tour_within_lem, tour_whole, done_listed}
use Rattle.list.proofs.LineLaws.{contours_read_lem}
use Rattle.list.proofs.put_list.Goals as goal

seats : length {A = ℕ} (replicate contour_limit 0) ≡ contour_limit
seats = length-replicate {A = ℕ} contour_limit 0

entries : length (replicate entry_limit (of_bits binary64 0)) ≡ entry_limit
entries = length-replicate entry_limit (of_bits binary64 0)

pub slice_bounds-room-end : goal.slice_bounds-room-end
slice_bounds-room-end c =
    tour_within_lem _ _ _ seats entries _ _ _ c.tour.ensures _
    c.in-Ok.is _ (contours_read_lem _ _ c.read_head-n.ensures)

pub slice_bounds-put_tour-end : goal.slice_bounds-put_tour-end
slice_bounds-put_tour-end c =
    tour_whole _ _ _ seats entries _ _ _ c.tour.ensures _
    c.in-Ok.is _ (contours_read_lem _ _ c.read_head-n.ensures)

pub put_tour-requires : goal.put_tour-requires
put_tour-requires c =
    done_fine _ _ _ seats entries _ _ _ c.tour.ensures _ c.in-Ok.is

pub returns-in-Err : goal.returns-in-Err
returns-in-Err c =
    put_as _ _ _ _ c.put_refusal.ensures
    (refused-listed _ _ _ seats entries _ _ _ c.tour.ensures _ c.in-Err.is)

pub returns-in-Ok : goal.returns-in-Ok
returns-in-Ok c =
    put_as _ _ _ _ c.put_tour.ensures
    (done_listed _ _ _ seats entries _ _ _ c.tour.ensures _ c.in-Ok.is _
    (contours_read_lem _ _ c.read_head-n.ensures))
