-- `improve::is_legal` meets its contract. The invariant: the contours of the places passed are written down. Assumes
-- nothing.
use mathlib.Core.Path.{◌≡◌}
use lib.ListN.{length, take}
use Rattle.closure.specs.Limits.{contour_limit}
use Rattle.improve.specs.Search.{contours}
use Rattle.improve.proofs.is_legal.Given as goal

abbrev pub invariant-loop-i : goal.invariant-loop-i
invariant-loop-i l =
    (length l.order ≡ contour_limit) × (take l.i l.order ≡ contours l.chart.owner.now (take l.i l.tour))
