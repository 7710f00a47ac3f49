-- `points::point_at` meets its contract: a whole point by `points-at`, past the last one `point-past`. Assumes nothing.
use mathlib.Core.Path.{sym}
use lib.Ieee.{of_bits}
use Rattle.points.proofs.PointLaws.{points-at, point-past}
use Rattle.points.proofs.point_at.Goals as goal

pub returns-then-k-numbers : goal.returns-then-k-numbers
returns-then-k-numbers c = sym (points-at _ _ c.if-k-numbers.true)

pub returns-else-k-numbers : goal.returns-else-k-numbers
unfolding of_bits
returns-else-k-numbers c = sym (point-past _ _ c.if-k-numbers.false)
