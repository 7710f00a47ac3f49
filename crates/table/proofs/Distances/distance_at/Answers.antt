-- `Distances::distance_at` meets its contract: the place of three bytes fits. Assumes nothing.
use native.Mathlib.Omega.{arith}
use Rattle.table.proofs.PlaceLaws.{row_small}
use Rattle.table.proofs.Distances.distance_at.Goals as goal

pub overflow_mul-from : goal.overflow_mul-from
overflow_mul-from c =
    rw (c.from.ensures, c.from-2.ensures)
    (omega (arith, row_small c.args.a c.args.self.now.count (omega arith) (omega arith)))

pub overflow_add-from : goal.overflow_add-from
overflow_add-from c =
    rw (c.from.ensures, c.from-2.ensures)
    (omega (arith, row_small c.args.a c.args.self.now.count (omega arith) (omega arith)))
