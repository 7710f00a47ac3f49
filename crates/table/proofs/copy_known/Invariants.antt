-- `table::copy_known` meets its contract. The invariant: the first b entries of row a are copied, all else is kept.
-- Assumes nothing.
use mathlib.Core.Path.{◌≡◌}
use lib.Seq.{paste}
use Rattle.table.proofs.BackLaws.{column_of}
use Rattle.table.proofs.copy_known.Given as goal

abbrev pub invariant-loop-b : goal.invariant-loop-b
invariant-loop-b l = l.room ≡ paste l.initial.room l.at (column_of l.initial.room l.t l.a) l.b
