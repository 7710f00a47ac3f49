-- `table::float_at` meets its contract: past the end it is the quotient of two zeros, which is no number.
-- Assumes nothing.
use mathlib.Core.Path.{◌∙◌}
use native.Mathlib.Omega.{arith}
use lib.Ieee.{nan, div, of_bits, of_fields, odd}
use Rattle.table.proofs.float_at.Goals as goal

pub returns : goal.returns
unfolding div of_bits of_fields odd
returns c = c.unwrap_or.ensures ∙ rw c.copied.ensures (c.get.ensures.lookup.4 (omega arith) nan)
