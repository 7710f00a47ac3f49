-- `bridge::mark_at` meets its contract: past the end it is no number. Assumes nothing.
use native.Mathlib.Nat.{le_refl}
use lib.Ieee.{nan, of_bits}
use Rattle.bridge.proofs.mark_at.Goals as goal

pub returns : goal.returns
unfolding of_bits
returns c = rw (c.unwrap_or.ensures, c.copied.ensures) (c.get.ensures.lookup.4 (le_refl c.args.k) nan)
