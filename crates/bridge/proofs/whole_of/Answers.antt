-- `bridge::whole_of` meets its contract: the last mark, no number where there is none. Assumes nothing.
use lib.Ieee.{nan, of_bits}
use Rattle.std.proofs.lemmas.Option.{unwrap_or-slice_get}
use Rattle.bridge.proofs.whole_of.Goals as goal

pub returns : goal.returns
unfolding of_bits
returns c =
    rw (c.unwrap_or.ensures, c.copied.ensures, c.last.ensures.value) (unwrap_or-slice_get c.args.marks.now _ nan)
