-- `bridge::bridge_at` meets its contract: each number is worked out as the definition has it. Assumes nothing.
use Rattle.bridge.specs.Create.{starts_at, ends_at, bridge_at}
use Rattle.bridge.proofs.bridge_at.Goals as goal

pub returns : goal.returns
unfolding bridge_at starts_at ends_at
returns c =
    rw (
      c.place_on.ensures,
      c.mark_at.ensures,
      c.length_of-length.ensures,
      c.edge_at.ensures,
      c.spot_on-between.ensures,
      c.spot_on-last.ensures,
      c.spot_on-first.ensures,
      c.whole_of-whole.ensures,
    )
