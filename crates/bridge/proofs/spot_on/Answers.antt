-- `bridge::spot_on` meets its contract: by the edge that is found. Assumes nothing.
use Rattle.bridge.specs.Lookup.{spot_on}
use Rattle.bridge.proofs.spot_on.Goals as goal

pub returns-in-Some : goal.returns-in-Some
unfolding spot_on
returns-in-Some c = rw (
  ← c.whole_of.ensures,
  ← c.edge_on.ensures,
  c.in-Some.is,
  ← c.mark_at.ensures,
  ← c.edge_at.ensures,
)
    c.held_on.ensures

pub returns-in-None : goal.returns-in-None
unfolding spot_on
returns-in-None c = rw (← c.whole_of.ensures, ← c.edge_on.ensures, c.in-None.is)
    c.last_spot.ensures
