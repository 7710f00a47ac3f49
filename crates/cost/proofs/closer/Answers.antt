-- `cost::closer` meets its contract: step by step what the definition names, and then its test. Assumes nothing.
use Rattle.cost.specs.Closest.{closer_of}
use Rattle.cost.proofs.closer.Goals as goal

pub returns-then-distance-best : goal.returns-then-distance-best
unfolding closer_of
returns-then-distance-best c =
    rw (
      ← c.foot.ensures,
      ←
          c.clamp-t.ensures,
      ← c.along-point.ensures,
      ←
          c.distance_sq-distance.ensures,
      c.if-distance-best.true,
    )

pub returns : goal.returns
unfolding closer_of
returns c =
    rw (
      ← c.foot.ensures,
      ←
          c.clamp-t.ensures,
      ← c.along-point.ensures,
      ←
          c.distance_sq-distance.ensures,
      c.if-distance-best.false,
    )
