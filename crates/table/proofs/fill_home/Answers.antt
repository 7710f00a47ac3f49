-- `table::fill_home` meets its contract. The invariant: the first a entries are filled, the rest of the room kept.
-- Assumes nothing.
use mathlib.Core.Path.{refl}
use native.Mathlib.Omega.{arith}
use lib.ListN.{length-take}
use Rattle.table.specs.Distances.{listed}
use Rattle.table.proofs.RoomLaws.{home_many, home_short, home_all, home_more}
use Rattle.table.proofs.fill_home.Goals as goal
use Rattle.table.proofs.fill_home.Goals.{then-t-gt-CANDIDATES-via-then-t-gt-CANDIDATES}
use Rattle.table.proofs.fill_home.Goals.{then-t-gt-CANDIDATES-via-else-t-gt-CANDIDATES+then-room-t}

pub returns-then-t-gt-CANDIDATES : goal.returns-then-t-gt-CANDIDATES
returns-then-t-gt-CANDIDATES c = elim c.then-t-gt-CANDIDATES.branch [
  | then-t-gt-CANDIDATES-via-then-t-gt-CANDIDATES w ↦ home_many _ _ _ _ w.if-t-gt-CANDIDATES.true
  | then-t-gt-CANDIDATES-via-else-t-gt-CANDIDATES+then-room-t w ↦
      home_short _ _ _ _ (omega arith) c.well_formed.1.0.1.0.1 w.if-room-t.true
]

pub loop-a-init : goal.loop-a-init
unfolding listed
loop-a-init c = refl

pub loop-a-preserved : goal.loop-a-preserved
loop-a-preserved c =
    home_more _ _ _ _ _ _ c.loop-a.invariant _ (omega (arith, length-take c.args.t c.args.items)) (omega arith)
    c.distance.ensures

pub returns : goal.returns
returns c =
    home_all _ _ _ _ _ _ c.loop-a.invariant (omega arith) (omega arith) c.well_formed.1.0.1.0.1
    (omega (arith, length-take c.args.t c.args.items))
