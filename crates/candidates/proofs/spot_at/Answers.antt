-- `candidates::spot_at` meets its contract: looking on, an edge at a time. Assumes nothing.
use Rattle.std.proofs.Common.{sym, ◌∙◌}
use Rattle.candidates.proofs.AlongLaws.{sought_start, sought_here, sought_on, sought_last}
use Rattle.candidates.proofs.spot_at.Goals as goal

pub loop-i-init : goal.loop-i-init
loop-i-init c = sought_start _ _

pub returns-then-on_the_way : goal.returns-then-on_the_way
returns-then-on_the_way c =
    let t = sym c.on_the_way.ensures ∙ c.if-on_the_way.true in
    rw (c.on_edge.ensures, c.edge_at-e.ensures)
    (sought_here _ _ _ _ c.loop-i-test.true c.loop-i.invariant
    (rw (c.length_of.ensures, c.edge_at-e.ensures) at t))

pub loop-i-preserved : goal.loop-i-preserved
loop-i-preserved c =
    let t = sym c.on_the_way.ensures ∙ c.if-on_the_way.false in
    rw (c.length_of.ensures, c.edge_at-e.ensures)
    (sought_on _ _ _ _ c.loop-i-test.true c.loop-i.invariant
    (rw (c.length_of.ensures, c.edge_at-e.ensures) at t))

pub returns : goal.returns
returns c = rw c.last_spot.ensures (sought_last _ _ _ _ c.loop-i-test.false c.loop-i.invariant)
