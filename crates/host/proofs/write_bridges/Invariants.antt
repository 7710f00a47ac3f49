-- `host::write_bridges` meets its contract. The loop's invariant: the first k bridges stand in the room. Assumes
-- nothing.
use Rattle.host.proofs.BridgeLaws.{Stood}
use Rattle.host.proofs.write_bridges.Given as goal

abbrev pub invariant-loop-k : goal.invariant-loop-k
invariant-loop-k l = Stood l.fn.found.items l.initial.room l.room l.k
