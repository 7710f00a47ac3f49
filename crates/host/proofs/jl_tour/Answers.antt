-- `host::jl_tour` meets its contract: the library's own table is large enough, so a host is told what the tour's
-- door says. Assumes nothing.
use lib.ListN.{length-replicate}
use Rattle.points.specs.Numbers.{zero64}
use Rattle.table.specs.Distances.{entry_limit}
use Rattle.host.proofs.HostLaws.{host_refused, host_done}
use Rattle.host.proofs.jl_tour.Goals as goal

pub returns-in-Err : goal.returns-in-Err
returns-in-Err c =
    host_refused _ _ _ (length-replicate entry_limit zero64) _ _ _
    c.tour.ensures _ _ _ _
    c.in-Err.is c.told.ensures

pub returns-in-Ok : goal.returns-in-Ok
returns-in-Ok c =
    host_done _ _ _ (length-replicate entry_limit zero64) _ _ _
    c.tour.ensures _ _ _ _
    c.in-Ok.is c.bits_of.ensures
