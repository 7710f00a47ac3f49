-- `candidates::last_spot` meets its contract: the last of the whole points. Assumes nothing.
use Rattle.std.proofs.Common.{sym}
use Rattle.candidates.proofs.AlongLaws.{last_of_lem}
use Rattle.candidates.proofs.last_spot.Goals as goal

pub returns : goal.returns
returns c = rw (c.point_at.ensures, c.saturating_sub-last.ensures) (sym (last_of_lem _))
