-- `candidates::first_vertex` meets its contract: one candidate, then blanks. Assumes nothing.
use Rattle.candidates.specs.Generate.{filled}
use Rattle.candidates.proofs.first_vertex.Goals as goal

pub returns : goal.returns
unfolding filled
returns c = rw (c.candidate_at.ensures, c.point_at.ensures)
