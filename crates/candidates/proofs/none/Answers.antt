-- `candidates::none` meets its contract: eight blanks and no count. Assumes nothing.
use Rattle.std.proofs.Common.{refl}
use Rattle.candidates.specs.Generate.{filled}
use Rattle.candidates.proofs.none.Goals as goal

pub returns : goal.returns
unfolding filled
returns c = refl
