-- `candidates::target_of` meets its contract: the code is the definition. Assumes nothing.
use Rattle.candidates.specs.Generate.{target}
use Rattle.candidates.proofs.target_of.Goals as goal

pub returns : goal.returns
unfolding target
returns c = rw (c.rest.ensures, c.nearest_usize_to_f64-2.ensures, c.nearest_usize_to_f64.ensures)
