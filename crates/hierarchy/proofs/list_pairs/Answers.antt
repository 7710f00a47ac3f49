-- `hierarchy::list_pairs` meets its contract. Assumes nothing.
use mathlib.Core.Path.{refl}
use Rattle.hierarchy.proofs.FillLaws.{copied_front, pairs_of}
use Rattle.hierarchy.proofs.list_pairs.Goals as goal

pub returns : goal.returns
returns c = pairs_of _ _ _ (copied_front 496 _ c.args.pairs.now c.copy_from_slice.ensures.after) refl
