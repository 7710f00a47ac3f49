-- `instance::gather` meets its contract. Assumes nothing.
use mathlib.Core.Path.{◌∙◌}
use native.Mathlib.Omega.{arith}
use Rattle.instance.proofs.GatherLaws.{none_yet, joined_more, all_joined, roomy}
use Rattle.instance.proofs.gather.Goals as goal

pub loop-k-init : goal.loop-k-init
loop-k-init c = c.none-all.ensures ∙ none_yet _

pub joined-all-requires : goal.joined-all-requires
joined-all-requires c = roomy _ _ _ _ (omega arith) c.loop-k.invariant c.offers.ensures

pub loop-k-preserved : goal.loop-k-preserved
loop-k-preserved c =
    joined_more _ _ _ _ _ (omega arith) c.loop-k.invariant c.offers.ensures c.joined-all.ensures

pub returns : goal.returns
returns c = all_joined _ _ _ (omega arith) c.loop-k.invariant
