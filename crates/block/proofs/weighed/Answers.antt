-- `block::weighed` meets its contract. Assumes nothing.
use mathlib.Core.Path.{refl, ◌∙◌}
use native.Mathlib.Omega.{arith}
use Rattle.block.proofs.BlockLaws.{weigh_all, weigh-step, weight-bound}
use Rattle.block.specs.Block.{weigh}
use Rattle.block.proofs.weighed.Goals as goal

pub loop-p-init : goal.loop-p-init
unfolding weigh
loop-p-init c = (refl, omega arith)

pub loop-p-preserved : goal.loop-p-preserved
loop-p-preserved c =
    let bound = weight-bound c.loop-p.p c.from.result (omega arith) (omega (arith, c.type_inv.t c.loop-p.p)) in
    (weigh-step _ _ _ _ c.loop-p-test.true c.loop-p.invariant.0 c.from.ensures, omega arith)

pub returns : goal.returns
returns c = c.loop-p.invariant.0 ∙ weigh_all _ _ c.loop-p-test.false c.loop-p.auto.p-end
