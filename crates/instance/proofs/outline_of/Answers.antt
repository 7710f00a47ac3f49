-- `instance::outline_of` meets its contract. Assumes nothing.
use mathlib.Core.Path.{◌≡◌}
use native.Mathlib.Omega.{arith}
use Rattle.instance.proofs.GatherLaws.{numbers_none, numbers_more, numbers_all}
use Rattle.instance.proofs.outline_of.Goals as goal

pub loop-j-init : goal.loop-j-init
loop-j-init c = numbers_none _ _

pub loop-j-preserved : goal.loop-j-preserved
loop-j-preserved c = numbers_more _ _ _ c.vertex-p.result _ (omega arith) c.vertex-p.ensures c.loop-j.invariant

pub returns : goal.returns
returns c =
    let e : c.loop-j.j ≡ c.min-v.result = omega arith in
    rw (← e) (numbers_all _ _ _ _ c.loop-j.invariant (omega arith))
