-- `improve::is_legal` meets its contract. The invariant: the contours of the places passed are written down. Assumes
-- nothing.
use mathlib.Core.List.{List}
use mathlib.Core.Path.{refl, ap, ◌∙◌}
use Prim.Native.Nat.{ℕ}
use native.Mathlib.Omega.{arith}
use lib.ListN.{length-set}
use Rattle.keep.specs.Keep.{keeps_pairs}
use Rattle.improve.proofs.OrderLaws.{order_none, order_more, order_whole}
use Rattle.improve.proofs.is_legal.Goals as goal

pub loop-i-init : goal.loop-i-init
loop-i-init c = (refl, order_none _)

pub loop-i-preserved : goal.loop-i-preserved
loop-i-preserved c = (
  simp length-set c.loop-i.invariant.0,
  order_more _ _ _ _ _ c.loop-i-test.true (omega arith) c.owner_of.ensures c.loop-i.invariant.1,
)

pub returns : goal.returns
returns c =
    c.keeps_pairs.ensures ∙ ap (λ (o : List ℕ). keeps_pairs o c.args.chart.now.pairs.now)
    (order_whole _ _ _ _ c.loop-i-test.false c.loop-i.auto.i-end c.loop-i.invariant.1)
