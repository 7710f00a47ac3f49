-- `points::edge_at` meets its contract: the closing edge, and an edge to the next vertex, which past the last is no
-- place. Assumes nothing.
use mathlib.Core.Path.{sym}
use native.Mathlib.Omega.{arith}
use Rattle.points.proofs.PointLaws.{edge_on, edge_back}
use Rattle.points.proofs.edge_at.Goals as goal
use Rattle.points.proofs.edge_at.Goals.{then-next-numbers, else-next-numbers}

pub returns : goal.returns
returns c =
    let n = c.saturating_add-next.ensures in
    elim c.if-next-numbers.branch [
      | then-next-numbers w ↦ rw (c.point_at.ensures, c.point_at-2.ensures, w.next-is)
          (let t = w.if-next-numbers.true in sym (edge_back _ _ (omega arith)))
      | else-next-numbers w ↦ rw (c.point_at.ensures, c.point_at-2.ensures, w.next-is)
          (sym (edge_on _ _ _ w.if-next-numbers.false (λ h. omega arith) (omega arith)))
    ]
