-- The point of an edge that is so far along it. Assumes nothing.
use Rattle.std.specs.Prelude.{Float}
use Rattle.std.specs.Float.{binary64}
use Rattle.std.specs.Float.Ieee.{add, sub, mul}
use Rattle.answer.specs.declared.Point.{Point}
use Rattle.points.specs.declared.Ends.{Ends}
use Rattle.points.specs.Points.{point}

-- the point at t of an edge
unfoldable pub along_of : Ends → Float → Point
along_of e t =
    let a = e.start in
    let b = e.finish in
    point (add binary64 a.x (mul binary64 t (sub binary64 b.x a.x)))
    (add binary64 a.y (mul binary64 t (sub binary64 b.y a.y)))
