-- A number that is moved does not leave for much farther out. Assumes nothing.
use Rattle.std.proofs.Common.{ℕ, suc, ◌*◌, ◌^◌, ◌<◌, mul-le-mul_right, mul_right_comm, arith, lit<}
use lib.Ieee.{Float, nan, inf, fin, up, down}
use lib.Ieee.Fits.{down_pos}
use Rattle.points.proofs.SizeLaws.{Under, rounded}
use Rattle.grid.specs.Move.{per_mm, units_near, moved}
use Rattle.grid.proofs.UnitLaws.{not-past}
use Rattle.grid.proofs.MoveLaws.{sign_for, beside}

pub moved_under : (k : ℕ) (x : Float) → k < 1023 → Under k x → Under (suc k) (moved x)
unfolding moved
moved_under k nan small u = u
moved_under k (inf s) small u = u
moved_under k (fin s m e) small u =
    let w = units_near (fin s m e) in
    rounded (sign_for s w) w per_mm k (lit< tt) small
    (not-past (m * up e * per_mm) (down e) w (2 ^ k * per_mm) (beside s m e)
    (omega (arith, mul-le-mul_right per_mm u, mul_right_comm (2 ^ k) (down e) per_mm, down_pos e)))
