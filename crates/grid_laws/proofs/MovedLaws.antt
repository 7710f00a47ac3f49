-- What is inside is on the grid and within its reach once it is moved; so is every candidate of a contour that is on
-- the grid. Assumes nothing.
use mathlib.Core.Path.{◌≡◌}
use mathlib.Core.Bool.{Bool, true}
use mathlib.Core.List.{List}
use Prim.Native.Nat.{ℕ, ◌+◌, ◌*◌, ◌%◌, ◌^◌, ◌≤◌, ◌<◌, min}
use native.Mathlib.Nat.{mul-le-mul_right, mul-mod_left, lt_of_mul-lt-mul_right, mul-lt-mul_of_pos_right}
use native.Mathlib.Omega.{arith}
use lib.Dec.{T, eqb, leb, le→leb}
use lib.IntN.{ℤ}
use lib.ListN.{length, get_or}
use lib.Ieee.{Float, nan, inf, fin, binary64, up, down}
use lib.Ieee.Exact.{HasValue}
use lib.Ieee.Fits.{down_pos, and_i, eq→eqb}
use Rattle.answer.specs.declared.Point.{Point}
use Rattle.answer.specs.declared.CutDirection.{CutDirection}
use Rattle.root.specs.Steps.{steps_of}
use Rattle.root.proofs.StepLaws.{steps_value}
use Rattle.points.specs.Points.{point}
use Rattle.fields.specs.Limits.{vertex_limit, per_contour_limit}
use Rattle.grid.specs.Move.{per_mm, units_near, moved, moved_point}
use Rattle.grid.proofs.UnitLaws.{not-past}
use Rattle.grid.proofs.MoveLaws.{sign_for, beside, moved_value}
use Rattle.candidates.specs.declared.Candidate.{Candidate}
use Rattle.candidates.specs.Along.{perimeter_of}
use Rattle.candidates.specs.Generate.{blank, candidates_of}
use Rattle.candidates.proofs.EachLaws.{each_has}
use Rattle.exact.specs.Grid.{reach, on_grid, grid_point}
use Rattle.grid_laws.specs.Inside.{Inside, InsidePoint, AllVertices}
use Rattle.grid_laws.proofs.SpotLaws.{target_inside}

-- ---- a coordinate

-- from steps to the fraction that the number is
descale : (x d n L R : ℕ) → 0 < d → 2 * 1024 * n < (2 * R + 1) * L → x * L ≡ n * d → 2 * (x * 1024) < (2 * R + 1) * d
descale x d n L R D h e =
    let a : 2 * 1024 * n * d < (2 * R + 1) * L * d = mul-lt-mul_of_pos_right h D in
    lt_of_mul-lt-mul_right L (omega arith)

-- a number inside is nearest to no more units than the reach has
few_units : (s : Bool) (m : ℕ) (e : ℤ) → Inside (fin s m e) → units_near (fin s m e) ≤ reach * per_mm
few_units s m e i =
    not-past (m * up e * per_mm) (down e) (units_near (fin s m e)) (reach * per_mm) (beside s m e)
    (descale (m * up e) (down e) (steps_of (fin s m e)) (2 ^ 1074) (reach * per_mm) (down_pos e) i.within
    (steps_value binary64 (fin s m e) i.held tt).1)

-- so many whole units are on the grid
units_on-grid : (x : Float) (s : Bool) (w : ℕ) → HasValue x s w per_mm → w ≤ reach * per_mm → T (on_grid x)
unfolding on_grid
units_on-grid nan s w v h = v
units_on-grid (inf t) s w v h = v
units_on-grid (fin t n d) s w v h =
    let l : w * down d ≤ reach * per_mm * down d = mul-le-mul_right (down d) h in
    and_i (eqb (n * up d * per_mm % down d) 0) (leb (n * up d) (reach * down d))
    (eq→eqb {a = n * up d * per_mm % down d} {b = 0} (rw v.1 (mul-mod_left w (down d))))
    (le→leb (n * up d) (reach * down d) (omega (arith, l, v.1)))

moved-on-grid : (x : Float) → Inside x → T (on_grid (moved x))
moved-on-grid nan i = absurd i.finite-one
moved-on-grid (inf s) i = absurd i.finite-one
moved-on-grid (fin s m e) i =
    units_on-grid (moved (fin s m e)) (sign_for s (units_near (fin s m e))) (units_near (fin s m e))
    (moved_value s m e i.held) (few_units s m e i)

moved-grid-point : (p : Point) → InsidePoint p → T (grid_point (moved_point p))
unfolding moved_point grid_point
moved-grid-point p i =
    and_i (on_grid (moved p.x)) (on_grid (moved p.y)) (moved-on-grid p.x i.x_inside)
    (moved-on-grid p.y i.y_inside)

-- ---- the candidates

-- those of a contour on the grid are on it, where the grid is asked for: the first vertex is, and so is what is moved
pub each-on-grid : (way : CutDirection) (ps : List Point) (c : ℕ) → length ps ≤ vertex_limit → AllVertices ps
    → let cs = candidates_of true way ps c in
    (k : ℕ) → k < length cs → T (grid_point (point (get_or cs k blank).x (get_or cs k blank).y))
each-on-grid way ps c few all =
    each_has (λ (q : Candidate). T (grid_point (point q.x q.y))) true way ps c (λ some. (all 0 some).on-grid)
    (λ some h k l. moved-grid-point _ (target_inside ps some few all (perimeter_of ps) (min c per_contour_limit) k))
