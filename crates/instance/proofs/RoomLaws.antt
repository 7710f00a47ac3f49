-- How points come to stand as numbers. Assumes nothing.
use mathlib.Core.Path.{◌≡◌, refl, ap}
use mathlib.Core.List.{List, [], ◌∷◌, ◌++◌}
use Prim.Native.Nat.{◌*◌}
use native.Mathlib.Omega.{arith}
use lib.ListN.{length}
use lib.Ieee.{Float}
use Rattle.answer.specs.declared.Point.{Point}
use Rattle.points.specs.Points.{points}
use Rattle.instance.specs.Room.{flat}

pub points-flat : (ps : List Point) → points (flat ps) ≡ ps
unfolding points flat
points-flat [] = refl
points-flat (p ∷ more) = ap (λ (l : List Point). p ∷ l) (points-flat more)

pub flat-length : (ps : List Point) → length (flat ps) ≡ 2 * length ps
unfolding flat
flat-length [] = refl
flat-length (p ∷ more) = let h = flat-length more in omega arith

pub flat_more : (ps : List Point) (p : Point) → flat (ps ++ (p ∷ [])) ≡ flat ps ++ (p.x ∷ p.y ∷ [])
unfolding flat
flat_more [] p = refl
flat_more (q ∷ more) p = ap (λ (l : List Float). q.x ∷ q.y ∷ l) (flat_more more p)
