-- A triangle with vertices on the grid, computed: 4 mm along it lies (3,1). Assumes nothing.
use mathlib.Core.Path.{◌≡◌, refl}
use mathlib.Core.List.{List, [], ◌∷◌}
use Prim.Native.Nat.{ℕ, zero, suc, ◌<◌}
use native.Mathlib.Nat.{not-suc-le-zero, le_of_suc-le-suc}
use lib.Dec.{T, lit≤, lit<}
use lib.Count.{count_trailing_zeros}
use lib.ListN.{get_or}
use lib.Ieee.{Float, binary64, of_bits, of_fields, odd, size, span, climb, round, units, sum, add, sub, mul, div, neg}
use lib.Ieee.{lt, eq, le, fits}
use Rattle.answer.specs.declared.Point.{Point}
use Rattle.root.specs.Whole.{whole_root, digits, halves}
use Rattle.root.specs.Root.{sqrt_of, root_finite}
use Rattle.points.specs.Points.{nowhere, closing, edges}
use Rattle.points.specs.Distance.{distance_of, distance_sq_of, squares as squares_of}
use Rattle.points.specs.Along.{along_of}
use Rattle.candidates.specs.Along.{reaches, on_edge, spot_from, spot_at}
use Rattle.exact.specs.Grid.{grid_points}
use Rattle.grid_laws.specs.Inside.{InsidePoint}
use Rattle.grid_laws.proofs.SpotLaws.{all_vertices, spot_inside}

-- a point by its bits
abbrev at : ℕ → ℕ → Point
at x y = record { x = of_bits binary64 x; y = of_bits binary64 y }

-- (0,0), (3,0), (3,4)
abbrev triangle : List Point
triangle = at 0 0 ∷ at 0x4008_0000_0000_0000 0 ∷ at 0x4008_0000_0000_0000 0x4010_0000_0000_0000 ∷ []

abbrev four : Float
four = of_bits binary64 0x4010_0000_0000_0000

found : (spot_at triangle four).point ≡ at 0x4008_0000_0000_0000 0x3ff0_0000_0000_0000
unfolding spot_at spot_from on_edge reaches edges closing along_of distance_of distance_sq_of squares_of add sub mul div neg sum
    lt eq le of_bits of_fields odd size span climb round units count_trailing_zeros sqrt_of root_finite halves whole_root digits
found = refl

numbers : (j : ℕ) → j < 3
    → T (fits binary64 (get_or triangle j nowhere).x) × T (fits binary64 (get_or triangle j nowhere).y)
unfolding fits of_bits of_fields odd count_trailing_zeros
numbers zero h = (tt, tt)
numbers (suc zero) h = (tt, tt)
numbers (suc (suc zero)) h = (tt, tt)
numbers (suc (suc (suc j))) h =
    absurd (not-suc-le-zero (le_of_suc-le-suc (le_of_suc-le-suc (le_of_suc-le-suc h))))

on_the_grid : T (grid_points triangle)
unfolding grid_points of_bits of_fields odd count_trailing_zeros
on_the_grid = tt

four_held : T (fits binary64 four)
unfolding fits of_bits of_fields odd count_trailing_zeros
four_held = tt

-- what is asked of a contour holds of this one
inside : InsidePoint (spot_at triangle four).point
inside = spot_inside triangle (lit< tt) (lit≤ tt) (all_vertices triangle on_the_grid numbers) four four_held
