-- An edge between vertices on the grid: twice its length covers the differences of their coordinates, and it is at most
-- 2^15 mm. Assumes nothing.
use mathlib.Core.Path.{◌≡◌, refl, sym}
use mathlib.Core.Bool.{true, false, true≢false}
use Prim.Native.Nat.{ℕ, ◌+◌, ◌*◌, ◌^◌, ◌≤◌, ◌<◌}
use native.Mathlib.Nat.{le_trans, le_of_eq, lt_of_le_of_lt, le_of_mul-le-mul_right, mul-le-mul_right, mul-mul-mul_comm}
use native.Mathlib.Omega.{arith}
use borrow.Author.Tests.{ltb-false}
use lib.Dec.{T, lit≤}
use lib.Pow.{pow_pos}
use lib.Ieee.{Float, nan, inf, fin, Format, binary64, low, up, down, fits, lt, of_bits}
use lib.Ieee.Fits.{down_pos}
use lib.Ieee.Order.{transfer}
use Rattle.answer.specs.declared.Point.{Point}
use Rattle.root.specs.Steps.{steps_in, steps_of}
use Rattle.root.proofs.WholeLaws.{whole_lt, square-lt}
use Rattle.root.proofs.StepLaws.{steps_value}
use Rattle.points.specs.Numbers.{zero64, tiny}
use Rattle.points.specs.Distance.{distance_of}
use Rattle.exact.specs.Grid.{grid_point, apart, squared_length}
use Rattle.exact.specs.Length.{leg_root}
use Rattle.exact.proofs.AddLaws.{Plain}
use Rattle.exact.proofs.GridLaws.{grid-leg}
use Rattle.exact.proofs.SumLaws.{leg-root_small}
use Rattle.grid_laws.proofs.ProductLaws.{covers}

-- ---- the numbers that are named

pub zero_plain : Plain binary64 zero64
unfolding of_bits fits
zero_plain = record { held = tt; finite-one = tt; plus = refl }

pub zero-steps : steps_of zero64 ≡ 0
unfolding of_bits
zero-steps = refl

pub tiny_plain : Plain binary64 tiny
unfolding of_bits fits
tiny_plain = record { held = tt; finite-one = tt; plus = refl }

pub tiny-above : 2 ^ 12 * 2 ^ 1022 ≤ steps_of tiny
unfolding of_bits
tiny-above = lit≤ tt

pub tiny_below : steps_of tiny ≤ 2 ^ 13 * 2 ^ 1022
unfolding of_bits
tiny_below = lit≤ tt

-- what is not under a number has no fewer steps
pub not_under : (f : Format) (x y : Float) → Plain f x → Plain f y → lt x y ≡ false → steps_in f y ≤ steps_in f x
unfolding lt
not_under f nan y p q h = absurd p.finite-one
not_under f (inf s) y p q h = absurd p.finite-one
not_under f (fin s m e) nan p q h = absurd q.finite-one
not_under f (fin s m e) (inf t) p q h = absurd q.finite-one
not_under f (fin true m e) (fin t n d) p q h = absurd (true≢false p.plus)
not_under f (fin false m e) (fin true n d) p q h = absurd (true≢false q.plus)
not_under f (fin false m e) (fin false n d) p q h =
    le_of_mul-le-mul_right
    (transfer (steps_in f (fin false n d)) (steps_in f (fin false m e)) (2 ^ low f) (2 ^ low f) (n * up d) (m * up e)
    (down d) (down e) (down_pos d) (down_pos e)
    (sym (steps_value f (fin false n d) q.held tt).1) (sym (steps_value f (fin false m e) p.held tt).1)
    (ltb-false (m * up e * down d) (n * up d * down e) h))
    (pow_pos (low f))

-- ---- the length

root_covers : (A S : ℕ) → A * A ≤ S → A * 2 ^ 30 ≤ leg_root S
unfolding leg_root
root_covers A S h =
    let a : A * 2 ^ 30 * (A * 2 ^ 30) ≤ S * 2 ^ 60 =
    le_trans (le_of_eq (mul-mul-mul_comm A (2 ^ 30) A (2 ^ 30))) (mul-le-mul_right (2 ^ 60) h) in
    let b = square-lt (A * 2 ^ 30) (leg_root S + 1) (lt_of_le_of_lt a (whole_lt (S * 2 ^ 60))) in
    omega (arith, b)

wide : (W R l : ℕ) → R ≤ 3 * 2 ^ 53 → l < (R + 3) * (2 ^ 12 * W) → l ≤ 2 ^ 67 * W
wide W R l h k =
    let a : R * (2 ^ 12 * W) ≤ 3 * 2 ^ 53 * (2 ^ 12 * W) = mul-le-mul_right (2 ^ 12 * W) h in
    omega arith

-- 2 ^ 1022 steps are 2^-52 mm, as W is in ProductLaws
pub record Leg (a b : Point) : Type 0 where
  pub plain : Plain binary64 (distance_of a b)
  pub modest : steps_of (distance_of a b) ≤ 2 ^ 67 * 2 ^ 1022
  pub x_covered : apart a.x b.x * (2 ^ 42 * 2 ^ 1022) ≤ 2 * steps_of (distance_of a b)
  pub y_covered : apart a.y b.y * (2 ^ 42 * 2 ^ 1022) ≤ 2 * steps_of (distance_of a b)

pub leg : (a b : Point) → T (grid_point a) → T (grid_point b) → Leg a b
unfolding squared_length
leg a b t u =
    let S = squared_length a b in
    let l = steps_of (distance_of a b) in
    let n = grid-leg a b t u in
    record {
      plain = n.plain;
      modest = wide (2 ^ 1022) (leg_root S) l (leg-root_small S n.small) n.within.high;
      x_covered = covers (2 ^ 1022) (apart a.x b.x) (leg_root S) l
          (root_covers (apart a.x b.x) S (omega arith)) n.within.low;
      y_covered = covers (2 ^ 1022) (apart a.y b.y) (leg_root S) l
          (root_covers (apart a.y b.y) S (omega arith)) n.within.low;
    }
