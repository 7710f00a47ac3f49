-- A spot on one edge between points of the grid: its coordinates stay within the grid's reach, but for less than half a
-- grid unit. Assumes nothing.
use mathlib.Core.Path.{◌≡◌, refl, sym, ap, ◌∙◌, subst}
use mathlib.Core.Bool.{Bool, true, false, not, beq, cond}
use Prim.Native.Nat.{ℕ, ◌+◌, ◌*◌, ◌^◌, ◌≤◌, ◌<◌}
use native.Mathlib.Nat.{le_of_eq, mul-le-mul_right, mul-pos, zero-mul}
use native.Mathlib.Omega.{arith}
use lib.Dec.{T, lit<}
use lib.Pow.{pow_pos}
use lib.Ieee.{Float, binary64, add, sub, mul, fits, unlike}
use lib.Ieee.Exact.{HasValue}
use lib.Ieee.Scale.{finite}
use Rattle.root.specs.Steps.{steps_of, sign_of}
use Rattle.root.proofs.StepLaws.{steps_value, steps_of_lem}
use Rattle.grid.specs.Words.{gap}
use Rattle.grid.specs.Move.{per_mm}
use Rattle.exact.specs.Grid.{reach, on_grid, units_of, apart}
use Rattle.exact.proofs.GridLaws.{Difference, size_between, on-grid_value, on-grid_small, apart_small, difference_exact}
use Rattle.grid_laws.specs.Inside.{Inside}
use Rattle.grid_laws.proofs.OperationLaws.{Rounded, value_times, rounded, rounded_steps}
use Rattle.root.proofs.RootLaws.{value_finite}
use Rattle.grid_laws.proofs.OperationLaws.{in_steps, round-none, add_any, mul_at}
use Rattle.grid_laws.proofs.ProductLaws.{product, product_room, product_steps, stays, below}

-- ---- a coordinate on the grid, in steps

grid_value : (x : Float) → T (on_grid x) → HasValue x (sign_of x) (units_of x * (2 ^ 42 * 2 ^ 1022)) (2 ^ 1074)
grid_value x t = value_times x (sign_of x) (units_of x) per_mm (2 ^ 42 * 2 ^ 1022) (on-grid_value x t)

grid_below : (W u : ℕ) → 0 < W → u ≤ 2 ^ 23 → 2 * 1024 * (u * (2 ^ 42 * W)) < (2 * (8192 * 1024) + 1) * (2 ^ 52 * W)
grid_below W u w h =
    let a : u * (2 ^ 42 * W) ≤ 2 ^ 23 * (2 ^ 42 * W) = mul-le-mul_right (2 ^ 42 * W) h in
    omega arith

-- a vertex's own coordinate is inside
pub vertex_inside : (x : Float) → T (on_grid x) → T (fits binary64 x) → Inside x
vertex_inside x t h =
    let u = units_of x * (2 ^ 42 * 2 ^ 1022) in
    let v = grid_value x t in
    record {
      held = h;
      finite-one = value_finite x (sign_of x) u (2 ^ 1074) v;
      within = subst (λ (z : ℕ). 2 * per_mm * z < (2 * (reach * per_mm) + 1) * 2 ^ 1074)
          (sym (steps_of_lem binary64 x (sign_of x) u v))
          (grid_below (2 ^ 1022) (units_of x) (pow_pos 1022) (on-grid_small x t));
    }

-- ---- how far along: g steps of l are gone

-- t is g / l, rounded; where it has a minus sign it is -0
pub record Gone (l g : ℕ) (t : Float) : Type 0 where
  pub held : T (fits binary64 t)
  pub finite-one : T (finite t)
  pub none : sign_of t ≡ true → steps_of t ≡ 0
  pub high : 2 * (steps_of t * l) ≤ 2 * (g * 2 ^ 1074) + 2 ^ 9 * 2 ^ 1022 * l
  pub modest : g ≤ l + 2 ^ 21 * 2 ^ 1022
  pub some : 0 < l

-- ---- a coordinate at t of an edge

-- the product of t and the difference
record Part (t x y : Float) (r : Bool) : Type 0 where
  held : T (fits binary64 (mul binary64 t (sub binary64 y x)))
  finite-one : T (finite (mul binary64 t (sub binary64 y x)))
  sign : sign_of (mul binary64 t (sub binary64 y x)) ≡ unlike (sign_of t) r
  none : sign_of t ≡ true → steps_of (mul binary64 t (sub binary64 y x)) ≡ 0
  high : steps_of (mul binary64 t (sub binary64 y x)) ≤ apart x y * (2 ^ 42 * 2 ^ 1022) + 2 ^ 24 * 2 ^ 1022

span_small : (W A : ℕ) → A ≤ 2 ^ 24 → A * (2 ^ 42 * W) ≤ 2 ^ 14 * (2 ^ 52 * W)
span_small W A h =
    let a : A * (2 ^ 42 * W) ≤ 2 ^ 24 * (2 ^ 42 * W) = mul-le-mul_right (2 ^ 42 * W) h in
    omega arith

part : (l g : ℕ) (t x y : Float) → Gone l g t → T (on_grid x) → T (on_grid y)
    → apart x y * (2 ^ 42 * 2 ^ 1022) ≤ 2 * l → (d : Difference x y) → Part t x y d.sign
part l g t x y G i j c d =
    let W = 2 ^ 1022 in
    let L = 2 ^ 1074 in
    let X = apart x y * (2 ^ 42 * 2 ^ 1022) in
    let n = steps_of t in
    let z = mul binary64 t (sub binary64 y x) in
    let s = unlike (sign_of t) d.sign in
    let is =
    mul_at binary64 t (sub binary64 y x) (sign_of t) d.sign n X L (pow_pos 1074)
    (steps_value binary64 t G.held G.finite-one)
    (value_times (sub binary64 y x) d.sign (apart x y) per_mm (2 ^ 42 * 2 ^ 1022) d.value) in
    let span = span_small W (apart x y) (apart_small x y i j) in
    let p : n * X ≤ (X + 2 ^ 23 * W) * L = product W n l g L X G.some G.high G.modest c span in
    let r : Rounded binary64 1036 z s (n * X) (L * L) =
    subst (λ (w : Float). Rounded binary64 1036 w s (n * X) (L * L)) (sym is)
    (rounded binary64 1036 s (n * X) (L * L) (mul-pos (pow_pos 1074) (pow_pos 1074))
    (product_room W n X L (pow_pos 1022) (pow_pos 1074) refl span p) (lit< tt)) in
    record {
      held = r.held;
      finite-one = r.finite-one;
      sign = r.sign;
      none = λ e.
          ap steps_of is ∙ round-none binary64 s (n * X) (L * L) (mul-pos (pow_pos 1074) (pow_pos 1074)) (lit< tt)
          (ap (λ (w : ℕ). w * X) (G.none e) ∙ zero-mul X);
      high = product_steps W n X L (steps_of z) (pow_pos 1074) p r.high;
    }

apart-le : (x y : Float) → apart x y ≤ units_of x + units_of y
unfolding apart
apart-le x y = go (beq (sign_of x) (sign_of y))
  where
    go : (b : Bool) → cond b (gap (units_of x) (units_of y)) (units_of x + units_of y) ≤ units_of x + units_of y
    go true = gap-le (units_of x) (units_of y)
      where
        gap-le : (a b : ℕ) → gap a b ≤ a + b
        gap-le a b = omega arith
    go false = le_of_eq refl

sum_room : (W Z : ℕ) → 0 < W → Z ≤ 2 ^ 65 * W + 2 ^ 24 * W → Z < 2 ^ 66 * W
sum_room W Z w h = omega arith

pub coordinate_inside : (l g : ℕ) (t x y : Float) → Gone l g t → T (on_grid x) → T (on_grid y)
    → apart x y * (2 ^ 42 * 2 ^ 1022) ≤ 2 * l → Inside (add binary64 x (mul binary64 t (sub binary64 y x)))
coordinate_inside l g t x y G i j c =
    let d = difference_exact x y i j in
    let p = part l g t x y G i j c d in
    let z = mul binary64 t (sub binary64 y x) in
    let a = units_of x * (2 ^ 42 * 2 ^ 1022) in
    let size = size_between (not (sign_of z)) (steps_of z) (sign_of x) a in
    let room : size ≤ 2 ^ 65 * 2 ^ 1022 + 2 ^ 24 * 2 ^ 1022 =
    subst (λ (b : Bool). size_between (not b) (steps_of z) (sign_of x) a ≤ 2 ^ 65 * 2 ^ 1022 + 2 ^ 24 * 2 ^ 1022)
    (sym p.sign)
    (stays (2 ^ 1022) (sign_of x) d.sign (sign_of t) (units_of x) (units_of y) (apart x y) (steps_of z)
    (on-grid_small x i) (on-grid_small y j) (apart-le x y) d.onward p.high p.none) in
    let is =
    add_any binary64 x z a (steps_of z) (2 ^ 1074) (pow_pos 1074) (grid_value x i)
    (steps_value binary64 z p.held p.finite-one) in
    let r : Rounded binary64 1035 (add binary64 x z) is.0 size (2 ^ 1074) =
    subst (λ (w : Float). Rounded binary64 1035 w is.0 size (2 ^ 1074)) (sym is.1)
    (rounded_steps binary64 1035 is.0 size (sum_room (2 ^ 1022) size (pow_pos 1022) room) (lit< tt)) in
    record {
      held = r.held;
      finite-one = r.finite-one;
      within = below (2 ^ 1022) (steps_of (add binary64 x z)) size (pow_pos 1022) room
          (in_steps binary64 1035 (add binary64 x z) is.0 size r);
    }
