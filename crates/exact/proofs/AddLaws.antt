-- What a sum of two numbers that are not negative is off by: half a unit of its last digit at most. Assumes nothing.
use mathlib.Core.Path.{◌≡◌, sym, ap, subst}
use mathlib.Core.Bool.{Bool, true, false, true≢false}
use Prim.Native.Nat.{ℕ, ◌+◌, ◌*◌, ◌/◌, ◌^◌, ◌≤◌, ◌<◌}
use native.Mathlib.Nat.{le_trans, le_of_eq, lt_of_le_of_lt, mul-pos, mul-div_cancel, le_of_mul-le-mul_right}
use native.Mathlib.Omega.{arith}
use lib.Dec.{T}
use lib.Pow.{pow_pos}
use lib.Ieee.{Float, nan, inf, fin, Format, prec, low, up, down, round, add, fits}
use lib.Ieee.Fits.{down_pos, add-fits}
use lib.Ieee.Exact.{HasValue}
use lib.Ieee.Scale.{round_same, finite, grid, overflow}
use Rattle.root.specs.Steps.{steps_in, sign_of}
use Rattle.root.proofs.StepLaws.{steps_value, steps_of_lem}
use Rattle.root.proofs.Rounding.{round-steps, half_ulp, ulp, ulp_le, grid-le}

-- a finite number of the format, +0 or above
pub record Plain (f : Format) (x : Float) : Type 0 where
  pub held : T (fits f x)
  pub finite-one : T (finite x)
  pub plus : sign_of x ≡ false

-- a number by what it is worth
pub plain_value : (f : Format) (x : Float) → Plain f x → HasValue x false (steps_in f x) (2 ^ low f)
plain_value f x p =
    subst (λ (s : Bool). HasValue x s (steps_in f x) (2 ^ low f)) p.plus (steps_value f x p.held p.finite-one)

pub value_plain : (f : Format) (x : Float) (a c : ℕ) → T (fits f x) → HasValue x false a c → Plain f x
value_plain f nan a c t h = absurd h
value_plain f (inf s) a c t h = absurd h
value_plain f (fin s m e) a c t h = record { held = t; finite-one = tt; plus = h.0 }

-- ---- the sum of two numbers as one fraction

cross : (x y a b c d e : ℕ) → x * c ≡ a * d → y * c ≡ b * e → (x * e + y * d) * c ≡ (a + b) * (d * e)
cross x y a b c d e p q = omega (arith, ap (λ (z : ℕ). z * e) p, ap (λ (z : ℕ). z * d) q)

pub add_at : (f : Format) (x y : Float) (a b c : ℕ) → 0 < c → HasValue x false a c → HasValue y false b c
    → add f x y ≡ round f false (a + b) c
unfolding add
add_at f nan y a b c h p q = absurd p
add_at f (inf s) y a b c h p q = absurd p
add_at f (fin true m e) y a b c h p q = absurd (true≢false p.0)
add_at f (fin false m e) nan a b c h p q = absurd q
add_at f (fin false m e) (inf t) a b c h p q = absurd q
add_at f (fin false m e) (fin true n d) a b c h p q = absurd (true≢false q.0)
add_at f (fin false m e) (fin false n d) a b c h p q =
    round_same f false (m * up e * down d + n * up d * down e) (down e * down d) (a + b) c
    (mul-pos (down_pos e) (down_pos d)) h
    (cross (m * up e) (n * up d) a b c (down e) (down d) p.1 q.1)

-- ---- below 2 ^ (prec + t) steps it is off by 2 ^ t / 2 steps at most

pub record Added (f : Format) (t : ℕ) (x y : Float) : Type 0 where
  pub plain : Plain f (add f x y)
  pub high : 2 * steps_in f (add f x y) ≤ 2 * (steps_in f x + steps_in f y) + 2 ^ t
  pub low : 2 * (steps_in f x + steps_in f y) ≤ 2 * steps_in f (add f x y) + 2 ^ t

pub unscale : (a b u c : ℕ) → 0 < c → 2 * (a * c) ≤ 2 * (b * c) + u * c → 2 * a ≤ 2 * b + u
unscale a b u c h p = le_of_mul-le-mul_right {k = c} (omega arith) h

pub added : (f : Format) (t : ℕ) (x y : Float) → Plain f x → Plain f y → steps_in f x + steps_in f y < 2 ^ (prec f + t)
    → 2 ^ (prec f + t) < overflow f → Added f t x y
added f t x y p q h k =
    let c = 2 ^ low f in
    let z = steps_in f x + steps_in f y in
    let is : add f x y ≡ round f false z c =
    add_at f x y (steps_in f x) (steps_in f y) c (pow_pos (low f)) (plain_value f x p) (plain_value f y q) in
    let small : z * c / c < 2 ^ (prec f + t) = lt_of_le_of_lt (le_of_eq (mul-div_cancel z (pow_pos (low f)))) h in
    let value : HasValue (add f x y) false (grid f z c) c =
    subst (λ (w : Float). HasValue w false (grid f z c) c) (sym is)
    (round-steps f false z c (lt_of_le_of_lt (grid-le f z c t small) k)) in
    let steps : steps_in f (add f x y) ≡ grid f z c = steps_of_lem f (add f x y) false (grid f z c) value in
    let unit = ulp_le f z c t small in
    let off = half_ulp f z c (pow_pos (low f)) in
    let up_to_lem = unscale (grid f z c) z (ulp f z c) c (pow_pos (low f)) off.0 in
    let down_to = unscale z (grid f z c) (ulp f z c) c (pow_pos (low f)) off.1 in
    record {
      plain = value_plain f (add f x y) (grid f z c) c (add-fits f x y) value;
      high = le_trans (le_of_eq (ap (λ (w : ℕ). 2 * w) steps)) (omega (arith, up_to_lem, unit));
      low = subst (λ (w : ℕ). 2 * z ≤ 2 * w + 2 ^ t) (sym steps) (omega (arith, down_to, unit));
    }
