-- The root of S * 2^-20, counted in steps of 2^-40: for an S up to 2^49 it is within three of R, the largest whole
-- number with R * R at most S * 2^60. Assumes nothing.
use mathlib.Core.Path.{◌≡◌, sym, ap, ◌∙◌, subst}
use Prim.Native.Nat.{ℕ, ◌+◌, ◌*◌, ◌^◌, ◌≤◌, ◌<◌}
use native.Mathlib.Nat.{le_trans, le_of_eq, lt_of_lt_of_le, lt_of_le_of_lt, mul_assoc, mul_left_comm, mul-le-mul_right}
use native.Mathlib.Nat.{mul-lt-mul_of_pos_right, mul-pos}
use native.Mathlib.Omega.{arith}
use lib.Dec.{T, lit<}
use lib.Pow.{pow_pos}
use lib.Ieee.{Float, binary64, fits}
use Rattle.root.specs.Whole.{halves, whole_root}
use Rattle.root.specs.Root.{sqrt_of}
use Rattle.root.proofs.WholeLaws.{whole_le, whole_lt, halves_ge_even, halves-lt_even}
use Rattle.root.specs.Steps.{steps_of, has_root}
use Rattle.root.proofs.Rounding.{ulp_le}
use Rattle.root.proofs.RootSteps.{root_steps, dropped, root_off, root-part_under}
use Rattle.root.proofs.RootLaws.{root-steps}

-- r steps are within three of R * G, G steps being one of the coarser kind
pub record Within (r R G : ℕ) : Type 0 where
  pub low : R * G ≤ r + 2 * G
  pub high : r < (R + 3) * G

-- twice the root is h, rounded by K / 2 at most
within : (h r K R G : ℕ) → 2 * (R * G) ≤ h → h < 2 * ((R + 1) * G) → 2 * r ≤ h + K → h ≤ 2 * r + K → K ≤ 4 * G
    → Within r R G
within h r K R G a b c d e = record { low = omega arith; high = omega arith }

square_scale : (a G : ℕ) → a * G * (a * G) ≡ a * a * (G * G)
square_scale a G = simp (mul_assoc, mul_left_comm)

bracket : (W G N : ℕ) → 0 < G → N ≡ W * (G * G)
    → (2 * (whole_root W * G) ≤ halves N) × (halves N < 2 * ((whole_root W + 1) * G))
bracket W G N h e =
    let R = whole_root W in (
      halves_ge_even N (R * G) (le_trans (le_of_eq (square_scale R G))
          (le_trans (mul-le-mul_right (G * G) (whole_le W)) (le_of_eq (sym e)))),
      halves-lt_even N ((R + 1) * G) (lt_of_le_of_lt (le_of_eq e)
          (lt_of_lt_of_le (mul-lt-mul_of_pos_right (whole_lt W) (mul-pos h h))
          (le_of_eq (sym (square_scale (R + 1) G))))),
    )

-- with all sides in steps of 2^-1074: one step of 2^-40 is 2^1034 of them, and S * 2^-20 is S * 2^1054
pub grid-root : (x : Float) (S : ℕ) → T (fits binary64 x) → T (has_root x) → steps_of x ≡ S * 2 ^ 1054 → S ≤ 2 ^ 49
    → Within (steps_of (sqrt_of x)) (whole_root (S * 2 ^ 60)) (2 ^ 1034)
grid-root x S t h e l =
    let X = steps_of x in
    let N = X * 2 ^ 1074 in
    let b = bracket (S * 2 ^ 60) (2 ^ 1034) N (pow_pos 1034)
    (ap (λ (z : ℕ). z * 2 ^ 1074) e ∙ mul_assoc S (2 ^ 1054) (2 ^ 1074)
    ∙ sym (mul_assoc S (2 ^ 60) (2 ^ 1034 * 2 ^ 1034))) in
    let small : N < 2 ^ 1089 * 2 ^ 1089 =
    subst (λ (z : ℕ). z * 2 ^ 1074 < 2 ^ 1089 * 2 ^ 1089) (sym e)
    (lt_of_le_of_lt (mul-le-mul_right (2 ^ 1074) (mul-le-mul_right (2 ^ 1054) l)) (lit< tt)) in
    subst (λ (z : ℕ). Within z (whole_root (S * 2 ^ 60)) (2 ^ 1034)) (sym (root-steps x t h))
    (within (halves N) (root_steps 52 1074 X) (2 ^ dropped 52 1074 X) (whole_root (S * 2 ^ 60)) (2 ^ 1034) b.0 b.1
    (root_off 52 1074 X).0 (root_off 52 1074 X).1
    (ulp_le binary64 (halves N) (2 ^ 1075) 1036 (root-part_under 1074 1089 X small)))
