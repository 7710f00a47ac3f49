-- `root::seldom` meets its contract, a case of Cases at each return. Assumes nothing.
use mathlib.Core.Path.{◌≡◌, sym, ap, ◌∙◌}
use mathlib.Core.Logic.{inl, inr}
use Prim.Native.Nat.{◌*◌, ◌^◌, ◌≤◌}
use native.Mathlib.Omega.{arith}
use Rattle.root.specs.Root.{sqrt_of}
use Rattle.root.proofs.Cases.{own_root, finite_pattern, sqrt_small, sqrt-zero, sqrt_infinity, sqrt_minus_zero}
use Rattle.root.proofs.Cases.{sqrt-none, zero_by_zero}
use Rattle.root.proofs.seldom.Goals as goal

pub float_from_bits-result : goal.float_from_bits-result
float_from_bits-result c = finite_pattern c.small_root_bits.result c.small_root_bits.ensures.0

pub returns-in-0 : goal.returns-in-0
returns-in-0 c =
    elim c.in-0.is [
      | inl z ↦ own_root _ 0 c.requires.0 z sqrt-zero
      | inr y ↦ elim y [
        | inl z ↦ own_root _ (2047 * 2 ^ 52) c.requires.0 z sqrt_infinity
        | inr z ↦ own_root _ (2 ^ 63) c.requires.0 z sqrt_minus_zero
      ]
    ]

pub returns-in-1-to-4503599627370495 : goal.returns-in-1-to-4503599627370495
returns-in-1-to-4503599627370495 c =
    c.small_root_bits.ensures.1 ∙ sym (sqrt_small _ (omega arith)) ∙ ap sqrt_of (sym c.requires.0)

pub returns-in_default : goal.returns-in_default
returns-in_default c =
    let p = c.requires in
    let l : 2 ^ 52 ≤ c.args.b = omega arith in
    let i : c.args.b ≡ 2047 * 2 ^ 52 → ⊥ = grind arith in
    let n : c.args.b ≡ 2 ^ 63 → ⊥ = grind arith in
    zero_by_zero ∙ sym (sqrt-none _ (omega (arith, p.1.1 l)) p.1.0 n) ∙ ap sqrt_of (sym p.0)
