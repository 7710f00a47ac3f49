-- `root::small_root_bits` meets its contract: g * 2^1074 is the number moved up by `up` digits, by 2^(1074 - up).
-- Assumes nothing.
use mathlib.Core.Path.{◌≡◌, sym, ap, ◌∙◌}
use mathlib.Core.Bool.{false}
use Prim.Native.Nat.{ℕ, ◌+◌, ◌-◌, ◌*◌, ◌%◌, ◌^◌, ◌≤◌, ◌<◌}
use native.Mathlib.Nat.{mod-eq_of_lt}
use native.Mathlib.Omega.{arith}
use lib.Ieee.{binary64, round}
use Rattle.root.specs.Whole.{halves}
use Rattle.root.proofs.Patterns.{few, lifted, same_lifted}
use Rattle.root.proofs.small_root_bits.Goals as goal

pub overflow_sub-up : goal.overflow_sub-up
overflow_sub-up c = omega (arith, few _ 52 _ c.ilog2-up.ensures.power_le c.requires.1)

-- what stands in the place: the digits moved up, which no digit leaves
placed : (g d : ℕ) → 2 ^ d ≤ g → g < 2 * 2 ^ d → g < 2 ^ 52 → g * 2 ^ (52 - d) % 2 ^ 64 ≡ g * 2 ^ (52 - d)
placed g d l h b = mod-eq_of_lt (omega (arith, lifted g d l h b))

pub overflow_sub-g : goal.overflow_sub-g
overflow_sub-g c =
    let e = c.ilog2-up.ensures in
    let l = lifted _ _ e.power_le e.next_power_gt c.requires.1 in
    let p = placed _ _ e.power_le e.next_power_gt c.requires.1 in
    omega arith

pub root_bits-requires : goal.root_bits-requires
root_bits-requires c =
    let e = c.ilog2-up.ensures in
    let l = lifted _ _ e.power_le e.next_power_gt c.requires.1 in
    let p = placed _ _ e.power_le e.next_power_gt c.requires.1 in
    (omega arith, (omega arith, omega arith))

pub returns : goal.returns
returns c =
    let e = c.ilog2-up.ensures in
    let u = c.from.result in
    let l = lifted _ _ e.power_le e.next_power_gt c.requires.1 in
    let p = placed _ _ e.power_le e.next_power_gt c.requires.1 in
    let q : c.args.g * 2 ^ (52 - c.ilog2-up.result) ≡ c.args.g * 2 ^ u =
    ap (λ (x : ℕ). c.args.g * 2 ^ x) (sym c.from.ensures) in
    let m : 2 ^ 52 + (c.args.g * 2 ^ (52 - c.ilog2-up.result) % 2 ^ 64 - 2 ^ 52) ≡ c.args.g * 2 ^ u = omega arith in (
      c.root_bits.ensures.0,
      c.root_bits.ensures.1
          ∙ ap (λ (x : ℕ). round binary64 false (halves x) (2 ^ 1075))
          (ap (λ (x : ℕ). x * 2 ^ (1074 - u)) m ∙ same_lifted c.args.g u (omega arith)),
    )
