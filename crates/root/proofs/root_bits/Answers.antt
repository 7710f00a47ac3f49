-- `root::root_bits` meets its contract: Patterns has the law, this the ranges. Assumes nothing.
use mathlib.Core.Path.{◌≡◌, ap, ◌∙◌}
use Prim.Native.Nat.{ℕ, ◌+◌, ◌-◌, ◌*◌, ◌/◌, ◌%◌, ◌^◌}
use native.Mathlib.Omega.{arith}
use lib.Ieee.{binary64, of_bits}
use Rattle.root.proofs.Patterns.{rooted, rooted_53, root_bits_lem}
use Rattle.root.proofs.root_bits.Goals as goal

pub overflow_sub-result-2 : goal.overflow_sub-result-2
overflow_sub-result-2 c =
    omega (arith, rooted_53 c.args.f c.args.w c.requires.0, c.longer-s.ensures)

pub returns : goal.returns
returns c =
    let s = c.longer-s.result in
    let z = rooted_53 c.args.f c.args.w c.requires.0 in
    let e : s / 2 + s % 2 ≡ rooted c.args.f c.args.w = omega (arith, c.longer-s.ensures) in (
      omega arith,
      ap (λ (x : ℕ). of_bits binary64 ((c.args.w - 50) / 2 * 2 ^ 52 + (x - 2 ^ 52))) e
          ∙ root_bits_lem c.args.f c.args.w c.requires.0 c.requires.1.0 c.requires.1.1,
    )
