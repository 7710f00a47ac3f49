-- `root::sqrt` meets its contract: by the bits of its argument, which stand for it. Assumes nothing.
use mathlib.Core.Path.{sym, ap, ◌∙◌}
use native.Mathlib.Omega.{arith}
use lib.Ieee.{binary64, to_bits}
use lib.Ieee.Bits.{of_bits-to_bits, to_bits-lt}
use Rattle.root.specs.Root.{sqrt_of}
use Rattle.root.proofs.Cases.{nan_own, finite_pattern, sqrt_bits}
use Rattle.root.proofs.sqrt.Goals as goal

pub returns-then-is_nan : goal.returns-then-is_nan
returns-then-is_nan c = nan_own c.args.x c.if-is_nan.ensures.value

pub float_to_bits-b : goal.float_to_bits-b
float_to_bits-b c = c.if-is_nan.ensures.not_nan

pub seldom-requires : goal.seldom-requires
seldom-requires c = ((sym (of_bits-to_bits binary64 c.args.x (rw c.well_formed.0.1 tt))), ((to_bits-lt binary64 c.args.x (rw c.well_formed.0.1 tt)), omega arith))

pub float_from_bits-result : goal.float_from_bits-result
float_from_bits-result c = finite_pattern c.root_bits.result c.root_bits.ensures.0

pub returns : goal.returns
returns c =
    let b = to_bits binary64 c.args.x in
    c.root_bits.ensures.1 ∙ sqrt_bits b c.if-e-eq0.false c.if-e-ge2047.false
    ∙ ap sqrt_of (sym ((sym (of_bits-to_bits binary64 c.args.x (rw c.well_formed.0.1 tt)))))
