-- `block::number` meets its contract. Assumes nothing.
use mathlib.Core.Path.{sym}
use lib.Ieee.{div, of_bits, of_fields, odd}
use Rattle.block.proofs.FieldLaws.{above-nan, upto_number}
use Rattle.block.proofs.number.Goals as goal

pub returns-then-bits-gt9218868437227405312 : goal.returns-then-bits-gt9218868437227405312
unfolding div of_bits of_fields odd
returns-then-bits-gt9218868437227405312 c = sym (above-nan _ c.if-bits-gt9218868437227405312.true)

pub float_from_bits-result : goal.float_from_bits-result
float_from_bits-result c = upto_number _ c.if-bits-gt9218868437227405312.false
