-- `root::whole_root` meets its contract: a guess that passes both tests is the whole part of the root, since there is
-- only one; the library's root is it too. Assumes nothing.
use mathlib.Core.Path.{sym}
use native.Mathlib.Omega.{arith}
use Rattle.root.proofs.WholeLaws.{whole_unique}
use Rattle.root.proofs.whole_root.Goals as goal

pub returns-then-m-square : goal.returns-then-m-square
returns-then-m-square c = sym (whole_unique _ _ c.if-square-m.true (omega arith))

pub returns-else-square-m : goal.returns-else-square-m
returns-else-square-m c = sym (whole_unique _ _ c.isqrt.ensures.square_le c.isqrt.ensures.next_square_gt)
