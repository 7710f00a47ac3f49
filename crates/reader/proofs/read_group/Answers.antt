-- `reader::read_group` meets its contract: two fields, one after the other, or in version 1 neither. Assumes nothing.
use Prim.Native.Nat.{◌+◌}
use native.Mathlib.Omega.{arith}
use Rattle.fields.specs.Layout.{payload, part_offset, copy_offset}
use Rattle.reader.specs.declared.Width.TheVariants.{Four}
use Rattle.reader.specs.OnCard.{group_of}
use Rattle.reader.proofs.WalkLaws.{stands, next_is}
use Rattle.reader.proofs.read_group.Goals as goal

pub returns-then-not-is_two : goal.returns-then-not-is_two
unfolding group_of
returns-then-not-is_two c = rw (← c.is_two.ensures, c.if-not-is_two.true)

pub returns : goal.returns
unfolding group_of
returns c =
    let s = c.args.card.now in
    let p = payload (c.args.k + 1) in
    let r = stands _ (p + part_offset) _ _ _ (omega (arith, c.contour_offset-at.ensures)) c.new.ensures c.moved-r.ensures in
    let a = next_is s (p + part_offset) (p + copy_offset) Four _ _ _ (omega arith) r c.next.ensures.0 c.next.ensures.1 in
    let b = next_is s (p + copy_offset) (p + 500) Four _ _ _ (omega arith) a.there c.next-2.ensures.0 c.next-2.ensures.1 in
    rw (← c.is_two.ensures, c.if-not-is_two.false, a.value_is, b.value_is)
