-- `reader::read_pair` meets its contract: its fields, one after the other, are the pair. Assumes nothing.
use native.Mathlib.Omega.{arith}
use Prim.Native.Nat.{◌+◌}
use Rattle.fields.specs.Layout.{pair_offset}
use Rattle.reader.specs.declared.Width.TheVariants.{Four}
use Rattle.reader.specs.OnCard.{pair_read}
use Rattle.reader.proofs.WalkLaws.{stands, next_is}
use Rattle.reader.proofs.read_pair.Goals as goal

pub returns : goal.returns
unfolding pair_read
returns c =
    let s = c.args.card.now in
    let p = pair_offset s c.args.q in
    let r = stands _ (p + 0) _ _ _ (omega (arith, c.pair_offset.ensures)) c.new.ensures c.moved-r.ensures in
    let a = next_is s (p + 0) (p + 4) Four _ _ _ (omega arith) r c.next.ensures.0 c.next.ensures.1 in
    let b = next_is s (p + 4) (p + 8) Four _ _ _ (omega arith) a.there c.next-2.ensures.0 c.next-2.ensures.1 in
    let d = next_is s (p + 8) (p + 12) Four _ _ _ (omega arith) b.there c.next-3.ensures.0 c.next-3.ensures.1 in
    let e = next_is s (p + 12) (p + 16) Four _ _ _ (omega arith) d.there c.next-4.ensures.0 c.next-4.ensures.1 in
    rw (a.value_is, b.value_is, d.value_is, e.value_is)
