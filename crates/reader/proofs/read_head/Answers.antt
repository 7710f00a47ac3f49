-- `reader::read_head` meets its contract: its fields, one after the other, are the head. Assumes nothing.
use mathlib.Core.Path.{refl}
use native.Mathlib.Omega.{arith}
use Rattle.reader.specs.declared.Width.TheVariants.{One, Two, Four, Eight}
use Rattle.reader.specs.OnCard.{head_of}
use Rattle.reader.proofs.WalkLaws.{stands, next_is}
use Rattle.reader.proofs.read_head.Goals as goal

pub returns : goal.returns
unfolding head_of
returns c =
    let s = c.args.card.now in
    let r = stands _ 8 _ _ _ refl c.new.ensures c.moved-r.ensures in
    let a = next_is s 8 12 Four _ _ _ (omega arith) r c.next.ensures.0 c.next.ensures.1 in
    let b = next_is s 12 14 Two _ _ _ (omega arith) a.there c.next-2.ensures.0 c.next-2.ensures.1 in
    let d = next_is s 14 16 Two _ _ _ (omega arith) b.there c.next-3.ensures.0 c.next-3.ensures.1 in
    let e = next_is s 16 18 Two _ _ _ (omega arith) d.there c.next-4.ensures.0 c.next-4.ensures.1 in
    let f = next_is s 18 20 Two _ _ _ (omega arith) e.there c.next-5.ensures.0 c.next-5.ensures.1 in
    let g = next_is s 20 24 Four _ _ _ (omega arith) f.there c.next-6.ensures.0 c.next-6.ensures.1 in
    let h = next_is s 24 32 Eight _ _ _ (omega arith) g.there c.next-7.ensures.0 c.next-7.ensures.1 in
    let i = next_is s 32 40 Eight _ _ _ (omega arith) h.there c.next-8.ensures.0 c.next-8.ensures.1 in
    let j = next_is s 40 41 One _ _ _ (omega arith) i.there c.next-9.ensures.0 c.next-9.ensures.1 in
    let k = next_is s 41 42 One _ _ _ (omega arith) j.there c.next-10.ensures.0 c.next-10.ensures.1 in
    rw (
      a.value_is,
      b.value_is,
      d.value_is,
      e.value_is,
      f.value_is,
      g.value_is,
      h.value_is,
      i.value_is,
      j.value_is,
      k.value_is,
    )
