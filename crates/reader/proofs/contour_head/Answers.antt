-- `reader::contour_head` meets its contract: its fields, one after the other, are those before the vertices. Assumes
-- nothing.
use mathlib.Core.Path.{◌≡◌, ◌∙◌}
use Prim.Native.Nat.{◌+◌, min}
use native.Mathlib.Omega.{arith}
use lib.ListN.{length}
use Rattle.fields.specs.Layout.{payload, vertex_offset}
use Rattle.reader.specs.declared.Width.TheVariants.{One, Two, Four}
use Rattle.reader.specs.OnCard.{contour_head}
use Rattle.reader.proofs.WalkLaws.{stands, next_is}
use Rattle.reader.proofs.contour_head.Goals as goal

pub returns : goal.returns
unfolding contour_head
returns c =
    let s = c.args.card.now in
    let k = c.args.k in
    let p = payload (k + 1) in
    let r = stands _ (p + 0) _ _ _ (omega (arith, c.contour_offset.ensures)) c.new.ensures c.moved-r.ensures in
    let a = next_is s (p + 0) (p + 4) Four _ _ _ (omega arith) r c.next.ensures.0 c.next.ensures.1 in
    let b = next_is s (p + 4) (p + 8) Four _ _ _ (omega arith) a.there c.next-2.ensures.0 c.next-2.ensures.1 in
    let d = next_is s (p + 8) (p + 10) Two _ _ _ (omega arith) b.there c.next-3.ensures.0 c.next-3.ensures.1 in
    let e = next_is s (p + 10) (p + 11) One _ _ _ (omega arith) d.there c.next-4.ensures.0 c.next-4.ensures.1 in
    let f = next_is s (p + 11) (p + 12) One _ _ _ (omega arith) e.there c.next-5.ensures.0 c.next-5.ensures.1 in
    let after : c.next-5.new.self.at ≡ min (vertex_offset k 0) (length s) = f.after_is ∙ omega arith in
    rw (a.value_is, b.value_is, d.value_is, e.value_is, f.value_is, after)
