-- `card::far_vertex` meets its contract. Assumes nothing.
use Rattle.std.proofs.Common.{rules, ◌≡◌, ◌+◌, ◌*◌, true, false, sym}
use Rattle.block.proofs.Readings.{u16_of}
use Rattle.answer.proofs.SearchLaws.{found_by}
use Rattle.fields.specs.Layout.{payload, contour_size, vertex_offset}
use Rattle.card.specs.Stages.{far_point, far_vertex}
use Rattle.card.proofs.FarLaws.{vertex_looked_at}
use Rattle.card.proofs.far_vertex.Goals as goal

pub returns : goal.returns
unfolding far_vertex
returns c =
    let s = c.args.card.now in
    let k = c.args.k in
    let start = c.contour_offset-start in
    let seen = vertex_looked_at s (payload (k + 1) + contour_size) start.result in
    rw (← u16_of _ _ _ c.contour_offset.ensures _ c.u16_at-v.ensures)
    (found_by (λ j. far_point s (vertex_offset k j)) _ _ _ _ c.find.ensures.ran
    (λ j q e. let h : far_point s (start.result + 16 * j) ≡ true = search rules in seen (16 * j) true start.ensures (sym h))
    (λ j q e. let h : (q ≡ _) × (far_point s (start.result + 16 * j) ≡ false) = search rules in
    (h.0, seen (16 * j) false start.ensures (sym h.1))))
