-- `card::used` meets its contract. Assumes nothing.
use native.Mathlib.Omega.{arith}
use Rattle.block.proofs.Readings.{u16_of}
use Rattle.card.proofs.SpareLaws.{used_contour}
use Rattle.card.proofs.used.Goals as goal

pub returns-then-b-n : goal.returns-then-b-n
returns-then-b-n c = let a = c.args in
    used_contour a.card.now a.b c.if-b-eq0.false _ (omega arith)
    (u16_of _ _ _ c.contour_offset.ensures _ c.u16_at-v.ensures)
