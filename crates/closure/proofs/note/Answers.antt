-- `closure::note` meets its contract. Assumes nothing.
use native.Mathlib.Omega.{arith}
use Rattle.closure.proofs.FlagLaws.{note-set, note_skip}
use Rattle.closure.proofs.PairLaws.{pair_is}
use Rattle.closure.proofs.note.Goals as goal

pub returns-then-a-n : goal.returns-then-a-n
returns-then-a-n g c =
    rw (pair_is _ _ _ _ _ _ c.type_inv.pair c.place-b.ensures c.place-a.ensures)
    (note-set _ _ _ _ c.requires.1 c.if-b-n.true c.if-a-n.true c.requires.0)

pub returns-else-b-n : goal.returns-else-b-n
returns-else-b-n g c =
    rw (pair_is _ _ _ _ _ _ c.type_inv.pair c.place-b.ensures c.place-a.ensures)
    (note_skip _ _ _ _ c.requires.1 (λ hb ha. omega (arith, c.else-b-n.either)))
