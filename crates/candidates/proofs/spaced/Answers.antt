-- `candidates::spaced` meets its contract: a place filled, and at last all of them. Assumes nothing.
use Rattle.std.proofs.Common.{◌≡◌, refl, arith}
use Rattle.candidates.specs.Generate.{spaced}
use Rattle.candidates.proofs.FillLaws.{room_more, room_full}
use Rattle.candidates.proofs.spaced.Goals as goal

pub loop-k-init : goal.loop-k-init
unfolding spaced
loop-k-init c = refl

pub loop-k-preserved : goal.loop-k-preserved
loop-k-preserved c =
    rw (
      c.candidate_at.ensures,
      c.moved_if.ensures,
      c.spot_at-s.ensures,
      c.target_of.ensures,
      c.loop-k.invariant,
    ) (room_more _ _ _ _ _ _ (omega arith))

pub returns : goal.returns
returns c =
    let e : c.loop-k.k ≡ c.args.c = omega arith in
    rw (c.loop-k.invariant, e) (room_full _ _ _ _ _)
