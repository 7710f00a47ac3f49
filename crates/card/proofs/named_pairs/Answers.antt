-- `card::named_pairs` meets its contract. Assumes nothing.
use mathlib.Core.Path.{◌≡◌}
use native.Mathlib.Omega.{arith}
use Rattle.card.specs.Stages.{unnamed}
use Rattle.card.proofs.LoopLaws.{none_yet, one_more}
use Rattle.card.proofs.NameLaws.{position_below, first_unknown, second_unknown, both_known, before_is, after_is}
use Rattle.card.proofs.NameLaws.{places_none, places_more, named_until, named_all}
use Rattle.card.proofs.named_pairs.Goals as goal
use Rattle.card.proofs.named_pairs.Goals.{in_default-via-in-Some+in_default, in_default-via-in_default}

pub loop-q-init : goal.loop-q-init
loop-q-init c = (none_yet (unnamed c.args.card.now), places_none c.args.card.now)

pub returns-in_default : goal.returns-in_default
returns-in_default c = let s = c.args.card.now in
    let i = c.loop-q.invariant in
    named_until s _ _ i.0 i.1 (omega arith) (elim c.in_default.branch [
      | in_default-via-in-Some+in_default w ↦
          second_unknown s _ _ _ c.after_id.ensures c.position_of-after.ensures w.in_default.is-1
      | in_default-via-in_default w ↦
          first_unknown s _ _ _ c.before_id.ensures c.position_of-before.ensures w.in_default.is-0
    ])

pub overflow_cast-positions : goal.overflow_cast-positions
overflow_cast-positions c =
    omega (arith, c.requires, position_below _ _ _ _ c.position_of-before.ensures c.in-Some-Some.is-0)

pub overflow_cast-positions-in-loop-q : goal.overflow_cast-positions-in-loop-q
overflow_cast-positions-in-loop-q c =
    omega (arith, c.requires, position_below _ _ _ _ c.position_of-after.ensures c.in-Some-Some.is-1)

pub loop-q-preserved : goal.loop-q-preserved
loop-q-preserved c = let s = c.args.card.now in
    let i = c.loop-q.invariant in
    let known = both_known s c.loop-q.q _ _ _ _ _ _ c.before_id.ensures c.position_of-before.ensures
    c.in-Some-Some.is-0 c.after_id.ensures c.position_of-after.ensures c.in-Some-Some.is-1 in
    let b = before_is s c.loop-q.q _ _ _ _ _ _ c.before_id.ensures c.position_of-before.ensures
    c.in-Some-Some.is-0 c.after_id.ensures c.position_of-after.ensures c.in-Some-Some.is-1 in
    let a = after_is s c.loop-q.q _ _ _ _ _ _ c.before_id.ensures c.position_of-before.ensures
    c.in-Some-Some.is-0 c.after_id.ensures c.position_of-after.ensures c.in-Some-Some.is-1 in
    (one_more (unnamed s) _ i.0 known, places_more s _ _ _ _ (omega (arith, c.requires)) i.1 b a)

pub returns : goal.returns
returns c = let i = c.loop-q.invariant in
    let all : c.loop-q.q ≡ c.pairs-pairs.result = omega arith in
    rw (← all) (named_all c.args.card.now _ _ i.0 i.1 (omega arith) (omega arith))
