-- `hierarchy::list_others` meets its contract. Assumes nothing.
use mathlib.Core.Path.{sym, ◌∙◌}
use Prim.Native.Nat.{◌<◌}
use native.Mathlib.Omega.{arith}
use Rattle.closure.specs.Limits.{pair_limit}
use Rattle.hierarchy.proofs.FillLaws.{pick_none, pick_yes, pick_no, pick_all, listed_is}
use Rattle.keep.proofs.RankLaws.{some_is, none_is}
use Rattle.hierarchy.proofs.list_others.Goals as goal
use Rattle.hierarchy.proofs.list_others.Goals.{in-Some, in_default}

pub loop-b-init : goal.loop-b-init
loop-b-init g c = record { few = omega arith; picked = λ test pick finds. pick_none _ _ _ _ }

pub loop-b-preserved : goal.loop-b-preserved
loop-b-preserved g c =
    let more = c.loop-b-test.true in
    let before = c.loop-b.invariant in
    let room : c.loop-b.count < pair_limit =
    omega (arith, before.few, more, c.as_chunks.ensures.front_len, c.requires.small) in
    elim c.match-other.branch [
      | in-Some w ↦ record {
        few = omega (arith, before.few, w.count-is);
        picked = λ test pick finds.
            let handed = some_is _ _ _ (sym w.in-Some.is ∙ finds _ _ _ c.other.ensures) in
            rw (w.items-is, w.count-is)
            (pick_yes _ _ _ _ _ _ _ more (before.picked test pick finds) _ handed.1 room handed.0);
      }
      | in_default w ↦ record {
        few = omega (arith, before.few, w.count-is);
        picked = λ test pick finds.
            rw (w.items-is, w.count-is)
            (pick_no _ _ _ _ _ _ _ more (before.picked test pick finds)
            (none_is _ _ (sym w.in_default.is ∙ finds _ _ _ c.other.ensures)));
      }
    ]

pub returns : goal.returns
returns g c = λ test pick finds.
    listed_is _ _ _ _
    (pick_all _ test pick c.args.pairs.now _ _ _ _ c.as_chunks.ensures.front c.loop-b-test.false
    (c.loop-b.invariant.picked test pick finds))
