-- `closure::lowest_on_cycle` meets its contract. Assumes nothing.
use native.Mathlib.Omega.{arith}
use mathlib.Core.List.{List, map}
use Prim.Native.Nat.{◌≤◌}
use lib.ListN.{length}
use mathlib.Core.Path.{◌∙◌}
use Rattle.std.proofs.lemmas.List.{length-map}
use Rattle.closure.specs.Pairs.{Pair, pair_of}
use Rattle.closure.proofs.FlagLaws.{unset_whole, noted_none, noted_more, noted_all, diagonal_capped}
use Rattle.closure.proofs.PairLaws.{left-map, one_fits}
use Rattle.closure.proofs.lowest_on_cycle.Goals as goal

pub loop-pair-init : goal.loop-pair-init
loop-pair-init g c = noted_none _ _ _ unset_whole

pub note-requires : goal.note-requires
note-requires g c = (
  one_fits _ _ _ (omega (arith, c.loop-pair-test.true)) c.well_formed.1.0.1,
  (omega (arith, c.min-n.ensures), c.loop-pair.invariant.whole),
)

pub loop-pair-preserved : goal.loop-pair-preserved
loop-pair-preserved g c =
    noted_more _ _ _ _ _ _ _ (left-map _ _ _ _ c.loop-pair-test.true c.pair-item.is) c.loop-pair.invariant
    c.note.ensures

pub close-requires : goal.close-requires
close-requires g c = (omega (arith, c.min-n.ensures), c.loop-pair.invariant.whole)

pub returns : goal.returns
returns g c = λ flat e.
    let place : List g.row.P.Denot → Pair = λ p. pair_of (map g.P.Position.place p) in
    let end : length (map place c.args.pairs.now) ≤ c.loop-pair.pair-index =
    omega (arith, c.loop-pair-test.false, length-map c.args.pairs.now place) in
    let all = noted_all _ _ _ _ _ end c.loop-pair.invariant in
    c.on_diagonal.ensures ∙ diagonal_capped _ _ flat _ _ c.min-n.ensures (rw e all) c.close.ensures
