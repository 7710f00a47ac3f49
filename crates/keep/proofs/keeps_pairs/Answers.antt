-- `keep::keeps_pairs` meets its contract. Assumes nothing.
use borrow.Author.Rules.{rules}
use borrow.Author.Tests.{tests}
use lib.ListN.{get_or}
use mathlib.Core.Bool.{Bool}
use mathlib.Core.Path.{◌∙◌}
use Rattle.std.proofs.lemmas.Iterator.{YieldsList-from_slice}
use Rattle.std.proofs.lemmas.Iterator.Search.{all_from_yields_List}
use Rattle.closure.specs.Pairs.{Pair, pair_of}
use Rattle.closure.proofs.PairLaws.{all_chunks}
use Rattle.keep.specs.Keep.{kept_at}
use Rattle.keep.proofs.RankLaws.{table_keeps}
use Rattle.keep.proofs.keeps_pairs.Goals as goal

pub returns : goal.returns
returns c =
    let chunks = c.as_chunks.result.0.now in
    let ranks = c.note_ranks.new.ranks in
    let kept : Pair → Bool = λ p. kept_at (get_or ranks p.before 0) (get_or ranks p.after 0) in
    all_from_yields_List (λ two. kept (pair_of two)) _ _ _ c.all.ensures.ran (YieldsList-from_slice chunks cc)
    (λ x b q k. search (rules, tests))
    ∙ all_chunks kept chunks
    ∙ table_keeps _ _ c.args.pairs.now _ c.as_chunks.ensures.front c.note_ranks.ensures (λ i. (c.type_inv.pairs i).fits)
