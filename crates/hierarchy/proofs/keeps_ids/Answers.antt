-- `hierarchy::keeps_ids` meets its contract. Assumes nothing.
use borrow.Author.Rules.{rules}
use borrow.Author.Tests.{tests}
use mathlib.Core.Bool.{Bool}
use mathlib.Core.Path.{ap, ◌∙◌}
use Rattle.std.proofs.lemmas.Iterator.{YieldsList-from_slice}
use Rattle.std.proofs.lemmas.Iterator.Search.{all_from_yields_List}
use Rattle.closure.specs.Pairs.{Pair, pair_of, every}
use Rattle.closure.proofs.PairLaws.{all_chunks, chunks_are}
use Rattle.keep.specs.Keep.{kept_in, keeps_pairs}
use Rattle.hierarchy.proofs.keeps_ids.Goals as goal

pub returns : goal.returns
unfolding keeps_pairs kept_in
returns c =
    let chunks = c.as_chunks.result.0.now in
    let kept : Pair → Bool = kept_in c.args.ids.now in
    all_from_yields_List (λ two. kept (pair_of two)) _ _ _ c.all.ensures.ran (YieldsList-from_slice chunks cc)
    (λ x b q k. search (rules, tests))
    ∙ all_chunks kept chunks ∙ ap (every kept) (chunks_are c.args.pairs.now _ c.as_chunks.ensures.front)
