-- `hierarchy::has_pair` meets its contract. Assumes nothing.
use borrow.Author.Rules.{rules}
use borrow.Author.Tests.{tests}
use mathlib.Core.Bool.{Bool}
use mathlib.Core.Path.{ap, ◌∙◌}
use Rattle.std.proofs.lemmas.Iterator.{YieldsList-from_slice}
use Rattle.std.proofs.lemmas.Iterator.Search.{any_from_yields_List}
use Rattle.closure.specs.Pairs.{Pair, pair_of, some_of, is_pair}
use Rattle.closure.proofs.PairLaws.{any_chunk, chunks_are}
use Rattle.hierarchy.proofs.has_pair.Goals as goal

pub returns : goal.returns
returns c =
    let chunks = c.as_chunks.result.0.now in
    let asked : Pair → Bool = is_pair c.args.before c.args.after in
    any_from_yields_List (λ two. asked (pair_of two)) _ _ _ c.any.ensures.ran (YieldsList-from_slice chunks cc)
    (λ x b q k. search (rules, tests))
    ∙ any_chunk asked chunks ∙ ap (some_of asked) (chunks_are c.args.pairs.now _ c.as_chunks.ensures.front)
