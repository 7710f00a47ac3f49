-- `keep::is_ready` meets its contract. Assumes nothing.
use borrow.Author.Rules.{rules}
use borrow.Author.Tests.{tests}
use mathlib.Core.Bool.{Bool}
use mathlib.Core.Path.{ap, ◌∙◌}
use Rattle.std.proofs.lemmas.Iterator.{YieldsList-from_slice}
use Rattle.std.proofs.lemmas.Iterator.Search.{all_from_yields_List}
use Rattle.closure.specs.Pairs.{Pair, pair_of, every}
use Rattle.closure.proofs.PairLaws.{all_chunks, chunks_are}
use Rattle.keep.specs.Keep.{ready_by, ready_in}
use Rattle.keep.proofs.is_ready.Goals as goal

pub returns : goal.returns
unfolding ready_in
returns c =
    let chunks = c.as_chunks.result.0.now in
    let ready : Pair → Bool = ready_by c.args.visited.now c.args.k in
    all_from_yields_List (λ two. ready (pair_of two)) _ _ _ c.all.ensures.ran (YieldsList-from_slice chunks cc)
    (λ x b q k. search (rules, tests))
    ∙ all_chunks ready chunks ∙ ap (every ready) (chunks_are c.args.pairs.now _ c.as_chunks.ensures.front)
