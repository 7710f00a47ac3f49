-- `hierarchy::last_rank` meets its contract. Assumes nothing.
use borrow.Author.Rules.{rules}
use borrow.Author.Tests.{tests}
use lib.Dec.{eqb}
use Prim.Native.Nat.{ℕ}
use Rattle.keep.specs.Keep.{last_rank}
use lib.ListN.{length}
use mathlib.Core.List.{List, [], ◌∷◌, reverse}
use mathlib.Core.Path.{ap, ◌∙◌}
use Rattle.std.specs.Slice.Iter.{iter_rest, iter_steps_back}
use Rattle.std.proofs.lemmas.List.{length-reverse, reverse-append}
use Rattle.std.proofs.lemmas.Iterator.Consumers.{YieldsList-from_shown}
use Rattle.std.proofs.lemmas.Iterator.Search.{position_from_yields_List}
use Rattle.keep.proofs.RankLaws.{from_back, turned, rank_told}
use Rattle.hierarchy.proofs.last_rank.Goals as goal

pub returns : goal.returns
returns c =
    let ids = iter_rest c.iter.result in
    let r = c.rposition.result in
    let back = YieldsList-from_shown iter_steps_back (λ y. y.now) (λ u. reverse (iter_rest u))
    (λ u t p. length-reverse _ ∙ p.0) (λ u x t p. ap reverse p ∙ reverse-append (iter_rest t) (x.now ∷ []))
    c.iter.result in
    let ran = c.rposition.ensures.ran in
    let place = position_from_yields_List (λ x. eqb x c.args.id) _ _ (from_back (length ids) r)
    (ran.0, ran.1, ran.2, ran.3, ran.4, turned (length ids) (length ran.0) r ran.1 _ ran.5) back
    (λ x b q k. search (rules, tests)) in
    rank_told c.args.id ids r _ c.rposition.ensures.bound place (search rules)
    ∙ ap (λ (l : List ℕ). last_rank l c.args.id) c.iter.ensures.rest
