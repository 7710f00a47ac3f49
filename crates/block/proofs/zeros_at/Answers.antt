-- `block::zeros_at` meets its contract. Assumes nothing.
use Rattle.std.proofs.Common.{rules, refl, ℕ, List, [], ◌∷◌, ◌≡◌, nat_eq}
use Rattle.std.proofs.lemmas.Iterator.{YieldsList-from_slice}
use Rattle.std.proofs.lemmas.Iterator.Search.{all_from_yields_List}
use Rattle.std.specs.List.{list_all}
use borrow.Author.Tests.{tests}
use Rattle.block.specs.Block.{zeros_at, all_zero}
use Rattle.block.proofs.zeros_at.Goals as goal

all_zeros : (t : List ℕ) → list_all (λ x. nat_eq x 0) t ≡ all_zero t
unfolding all_zero
all_zeros [] = refl
all_zeros (x ∷ t) = rw (all_zeros t)

pub returns : goal.returns
unfolding zeros_at
returns c =
    rw (← c.part.ensures, ← all_zeros c.part.result.now)
    (all_from_yields_List (λ x. nat_eq x 0) _ _ _ c.all.ensures.ran (YieldsList-from_slice c.part.result.now cc)
    (λ x b q k. search (rules, tests)))
