-- `start::nearer` meets its contract. Assumes nothing.
use mathlib.Core.Path.{◌≡◌}
use borrow.Author.Rules.{rules}
use Rattle.start.specs.Code.{choice_of}
use Rattle.start.proofs.StepLaws.{closer_yes, closer_no}
use Rattle.start.proofs.nearer.Goals as goal

pub returns-then-offer-nearest : goal.returns-then-offer-nearest
returns-then-offer-nearest c =
    let e : c.map_or-nearest.result ≡ (choice_of c.args.best).distance = search rules in
    closer_yes _ _ _ _ (rw e at c.if-offer-nearest.true)

pub returns : goal.returns
returns c =
    let e : c.map_or-nearest.result ≡ (choice_of c.args.best).distance = search rules in
    closer_no _ _ _ _ (rw e at c.if-offer-nearest.false)
