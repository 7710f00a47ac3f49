-- `hierarchy::others` meets its contract. Assumes nothing.
use Rattle.std.proofs.Common.{rules, Ok}
use mathlib.Core.Path.{sym, ap, ◌∙◌}
use Rattle.hierarchy.proofs.CheckLaws.{fine_small}
use Rattle.hierarchy.proofs.others.Goals as goal

pub returns-in_err-check_pairs : goal.returns-in_err-check_pairs
returns-in_err-check_pairs g c = λ test pick finds. search rules

pub list_others-requires-clause-small : goal.list_others-requires-clause-small
list_others-requires-clause-small g c = (fine_small _ _ (sym c.in_ok-check_pairs.was ∙ c.check_pairs.ensures)).short

pub returns : goal.returns
returns g c = λ test pick finds.
    rw (← c.check_pairs.ensures, c.in_ok-check_pairs.was) (ap Ok (c.list_others.ensures test pick finds))
