-- `questions::evaluate` meets its contract. Assumes nothing.
use Rattle.std.proofs.Common.{rules}
use Rattle.answer.specs.Stage.{first_refusal}
use Rattle.questions.specs.Order.{evaluated}
use mathlib.Core.Path.{sym, ◌∙◌}
use Rattle.instance.proofs.PreparedLaws.{prepared_on}
use Rattle.questions.proofs.OrderLaws.{order_fine}
use Rattle.questions.proofs.evaluate.Goals as goal

pub measured-requires : goal.measured-requires
measured-requires c =
    record {
      card = _;
      on =
          prepared_on _ (sym c.check.ensures ∙ c.in_ok-check.was) _
          c.prepare.ensures;
    }

pub returns-in_err-check : goal.returns-in_err-check
unfolding evaluated first_refusal
returns-in_err-check c = search rules

pub returns : goal.returns
returns c =
    let check = c.check.ensures in
    let fine = c.in_ok-check.was in
    order_fine _ _ _ check _ _ fine (prepared_on _ (sym check ∙ fine) _ c.prepare.ensures)
    c.measured.ensures
