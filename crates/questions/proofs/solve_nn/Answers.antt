-- `questions::solve_nn` meets its contract. Assumes nothing.
use Rattle.std.proofs.Common.{rules}
use Rattle.questions.specs.Nearest.{nearest_of}
use mathlib.Core.Path.{sym, ◌∙◌}
use Rattle.instance.proofs.PreparedLaws.{prepared_on}
use Rattle.questions.proofs.NearestLaws.{stops_fine}
use Rattle.questions.proofs.solve_nn.Goals as goal

pub returns-in_err-check : goal.returns-in_err-check
unfolding nearest_of
returns-in_err-check c = search rules

pub unbound-requires : goal.unbound-requires
unbound-requires c =
    record {
      card = _;
      on =
          prepared_on _ (sym c.check.ensures ∙ c.in_ok-check.was) _
          c.prepare.ensures;
    }

pub returns : goal.returns
returns c =
    let check = c.check.ensures in
    let fine = c.in_ok-check.was in
    stops_fine _ _ check _ _ fine (prepared_on _ (sym check ∙ fine) _ c.prepare.ensures)
    c.unbound.ensures
