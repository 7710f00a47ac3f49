-- `tour::tour` meets its contract: the card's own refusal, or what is left behind where there is none. Assumes nothing.
use Rattle.std.proofs.lemmas.Result.{err_from_is_err_and}
use mathlib.Core.Path.{sym, ◌∙◌}
use Rattle.tour.proofs.DoorLaws.{tour-refused, tour_fine}
use Rattle.tour.proofs.tour.Goals as goal

pub tour_of_fine-requires : goal.tour_of_fine-requires
tour_of_fine-requires c = sym c.check.ensures ∙ c.in_ok-check.was

pub returns-in_err-check : goal.returns-in_err-check
returns-in_err-check c =
    let p = err_from_is_err_and c.from_residual.result c.from_residual.ensures.1 in
    rw (p.1, p.2) (tour-refused _ _ _ _ c.check.ensures _ c.in_err-check.was)

pub returns : goal.returns
returns c = tour_fine _ _ _ _ c.check.ensures _ c.in_ok-check.was c.tour_of_fine.ensures
