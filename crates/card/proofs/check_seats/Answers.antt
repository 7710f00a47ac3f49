-- `card::check_seats` meets its contract. Assumes nothing.
use Rattle.std.proofs.lemmas.Result.{err_from_is_err_and}
use mathlib.Core.Path.{sym, ◌∙◌}
use Rattle.card.proofs.GroupLaws.{stops_at, goes_past, ends_with}
use Rattle.card.proofs.check_seats.Goals as goal

pub returns-in_err-refused_at : goal.returns-in_err-refused_at
returns-in_err-refused_at c =
    let p = err_from_is_err_and c.from_residual.result c.from_residual.ensures.1 in
    rw (p.1, p.2)
    (sym c.in_err-refused_at.was
    ∙ stops_at 11 c.refused_at.ensures c.tag_fault.ensures _ c.in_err-refused_at.was)

pub returns : goal.returns
returns c = goes_past 11 c.refused_at.ensures c.tag_fault.ensures _ c.in_ok-refused_at.was
    (ends_with 12 c.refused_at-2.ensures c.cycle_fault.ensures)
