-- `card::check_pairs` meets its contract. Assumes nothing.
use Rattle.std.proofs.lemmas.Result.{err_from_is_err_and}
use mathlib.Core.Path.{sym, ◌∙◌}
use Rattle.card.proofs.GroupLaws.{stops_at, goes_past, fine_absent}
use Rattle.card.proofs.NameLaws.{named_stopped, all_named}
use Rattle.card.proofs.check_pairs.Goals as goal

pub returns-in_err-refused_at : goal.returns-in_err-refused_at
returns-in_err-refused_at c =
    let p = err_from_is_err_and c.from_residual.result c.from_residual.ensures.1 in
    rw (p.1, p.2)
    (sym c.in_err-refused_at.was
    ∙ stops_at 10 c.refused_at.ensures (named_stopped c.args.card.now _ c.named_pairs-named.ensures) _ c.in_err-refused_at.was)

pub check_seats-requires : goal.check_seats-requires
check_seats-requires c = all_named c.args.card.now _ c.requires.0 c.requires.1 c.named_pairs-named.ensures
    (fine_absent 10 _ (sym c.refused_at.ensures ∙ c.in_ok-refused_at.was))

pub returns : goal.returns
returns c = let s = c.args.card.now in
    goes_past 10 c.refused_at.ensures (named_stopped s _ c.named_pairs-named.ensures) _ c.in_ok-refused_at.was
    c.check_seats.ensures
