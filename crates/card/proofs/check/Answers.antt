-- `card::check` meets its contract. Assumes nothing.
use Rattle.std.proofs.Common.{rules}
use mathlib.Core.Path.{sym, ◌∙◌}
use Rattle.card.proofs.GroupLaws.{few_of_both, stages_stop, pairs_say}
use Rattle.card.proofs.check.Goals as goal

pub returns-in_err-check_stages : goal.returns-in_err-check_stages
returns-in_err-check_stages c = search (rules, stages_stop)

pub check_pairs-requires : goal.check_pairs-requires
check_pairs-requires c = few_of_both c.args.card.now (sym c.check_stages.ensures ∙ c.in_ok-check_stages.was)

pub returns : goal.returns
returns c = pairs_say _ _ c.check_stages.ensures _ c.in_ok-check_stages.was c.check_pairs.ensures
