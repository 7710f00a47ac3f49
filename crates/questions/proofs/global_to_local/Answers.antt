-- `questions::global_to_local` meets its contract. Assumes nothing.
use Rattle.std.proofs.Common.{rules}
use Rattle.answer.specs.Stage.{first_refusal}
use Rattle.questions.specs.Index.{located_of, number_check}
use mathlib.Core.Path.{sym, ◌∙◌}
use Rattle.questions.proofs.IndexLaws.{place_fine}
use Rattle.questions.proofs.global_to_local.Goals as goal

pub place_of_fine-requires : goal.place_of_fine-requires
place_of_fine-requires c = sym c.check.ensures ∙ c.in_ok-check.was

pub returns-in_err-check : goal.returns-in_err-check
unfolding located_of number_check first_refusal
returns-in_err-check c = search rules

pub returns : goal.returns
returns c =
    place_fine _ _ c.check.ensures _ _ c.in_ok-check.was
    c.place_of_fine.ensures
