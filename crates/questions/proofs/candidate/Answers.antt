-- `questions::candidate` meets its contract. Assumes nothing.
use Rattle.std.proofs.Common.{rules}
use Rattle.answer.specs.Stage.{first_refusal}
use Rattle.questions.specs.Index.{picked_of, number_check}
use mathlib.Core.Path.{sym, ◌∙◌}
use Rattle.questions.proofs.IndexLaws.{candidate_fine}
use Rattle.questions.proofs.candidate.Goals as goal

pub candidate_of_fine-requires : goal.candidate_of_fine-requires
candidate_of_fine-requires c = sym c.check.ensures ∙ c.in_ok-check.was

pub returns-in_err-check : goal.returns-in_err-check
unfolding picked_of number_check first_refusal
returns-in_err-check c = search rules

pub returns : goal.returns
returns c =
    candidate_fine _ _ c.check.ensures _ _ c.in_ok-check.was
    c.candidate_of_fine.ensures
