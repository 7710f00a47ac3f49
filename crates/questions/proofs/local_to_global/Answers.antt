-- `questions::local_to_global` meets its contract. Assumes nothing.
use Rattle.std.proofs.Common.{rules}
use Rattle.answer.specs.Stage.{first_refusal}
use Rattle.questions.specs.Index.{global_of}
use mathlib.Core.Path.{sym, ◌∙◌}
use Rattle.questions.proofs.IndexLaws.{global_fine}
use Rattle.questions.proofs.local_to_global.Goals as goal

pub global_of_fine-requires : goal.global_of_fine-requires
global_of_fine-requires c = sym c.check.ensures ∙ c.in_ok-check.was

pub returns-in_err-check : goal.returns-in_err-check
unfolding global_of first_refusal
returns-in_err-check c = search rules

pub returns : goal.returns
returns c =
    global_fine _ _ c.check.ensures _ _ _ c.in_ok-check.was
    c.global_of_fine.ensures
