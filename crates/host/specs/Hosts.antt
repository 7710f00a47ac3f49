-- What hosts are told: a refusal as one number, and what else there is to say through lent numbers. Assumes nothing.
use Rattle.std.specs.Prelude.{ℕ, List, [], ◌∷◌, length, nat_lt, to_bits, Err, Ok}
use Rattle.std.specs.Float.{binary64}
use Rattle.answer.specs.Answer.{Answer, Check}
use Rattle.questions.specs.declared.Local.{Local}
use Rattle.answer.specs.Code.{code_of}
use Rattle.answer.specs.Stage.{first_refusal}
use Rattle.answer.specs.Lowest.{refuse_if}
use Rattle.fields.specs.Layout.{contours_of}
use Rattle.card.specs.Verdict.{check_of}
use Rattle.answer.specs.Room.{placed}
use Rattle.tour.specs.Search.{tour_on, outcome_on}

-- what a host's call for a tour leaves behind: its answer, the tour's room, and the two numbers
pub record Hosted : Type 0 where
  pub answer : ℕ
  pub room : List ℕ
  pub moves : ℕ
  pub bits : ℕ

abbrev pub hosted : ℕ → List ℕ → ℕ → ℕ → Hosted
hosted answer room moves bits = record { answer = answer; room = room; moves = moves; bits = bits }

-- the table is the library's own, so 13 speaks of the tour's room alone
unfoldable pub host_check : List ℕ → ℕ → Check
unfolding first_refusal
host_check s entries = first_refusal (check_of s ∷ refuse_if (nat_lt entries (contours_of s)) 13 (contours_of s) ∷ [])

-- accepted: 0, the tour at the front of its room, the trials, and the bits of the length; a refusal keeps them all
abbrev pub hosted_unless : Check → List ℕ → List ℕ → ℕ → ℕ → Hosted
hosted_unless (Ok _) s room moves bits =
    hosted 0 (placed (tour_on s) room) (outcome_on s).moves (to_bits binary64 (outcome_on s).length)
hosted_unless (Err r) s room moves bits = hosted (code_of (Err r)) room moves bits

unfoldable pub host_tour : List ℕ → List ℕ → ℕ → ℕ → Hosted
unfolding host_check
host_tour s room moves bits = hosted_unless (host_check s (length room)) s room moves bits

-- what a host's call for a candidate's place leaves behind
pub record Pointed : Type 0 where
  pub answer : ℕ
  pub contour : ℕ
  pub within : ℕ

abbrev pub pointed : ℕ → ℕ → ℕ → Pointed
pointed answer contour within = record { answer = answer; contour = contour; within = within }

abbrev pub host_place : Answer Local → ℕ → ℕ → Pointed
host_place (Ok p) contour within = pointed 0 p.contour p.within
host_place (Err r) contour within = pointed (code_of (Err r)) contour within
