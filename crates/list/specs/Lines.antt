-- The list of a card s, line by line. Assumes nothing.
use Rattle.std.specs.Prelude.{List, [], ◌∷◌, ◌++◌, ℕ, Err, Ok}
use Rattle.std.specs.Float.Ieee.{to_bits}
use Rattle.std.specs.Float.{binary64}
use Rattle.answer.specs.Answer.{Check}
use Rattle.answer.specs.declared.CutDirection.{CutDirection}
use Rattle.answer.specs.declared.CutDirection.TheVariants.{Ccw, Cw}
use Rattle.answer.specs.declared.Refusal.{Refusal}
use Rattle.fields.specs.Layout.{job_of, contours_of, id_of, tag_of}
use Rattle.card.specs.Verdict.{check_of}
use Rattle.instance.specs.Gather.{way_of}
use Rattle.solve.specs.declared.Outcome.{Outcome}
use Rattle.questions.specs.declared.Local.{Local}
use Rattle.tour.specs.Search.{tour_on, outcome_on}
use Rattle.questions.specs.Index.{place_on}
use Rattle.text.specs.Text.{bytes, decimal_of, hex_of}

-- which job it is, and how many contours it has
unfoldable pub head_line : List ℕ → List ℕ
head_line s = bytes "JOB " ++ decimal_of (job_of s) ++ (bytes " CONTOURS " ++ decimal_of (contours_of s)) ++ bytes "\n"

-- which way round a contour is cut
unfoldable pub way_word : CutDirection → List ℕ
way_word Ccw = bytes " ccw\n"
way_word Cw = bytes " cw\n"

-- a contour's id and tag
unfoldable pub name_words : List ℕ → ℕ → List ℕ
name_words s k = decimal_of (id_of s k) ++ (bytes " " ++ decimal_of (tag_of s k))

-- a stop: the contour's id and tag, the candidate's number within it, and which way round it is cut
unfoldable pub place_line : List ℕ → Local → List ℕ
unfolding name_words way_word
place_line s p = name_words s p.contour ++ (bytes " " ++ decimal_of p.within) ++ way_word (way_of s p.contour)

unfoldable pub stop_line : List ℕ → ℕ → List ℕ
unfolding place_line
stop_line s a = place_line s (place_on s a)

-- a line for each stop of a tour
unfoldable pub stop_lines : List ℕ → List ℕ → List ℕ
unfolding stop_line
stop_lines s [] = []
stop_lines s (a ∷ tour) = stop_line s a ++ stop_lines s tour

-- the trials, and the bits of the length
unfoldable pub outcome_lines : Outcome → List ℕ
outcome_lines o =
    bytes "MOVES " ++ decimal_of o.moves ++ bytes "\nRAPID " ++ hex_of (to_bits binary64 o.length) ++ bytes "\n"

-- the list of a tour
unfoldable pub tour_lines : List ℕ → List ℕ → Outcome → List ℕ
unfolding head_line stop_lines outcome_lines
tour_lines s tour o = head_line s ++ stop_lines s tour ++ outcome_lines o

-- the one line of a refusal
unfoldable pub refusal_line : Refusal → List ℕ
refusal_line r = bytes "REFUSED " ++ decimal_of r.number ++ (bytes " AT " ++ decimal_of r.place) ++ bytes "\n"

abbrev pub list_unless : Check → List ℕ → List ℕ
list_unless (Ok _) s = tour_lines s (tour_on s) (outcome_on s)
list_unless (Err r) s = refusal_line r

-- the list of any bytes
unfoldable pub list_of : List ℕ → List ℕ
unfolding tour_lines refusal_line
list_of s = list_unless (check_of s) s
