-- There are twins: a fine card of version 2 with an outline, a hole that a written pair puts first and no part, and
-- the same card of version 1. Assumes nothing.
use Rattle.std.specs.Prelude.{◌≡◌, List, [], ◌∷◌, ℕ, Ok}
use Rattle.fields.specs.Layout.{copy_of}
use Rattle.card.specs.Verdict.{check_of}
use Rattle.card_laws.specs.Card.{Card}
use Rattle.card_laws.specs.Examples.{as_job, nine, two, waits}
use Rattle.card_laws.specs.Write.{written}
use Rattle.parts.specs.Twins.{Twins}
use Rattle.parts.specs.Holes.{in_part}

-- of this version, the outline with this copy of no part
abbrev pub plate : ℕ → ℕ → Card
plate version copy = as_job version 41 (in_part 0 copy nine ∷ two ∷ []) (waits 2 9 ∷ [])

-- with a copy, which counts for nothing without a part
abbrev pub second : List ℕ
second = written (plate 2 7)

-- its twin
abbrev pub first : List ℕ
first = written (plate 1 0)

pub record Witness : Type 0 where
  pub are_twins : Twins second first
  pub is_fine : check_of second ≡ Ok tt
  pub has_copy : copy_of second 0 ≡ 7
