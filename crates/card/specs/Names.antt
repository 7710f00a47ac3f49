-- A card's pairs as positions of contours: those written, as far as their ids are known, and those by rule. Assumes
-- nothing.
use Rattle.std.specs.Prelude.{◌≡◌, cond, ◌||◌, List, [], ◌∷◌, ◌++◌, ℕ, zero, suc, ◌+◌, ◌*◌, ◌≤◌, ltb, length, None, Some}
use Rattle.answer.specs.Answer.{Found}
use Rattle.answer.specs.Room.{padded}
use Rattle.card.specs.declared.Named.{Named}
use Rattle.closure.specs.Limits.{contour_limit, pair_limit}
use Rattle.fields.specs.Layout.{contours_of, pairs_of}
use Rattle.card.specs.Limits.{Limits, today}
use Rattle.card.specs.Stages.{name_fault, before_of, after_of}
use Rattle.card.specs.Rules.{rules_of}

-- the first so many written pairs as positions, before and after in turn
unfoldable pub seats_of : List ℕ → ℕ → List ℕ
seats_of s zero = []
seats_of s (suc q) = seats_of s q ++ (before_of s q ∷ after_of s q ∷ [])

-- all written pairs
abbrev pub written_on : List ℕ → List ℕ
written_on s = seats_of s (pairs_of s)

-- all pairs of a card: the written ones, then those by rule, by the interior's position
abbrev pub pairs_on : List ℕ → List ℕ
pairs_on s = written_on s ++ rules_of s (contours_of s)

-- the room for them: two positions a pair, and no contour goes before two by rule
abbrev pub seats_within : Limits → ℕ
seats_within l = 2 * (l.pairs + l.contours)

abbrev pub seat_limit : ℕ
seat_limit = seats_within today

-- these pairs, and where the work stopped; positions without a pair are zero
abbrev pub named_as_within : Limits → Found → List ℕ → Named
named_as_within l stop known =
    record { stopped = stop; positions = padded (seats_within l) 0 known; count = length known }

abbrev pub named_as : Found → List ℕ → Named
named_as stop known = named_as_within today stop known

-- the place found, or the count if none was
abbrev pub up_to : ℕ → Found → ℕ
up_to count (Some q) = q
up_to count None = count

-- the written pairs: the work stops at the first that names an unknown id
unfoldable pub named_pairs : List ℕ → Named
unfolding seats_of name_fault
named_pairs s = named_as (name_fault s) (seats_of s (up_to (pairs_of s) (name_fault s)))

-- every written pair of a card with no more contours and pairs than one takes, each id known
pub record AllNamed (s : List ℕ) (named : Named) : Type 0 where
  pub few_contours : contours_of s ≤ contour_limit
  pub few_pairs : pairs_of s ≤ pair_limit
  pub are : named ≡ named_as None (written_on s)

-- all pairs, those by rule only where no written one is at fault
abbrev pub known_before : List ℕ → Found → List ℕ
known_before s (Some q) = seats_of s q
known_before s None = pairs_on s

-- where there are more contours or pairs than a card takes, the work stops before the first
unfoldable pub named_within : Limits → List ℕ → Named
unfolding seats_of rules_of name_fault
named_within l s =
    let stop = cond (ltb l.contours (contours_of s) || ltb l.pairs (pairs_of s)) (Some 0) (name_fault s) in
    named_as_within l stop (known_before s stop)

abbrev pub named_of : List ℕ → Named
named_of s = named_within today s
