-- A reader with the limits from before request 2026-04 that knows all else of today's card: what those limits say of
-- every sound card, and that what they refuse gets no tour. Assumes nothing.
use Rattle.std.specs.Prelude.{◌≡◌, List, ℕ, ◌+◌, ◌*◌, ◌-◌, ◌/◌, ◌≤◌, ◌<◌, Float, length, Err, Ok}
use Rattle.answer.specs.declared.Refusal.{Refusal}
use Rattle.block.specs.Block.{block_bytes}
use Rattle.fields.specs.Limits.{pairs_a_block}
use Rattle.fields.specs.Layout.{contours_of, pairs_of}
use Rattle.card.specs.Limits.{Limits, today, before}
use Rattle.card.specs.Verdict.{check_within, check_of}
use Rattle.tour.specs.Tour.{left, tour_within}

-- what the request raised, in numbers; below they go by their names
pub record Raised : Type 0 where
  pub bytes : (before.bytes ≡ 23040) × (today.bytes ≡ 45568)
  pub contours : (before.contours ≡ 40) × (today.contours ≡ 80)
  pub pairs : (before.pairs ≡ 124) × (today.pairs ≡ 248)

-- the file of a card with the most contours and pairs is the longest: its head, a block each, and its pairs
abbrev pub Longest : Limits → Type 0
Longest l = l.bytes ≡ block_bytes * (1 + l.contours + (l.pairs + (pairs_a_block - 1)) / pairs_a_block)

-- that reader sends the card back with this number and place
abbrev pub Refuses : List ℕ → ℕ → ℕ → Type 0
Refuses s number place = check_within before s ≡ Err (record { number = number; place = place })

-- a card that is not larger is fine with it too
abbrev pub NotLarger : List ℕ → Type 0
NotLarger s = contours_of s ≤ before.contours → pairs_of s ≤ before.pairs → check_within before s ≡ Ok tt

-- a larger one goes back with 1 for its length, else with 4 for its contours, else with 4 for its pairs
abbrev pub Longer : List ℕ → Type 0
Longer s = before.bytes < length s → Refuses s 1 (before.bytes + 1)

abbrev pub MoreContours : List ℕ → Type 0
MoreContours s = length s ≤ before.bytes → before.contours < contours_of s → Refuses s 4 1

abbrev pub MorePairs : List ℕ → Type 0
MorePairs s = length s ≤ before.bytes → contours_of s ≤ before.contours → before.pairs < pairs_of s → Refuses s 4 2

-- what it sends back, sound today or not, gets no tour from it, and the rooms stay as they were
abbrev pub NoTour : List ℕ → Type 0
NoTour s = (r : Refusal) → check_within before s ≡ Err r → (room : List ℕ) (table : List Float)
    → tour_within before s room table ≡ left (Err r) room table

pub record Reads (s : List ℕ) : Type 0 where
  pub not_larger : NotLarger s
  pub longer : Longer s
  pub more_contours : MoreContours s
  pub more_pairs : MorePairs s

pub record Claim : Type 0 where
  pub raised : Raised
  pub longest-today : Longest today
  pub longest-before : Longest before
  pub reads : (s : List ℕ) → check_of s ≡ Ok tt → Reads s
  pub no_tour : (s : List ℕ) → NoTour s
