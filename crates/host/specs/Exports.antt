-- What a C or Rust host is told. Its one number is 0 exactly for a good card and else holds the refusal's number and
-- place, those of the card's own refusals and of 13 as they are; and its tour is what the tour's question answers with
-- a table as large as the library's own: so each demand holds of the exports as well. Assumes nothing.
use Rattle.std.specs.Prelude.{◌≡◌, ℕ, ◌-◌, ◌/◌, ◌%◌, ◌^◌, ◌<◌, ◌≤◌, min, ◌↔◌, List, length, to_bits, Float, Err, Ok}
use Rattle.std.specs.Float.{binary64}
use Rattle.answer.specs.declared.Refusal.{Refusal}
use Rattle.answer.specs.Answer.{Answer}
use Rattle.solve.specs.declared.Outcome.{Outcome}
use Rattle.answer.specs.Code.{code_of}
use Rattle.card.specs.Verdict.{check_of}
use Rattle.table.specs.Distances.{entry_limit}
use Rattle.instance.specs.Search.{count_on}
use Rattle.questions.specs.Index.{located_of}
use Rattle.tour.specs.Tour.{tour_of}
use Rattle.host.specs.Hosts.{Hosted, hosted, host_tour, host_place}

-- an answer as a host is told it: 0 with the trials and the length's bits, or the refusal's number with both left as
-- they were
abbrev pub as_told : Answer Outcome → List ℕ → ℕ → ℕ → Hosted
as_told (Ok o) room moves bits = hosted 0 room o.moves (to_bits binary64 o.length)
as_told (Err r) room moves bits = hosted (code_of (Err r)) room moves bits

-- the number that stands for a check: of any refusal the number, and the place, one of more than 32 bits as the largest
-- of 32
pub record Coded : Type 0 where
  pub good : (s : List ℕ) → (code_of (check_of s) ≡ 0) ↔ (check_of s ≡ Ok tt)
  pub number : (r : Refusal) → code_of (Err r) / 2 ^ 32 ≡ r.number
  pub place : (r : Refusal) → code_of (Err r) % 2 ^ 32 ≡ min r.place (2 ^ 32 - 1)

-- the tour that a host gets
abbrev pub TourTold : List ℕ → Type 0
TourTold s =
    (room : List ℕ) (table : List Float) (moves bits : ℕ) → entry_limit ≤ length table
    → host_tour s room moves bits ≡ as_told (tour_of s room table).answer (tour_of s room table).room moves bits

-- ---- what is read back

-- a refusal's number and its place, both as they are, are read from the one number
pub record Decodes (code : ℕ) (r : Refusal) : Type 0 where
  pub number : code / 2 ^ 32 ≡ r.number
  pub place : code % 2 ^ 32 ≡ r.place

-- so they are where a card s goes back for a fault of its own, and where 13 is answered
pub record CardRead (s : List ℕ) : Type 0 where
  pub jl_check_lem : (r : Refusal) → check_of s ≡ Err r → Decodes (code_of (check_of s)) r
  pub tour : (room : List ℕ) (table : List Float) (r : Refusal) → (tour_of s room table).answer ≡ Err r
      → Decodes (code_of (Err r)) r
  pub jl_tour_lem : (room : List ℕ) (table : List Float) (moves bits : ℕ) → entry_limit ≤ length table → (r : Refusal)
      → (tour_of s room table).answer ≡ Err r → Decodes (host_tour s room moves bits).answer r
  pub jl_place_lem : (candidate contour within : ℕ) (r : Refusal) → check_of s ≡ Err r
      → Decodes (host_place (located_of s candidate) contour within).answer r

-- a candidate's number, asked on a fine card: 0 where there is such a candidate, else 15 with the number asked for as
-- its place. That can be any number of 64 bits, so of what is asked on a card here alone a place can be cut: one of
-- more than 32 bits is told as the largest of 32
pub record NumberRead (s : List ℕ) (candidate contour within : ℕ) : Type 0 where
  pub good : candidate < count_on s → (host_place (located_of s candidate) contour within).answer ≡ 0
  pub none : count_on s ≤ candidate
      → Decodes (host_place (located_of s candidate) contour within).answer
      (record { number = 15; place = min candidate (2 ^ 32 - 1) })

abbrev pub Claim : Type 0
Claim =
    Coded × ((s : List ℕ) → TourTold s) × ((s : List ℕ) → CardRead s)
    × ((s : List ℕ) → check_of s ≡ Ok tt → (candidate contour within : ℕ) → NumberRead s candidate contour within)
