-- Demand 1: a card is sent back exactly when the table of refusals says so, with the number and the place that it says,
-- by whatever door it came, and then nothing that was lent has changed (but for a list's page: Doors); and a card
-- without an earlier fault is sent back with 12 exactly when there is no order in which it could be cut. s is the card,
-- any bytes whatever; room and table are lent for the tour and for the distances, of any size. check_of is what
-- `card::check` promises and tour_of what `tour::tour` does (contracts/specs); the rows of the table are in
-- card_laws/specs/Table, the orders in card_laws/specs/Orders, the other doors in Doors. It shuts out a program that
-- sends every card back: a refusal is given only where the table says so (Checked.fine, Asked.done). Assumes nothing.
use Rattle.std.specs.Prelude.{◌≡◌, ◌↔◌, List, ℕ, ◌*◌, ◌≤◌, ◌<◌, Float, length, Err, Ok}
use Rattle.answer.specs.declared.Refusal.{Refusal}
use Rattle.fields.specs.Layout.{contours_of}
use Rattle.card_laws.specs.Table.{Given, Sound, Past11}
use Rattle.card_laws.specs.Orders.{LegalOrder, RefusedWith}
use Rattle.card.specs.Verdict.{check_of}
use Rattle.instance.specs.Search.{count_on}
use Rattle.tour.specs.Search.{outcome_on}
use Rattle.tour.specs.Tour.{tour_of}
use Rattle.demands.specs.Doors.{Doors}

-- ---- 13

-- the tour's room is under n entries; else the table's is under t * t, t being the card's candidates in all. The place:
-- what is needed
pub data Row13 (s room : List ℕ) (table : List Float) : ℕ → Type 0 where
  small_room : length room < contours_of s → Row13 s room table (contours_of s)
  small_table : contours_of s ≤ length room → length table < count_on s * count_on s
      → Row13 s room table (count_on s * count_on s)

-- a number is given at a place: by the card itself, in the order of its rows, or 13 where none of them holds
pub data GivenWith (s room : List ℕ) (table : List Float) : ℕ → ℕ → Type 0 where
  by_card : {number place : ℕ} → Given s number place → GivenWith s room table number place
  thirteen : {place : ℕ} → Sound s → Row13 s room table place → GivenWith s room table 13 place

-- no number is given
pub record Nothing (s room : List ℕ) (table : List Float) : Type 0 where
  pub sound : Sound s
  pub room_enough : contours_of s ≤ length room
  pub table_enough : count_on s * count_on s ≤ length table

-- ---- the demand

-- whoever asks only whether the card is fine
pub record Checked (s : List ℕ) : Type 0 where
  pub refused : (r : Refusal) → (check_of s ≡ Err r) ↔ Given s r.number r.place
  pub fine : (check_of s ≡ Ok tt) ↔ Sound s
  pub impossible : Past11 s → RefusedWith 12 s ↔ (((order : List ℕ) × LegalOrder s order) → ⊥)

-- whoever asks for the tour
pub record Asked (s room : List ℕ) (table : List Float) : Type 0 where
  pub refused : (r : Refusal)
      → ((tour_of s room table).answer ≡ Err r) ↔ GivenWith s room table r.number r.place
  pub done : ((tour_of s room table).answer ≡ Ok (outcome_on s)) ↔ Nothing s room table
  pub room_kept : (r : Refusal) → (tour_of s room table).answer ≡ Err r → (tour_of s room table).room ≡ room
  pub table_kept : (r : Refusal) → (tour_of s room table).answer ≡ Err r → (tour_of s room table).table ≡ table

-- and at every other door, the card's own refusals are passed on and no door adds to them
abbrev pub Claim : Type 0
Claim =
    ((s : List ℕ) → Checked s) × ((s room : List ℕ) (table : List Float) → Asked s room table)
    × ((s : List ℕ) → Doors s)
