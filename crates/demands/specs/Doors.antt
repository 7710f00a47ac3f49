-- Demand 1 at every door (the tour, the questions on a card, the end of a card that was fed, the list, the exports): it
-- answers the card's own refusal with its number and its place, whatever else it is asked, and what it was lent is as
-- before, but for the list's page, which gets the refusal's line, and a feed's state, which is ended; and no door
-- answers a sound card with a number of the table's rows 1 to 12. A field is named after its function, and speaks of
-- the definition that the function promises (contracts/specs). Assumes nothing.
use Rattle.std.specs.Prelude.{◌≡◌, ◌⊎◌, List, ◌++◌, ℕ, ◌+◌, ◌*◌, ◌^◌, ◌/◌, Float, Err, Ok}
use Rattle.answer.specs.declared.Refusal.{Refusal}
use Rattle.answer.specs.Code.{code_of}
use Rattle.card.specs.Verdict.{check_of}
use Rattle.card_laws.specs.Table.{Given, Sound}
use Rattle.tour.specs.Tour.{left, tour_of}
use Rattle.feed.specs.declared.Feed.{Feed}
use Rattle.feed.specs.Feed.{ended, ask_of}
use Rattle.feed_laws.specs.Whole.{Intact, Run}
use Rattle.questions.specs.Order.{evaluated}
use Rattle.questions.specs.Index.{picked_of, located_of, global_of}
use Rattle.answer.specs.Room.{listed}
use Rattle.closure.specs.Limits.{contour_limit}
use Rattle.questions.specs.Nearest.{nearest_on, nearest_of}
use Rattle.text.specs.Text.{bytes, decimal_of}
use Rattle.list.specs.Lines.{list_of}
use Rattle.host.specs.Hosts.{hosted, host_tour, pointed, host_place}
use Rattle.host.specs.Feeds.{number_of, host_asked, host_ask}

-- a refusal as it is printed, REFUSED 9 AT 4, spelled out here, and as the one number that a host is told
abbrev pub refused_line : Refusal → List ℕ
refused_line r = bytes "REFUSED " ++ decimal_of r.number ++ (bytes " AT " ++ decimal_of r.place) ++ bytes "\n"

abbrev pub one_number : Refusal → ℕ
one_number r = r.number * 2 ^ 32 + r.place

-- where the card goes back
pub record PassedOn (s : List ℕ) (r : Refusal) : Type 0 where
  pub tour : (room : List ℕ) (table : List Float) → tour_of s room table ≡ left (Err r) room table
  pub evaluate : (order : List ℕ) → evaluated s order ≡ Err r
  pub candidate : (number : ℕ) → picked_of s number ≡ Err r
  pub global_to_local_lem : (number : ℕ) → located_of s number ≡ Err r
  pub local_to_global_lem : (contour within : ℕ) → global_of s contour within ≡ Err r
  pub solve_nn_lem : nearest_of s ≡ Err r
  pub ask : (f : Feed) (was : List ℕ) → Run s f was → (held room : List ℕ) (table : List Float) → Intact f was held
      → ask_of f held room table ≡ record { feed = ended f; left = left (Err r) room table }
  pub write_list_lem : list_of s ≡ refused_line r
  pub jl_check_lem : code_of (check_of s) ≡ one_number r
  pub jl_tour_lem : (room : List ℕ) (moves bits : ℕ) → host_tour s room moves bits ≡ hosted (one_number r) room moves bits
  pub jl_place_lem : (candidate contour within : ℕ)
      → host_place (located_of s candidate) contour within ≡ pointed (one_number r) contour within
  pub jl_ask_lem : (f : Feed) (was : List ℕ) → Run s f was → (held room : List ℕ) (moves bits : ℕ) → Intact f was held
      → host_ask (number_of f) held room moves bits
      ≡ host_asked (number_of (ended f)) (hosted (one_number r) room moves bits)

-- where it does not: the tour, the end of a feed and their exports refuse with 13 only, the questions on numbers and
-- orders with 15 only, and the others not at all
pub record OwnOnly (s : List ℕ) : Type 0 where
  pub tour : (room : List ℕ) (table : List Float) (r : Refusal) → (tour_of s room table).answer ≡ Err r
      → r.number ≡ 13
  pub evaluate : (order : List ℕ) (r : Refusal) → evaluated s order ≡ Err r → r.number ≡ 15
  pub candidate : (number : ℕ) (r : Refusal) → picked_of s number ≡ Err r → r.number ≡ 15
  pub global_to_local_lem : (number : ℕ) (r : Refusal) → located_of s number ≡ Err r → r.number ≡ 15
  pub local_to_global_lem : (contour within : ℕ) (r : Refusal) → global_of s contour within ≡ Err r
      → r.number ≡ 15
  pub solve_nn_lem : nearest_of s ≡ Ok (listed contour_limit 0 (nearest_on s))
  pub ask : (f : Feed) (was : List ℕ) → Run s f was → (held room : List ℕ) (table : List Float) → Intact f was held
      → (q : Refusal) → (ask_of f held room table).left.answer ≡ Err q → q.number ≡ 13
  pub write_list_lem : (r : Refusal) → list_of s ≡ refused_line r → ⊥
  pub jl_check_lem : code_of (check_of s) ≡ 0
  pub jl_tour_lem : (room : List ℕ) (moves bits : ℕ)
      → ((host_tour s room moves bits).answer ≡ 0) ⊎ ((host_tour s room moves bits).answer / 2 ^ 32 ≡ 13)
  pub jl_place_lem : (candidate contour within : ℕ)
      → ((host_place (located_of s candidate) contour within).answer ≡ 0)
      ⊎ ((host_place (located_of s candidate) contour within).answer / 2 ^ 32 ≡ 15)
  pub jl_ask_lem : (f : Feed) (was : List ℕ) → Run s f was → (held room : List ℕ) (moves bits : ℕ) → Intact f was held
      → let a = (host_ask (number_of f) held room moves bits).told.answer in (a ≡ 0) ⊎ (a / 2 ^ 32 ≡ 13)

pub record Doors (s : List ℕ) : Type 0 where
  pub passed_on : (r : Refusal) → Given s r.number r.place → PassedOn s r
  pub own_only : Sound s → OwnOnly s
