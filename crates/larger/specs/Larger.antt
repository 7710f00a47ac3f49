-- Cards that only the limits of today take, beside one that those from before take too: so what is said of larger cards
-- (filed's Before, and Demand 3 above 40 contours where all candidates are on the grid) is not said of nothing. Assumes
-- nothing.
use Rattle.std.specs.Prelude.{◌≡◌, List, [], ◌∷◌, ℕ, zero, suc, ◌+◌, ◌*◌, ◌-◌, ◌/◌, ◌<◌, replicate, Ok}
use Rattle.std.specs.Float.{binary64}
use Rattle.std.specs.Float.Ieee.{of_bits}
use Rattle.block.specs.Block.{block_bytes}
use Rattle.fields.specs.Layout.{contours_of}
use Rattle.card.specs.Limits.{today, before}
use Rattle.card.specs.Verdict.{check_within, check_of}
use Rattle.card_laws.specs.Card.{Contour}
use Rattle.card_laws.specs.Examples.{as_job41, cornered, waits, job41}
use Rattle.card_laws.specs.Write.{written}
use Rattle.tour.specs.Search.{outcome_on}
use Rattle.tour.specs.Tour.{tour_of}
use Rattle.demands.specs.Demand3.{OnGrid, close_up_to}
use Rattle.filed.specs.Before.{Refuses}

-- so many contours at the corner, their ids rising from a number
unfoldable pub crowd : ℕ → ℕ → List Contour
crowd zero id = []
crowd (suc n) id = cornered id ∷ crowd n (suc id)

-- a card of so many contours, their ids from 1 on, and no pair: a block for its head and one for each contour
abbrev pub crowded : ℕ → List ℕ
crowded n = written (as_job41 (crowd n 1) [])

-- one contour more than the limits from before allow; as many as fit into the longest file from then, and one more; as
-- many as today's limits allow
abbrev pub one_more : ℕ
one_more = before.contours + 1

abbrev pub fitting : ℕ
fitting = before.bytes / block_bytes - 1

abbrev pub most : ℕ
most = today.contours

-- one contour before another, said once more than the limits from before allow
abbrev pub repeated : List ℕ
repeated = written (as_job41 (cornered 5 ∷ cornered 6 ∷ []) (replicate (before.pairs + 1) (waits 5 6)))

-- so many contours are fine today, and sent back by a reader from before
pub record Larger (n number place : ℕ) : Type 0 where
  pub fine : check_of (crowded n) ≡ Ok tt
  pub sent_back : Refuses (crowded n) number place

-- each case of what such a reader says has a card
pub record Judged : Type 0 where
  pub one_more_lem : Larger one_more 4 1
  pub longest : Larger fitting 4 1
  pub a_block_more : Larger (fitting + 1) 1 (before.bytes + 1)
  pub as_many_as_today : Larger most 1 (before.bytes + 1)
  pub repeated_fine : check_of repeated ≡ Ok tt
  pub repeated_sent_back : Refuses repeated 4 2
  pub job41-taken : check_within before (written job41) ≡ Ok tt

-- so many contours meet what demand 3 asks for, above 40: on the grid, and answered with a tour, in rooms that just do
pub record OnGridAnswered (n : ℕ) : Type 0 where
  pub above : close_up_to < contours_of (crowded n)
  pub on-grid : OnGrid (crowded n)
  pub answered :
      (tour_of (crowded n) (replicate n 0) (replicate (n * n) (of_bits binary64 0))).answer
      ≡ Ok (outcome_on (crowded n))

abbrev pub Claim : Type 0
Claim = Judged × (OnGridAnswered one_more × OnGridAnswered most)
