-- Demand 3: where home and all candidates of a card lie on a grid, or the card asks for the grid and home and all
-- vertices lie on it, the tour that is handed out cuts each contour once, at one of the contour's own candidates, and
-- of each pair, written or by rule, the first before the second; the length reported is within 2^-28 mm of the exact
-- one; and the tour is at most 2^-27 mm longer than the start, exactly. Above 40 contours the two bounds are 2^-26 and
-- 2^-25 mm. tour_of is what `tour::tour` promises, so it speaks of demand 2's tour, and no fixed legal order will do.
-- Assumes nothing.
use Rattle.std.specs.Prelude.{◌≡◌, cond, List, [], ◌∷◌, map, ℕ, suc, ◌+◌, ◌*◌, ◌^◌, ◌≤◌, ◌<◌, T, leb, Float, length, get_or, take, Ok}
use Rattle.answer.specs.declared.Point.{Point}
use Rattle.table.specs.Distances.{absent, pierced}
use Rattle.exact.specs.Grid.{grid_point, squared_length}
use Rattle.exact.specs.Length.{along_route, leg_root, lower_end, upper_end, step40}
use Rattle.exact.specs.Bound.{NearEnds}
use Rattle.improve.specs.Search.{contours}
use Rattle.solve.specs.declared.Outcome.{Outcome}
use Rattle.block.specs.Field.{byte_at}
use Rattle.fields.specs.Layout.{payload, grid_offset, version_of, contours_of, home_offset, vertex_count_of, vertex_offset}
use Rattle.fields.specs.Values.{point_at}
use Rattle.card.specs.Limits.{before}
use Rattle.card_laws.specs.Orders.{LegalOrder}
use Rattle.instance.specs.Search.{home_on, candidates_on, count_on, owners_on, firsts_on}
use Rattle.tour.specs.Search.{start_on}
use Rattle.tour.specs.Tour.{tour_of}

-- where candidate a of the card is pierced; its cut ends there too, as Demand2 says in Numbered
abbrev pub stop_on : List ℕ → ℕ → Point
stop_on s a = pierced (get_or (candidates_on s) a absent)

-- home and all candidates are whole numbers of 1/1024 mm, none above 8192 mm in size
pub record OnGrid (s : List ℕ) : Type 0 where
  pub home : T (grid_point (home_on s))
  pub candidate : (a : ℕ) → a < count_on s → T (grid_point (stop_on s a))

-- the squared lengths of a tour's legs, from home on, in squares of 1/1024 mm
abbrev pub legs_on : List ℕ → List ℕ → List ℕ
legs_on s tour = along_route squared_length (home_on s) (map (stop_on s) tour)

-- the interval in which the exact length of a tour lies, in steps of 2^-40 mm: from the sum of the R to that sum plus
-- the number of legs, R being the largest whole number whose square is at most S * 2^60 for a leg of squared length S
pub record Interval : Type 0 where
  pub fits : (S : ℕ) → leg_root S * leg_root S ≤ S * 2 ^ 60
  pub largest : (S : ℕ) → S * 2 ^ 60 < (leg_root S + 1) * (leg_root S + 1)
  pub no_leg : lower_end [] ≡ 0
  pub one_more : (S : ℕ) (legs : List ℕ) → lower_end (S ∷ legs) ≡ leg_root S + lower_end legs
  pub upper : (legs : List ℕ) → upper_end legs ≡ lower_end legs + length legs

-- the most contours for which the closer bounds hold: as many as a card could have before request 2026-04
abbrev pub close_up_to : ℕ
close_up_to = before.contours

-- the bounds on a card of n contours, in steps of 2^-40 mm: for the length told, and for what the tour is longer than
-- the start
abbrev pub nearness : ℕ → ℕ
nearness n = cond (leb n close_up_to) (2 ^ 12) (2 ^ 14)

abbrev pub excess : ℕ → ℕ
excess n = cond (leb n close_up_to) (2 ^ 13) (2 ^ 15)

-- they are 2^-28 and 2^-27 mm at 40 contours and below, 2^-26 and 2^-25 mm at 41 and above
pub record Bounds : Type 0 where
  pub near_to_40 : (n : ℕ) → n ≤ 40 → nearness n ≡ 2 ^ 12
  pub near_from_41 : (n : ℕ) → 41 ≤ n → nearness n ≡ 2 ^ 14
  pub excess_to_40 : (n : ℕ) → n ≤ 40 → excess n ≡ 2 ^ 13
  pub excess_from_41 : (n : ℕ) → 41 ≤ n → excess n ≡ 2 ^ 15

-- number a is that of one of the card's candidates, and of one of contour k's; they are numbered contour after contour,
-- as Demand2 says in Numbered
pub record OneOf (s : List ℕ) (k a : ℕ) : Type 0 where
  pub is_contour : k < contours_of s
  pub is_candidate : a < count_on s
  pub from : get_or (firsts_on s) k 0 ≤ a
  pub to : a < get_or (firsts_on s) (suc k) 0

-- what is claimed of a tour and what is told of it: an entry for each contour, the number of one of the candidates of
-- the contour that is cut there; legal; its length a finite number, not below zero and near to both ends of the
-- interval that the exact length lies in; and its upper end no more than the excess above the start's lower end. All
-- lengths are whole numbers of steps of 2^-1074 mm
pub record Good (s tour : List ℕ) (told : Outcome) : Type 0 where
  pub entries : length tour ≡ contours_of s
  pub candidates : (p : ℕ) → p < contours_of s → OneOf s (get_or (contours (owners_on s) tour) p 0) (get_or tour p 0)
  pub legal : LegalOrder s (contours (owners_on s) tour)
  pub near : NearEnds (nearness (contours_of s)) told.length (legs_on s tour)
  pub not-longer : upper_end (legs_on s tour) * step40
      ≤ lower_end (legs_on s (start_on s)) * step40 + excess (contours_of s) * step40

-- of every card of a kind, with whatever rooms and whatever move limit, if the answer is a tour
abbrev pub GoodWhere : (List ℕ → Type 0) → Type 0
GoodWhere Kind =
    (s room : List ℕ) (table : List Float) (told : Outcome) → Kind s
    → (tour_of s room table).answer ≡ Ok told → Good s (take (contours_of s) (tour_of s room table).room) told

-- the card asks for the grid, by byte 34 of a version 2 head, and its home and all vertices of its contours are whole
-- numbers of 1/1024 mm, none above 8192 mm in size; nothing is said of how many candidates it asks for
pub record OutlinesOnGrid (s : List ℕ) : Type 0 where
  pub version : version_of s ≡ 2
  pub asks : byte_at s (payload 0 + grid_offset) ≡ 1
  pub home : T (grid_point (point_at s home_offset))
  pub vertex : (k j : ℕ) → k < contours_of s → j < vertex_count_of s k → T (grid_point (point_at s (vertex_offset k j)))

-- on a card of that kind every candidate is on the grid and no farther out
abbrev pub CandidatesStay : Type 0
CandidatesStay = (s : List ℕ) → OutlinesOnGrid s → OnGrid s

-- of cards with home and candidates on the grid, and of cards that ask for the grid with home and vertices on it
abbrev pub Claim : Type 0
Claim = Interval × Bounds × GoodWhere OnGrid × CandidatesStay × GoodWhere OutlinesOnGrid
