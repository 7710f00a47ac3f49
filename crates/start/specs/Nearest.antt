-- The nearest-neighbour start: step by step the nearest candidate of a contour that is ready. Assumes nothing.
use Rattle.std.specs.Prelude.{Bool, true, false, not, cond, ◌&&◌, ◌||◌, List, [], ◌∷◌, ◌++◌, ℕ, suc, ◌-◌, eqb, leb, Float, length, get_or}
use Rattle.std.specs.Float.Ieee.{lt}
use Rattle.closure.specs.Limits.{contour_limit}
use Rattle.closure.specs.Pairs.{Pair, paired, every}
use Rattle.points.specs.Numbers.{huge}
use Rattle.table.specs.Each.{each}
use Rattle.table.specs.Evaluate.{home_at, distance_at}

-- what a start reads: the distances from home and between the t candidates, the number of each contour's first
-- candidate with the number of all at the end, and which contours come before which
pub record Ground : Type 0 where
  pub home : List Float
  pub table : List Float
  pub t : ℕ
  pub first : List ℕ
  pub pairs : List ℕ

-- how far a start has come: its tour, and the contours visited, in the same order
pub record Way : Type 0 where
  pub tour : List ℕ
  pub visited : List ℕ

-- the last candidate of a tour
unfoldable pub last_of : List ℕ → ℕ
last_of [] = 0
last_of (a ∷ []) = a
last_of (a ∷ (b ∷ more)) = last_of (b ∷ more)

-- a number is in a list
unfoldable pub is_in : ℕ → List ℕ → Bool
is_in k [] = false
is_in k (x ∷ more) = eqb x k || is_in k more

-- the nearest candidate so far, the contour that it belongs to, and how far it is; found says whether there is one
pub record Choice : Type 0 where
  pub distance : Float
  pub contour : ℕ
  pub candidate : ℕ
  pub found : Bool

-- ---- one step

-- how far a candidate is from where the tour has come to: from home while it is empty, else from its last candidate
unfoldable pub reach_of : Ground → Way → ℕ → Float
reach_of g w a = cond (eqb (length w.tour) 0) (home_at g.home a) (distance_at g.table g.t (last_of w.tour) a)

-- nothing is chosen yet, and only what is nearer than the largest number will be
abbrev pub nothing_yet : Choice
nothing_yet = record { distance = huge; contour = 0; candidate = 0; found = false }

-- candidate a of contour k at distance d, if it is strictly nearer than the choice so far
unfoldable pub closer : Float → ℕ → ℕ → Choice → Choice
closer d k a best =
    cond (lt d best.distance) (record { distance = d; contour = k; candidate = a; found = true }) best

-- candidate a of contour k, so far away as it is
unfoldable pub offer : Ground → Way → ℕ → ℕ → Choice → Choice
offer g w k a best = closer (reach_of g w a) k a best

-- the candidates of contour k, one after the other
unfoldable pub offered : Ground → Way → ℕ → Choice → Choice
offered g w k best =
    let from = get_or g.first k 0 in
    each (offer g w k) (get_or g.first (suc k) 0 - from) from best

-- where a pair puts another contour before k, that one is visited
abbrev pub clears : Way → ℕ → Pair → Bool
clears w k p = not (eqb p.after k) || is_in p.before w.visited

-- a contour that is not visited, while all that must come before it are
unfoldable pub is_open : Ground → Way → ℕ → Bool
is_open g w k = not (is_in k w.visited) && every (clears w k) (paired g.pairs)

-- contour k is considered where it is open
unfoldable pub considered : Ground → Way → ℕ → Choice → Choice
considered g w k best = let after = offered g w k best in cond (is_open g w k) after best

-- the choice among the first n contours, in their order
unfoldable pub chosen : Ground → Way → ℕ → Choice
chosen g w n = each (considered g w) n 0 nothing_yet

-- ---- step after step

-- the choice is visited, if there was one
unfoldable pub visit : Choice → Way → Way
visit choice w =
    let tour = w.tour ++ (choice.candidate ∷ []) in
    let visited = w.visited ++ (choice.contour ∷ []) in
    cond choice.found (record { tour = tour; visited = visited }) w

-- one step over n contours; which one it is makes no difference
unfoldable pub step : Ground → ℕ → ℕ → Way → Way
step g n i w = visit (chosen g w n) w

-- nothing is visited
abbrev pub set_out : Way
set_out = record { tour = []; visited = [] }

-- n steps over n contours
unfoldable pub walked : Ground → ℕ → Way
walked g n = each (step g n) n 0 set_out

-- the start: a tour of n contours, or of those that can be reached; none where there are more contours than `most`
unfoldable pub nearest_within : ℕ → Ground → ℕ → List ℕ
nearest_within most g n = let w = walked g n in cond (leb n most) w.tour []

-- no more than a card has
abbrev pub nearest : Ground → ℕ → List ℕ
nearest g n = nearest_within contour_limit g n
