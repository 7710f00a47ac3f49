-- Constrained 2-opt with a counted limit: what each trial does, and in which order they come. Assumes nothing.
use Rattle.std.specs.Prelude.{Bool, true, false, not, cond, ◌&&◌, ◌||◌, List, map, ◌++◌, ℕ, zero, suc, ◌+◌, ◌-◌, ltb, leb, eqb, Float, length, get_or, set, take, drop, reverse}
use Rattle.std.specs.Float.{binary64}
use Rattle.std.specs.Float.Ieee.{of_bits, sub, lt}
use Rattle.closure.specs.Limits.{contour_limit}
use Rattle.keep.specs.Keep.{keeps_pairs}
use Rattle.table.specs.Evaluate.{length_of}
use Rattle.table.specs.Each.{each}

-- what a search reads: the distances from home and between the t candidates, the contour that each candidate belongs
-- to, the number of each contour's first candidate with the number of all at the end, and which contours come before
-- which
pub record Chart : Type 0 where
  pub home : List Float
  pub table : List Float
  pub t : ℕ
  pub owner : List ℕ
  pub first : List ℕ
  pub pairs : List ℕ

-- where a search stands: the tour held, the length last accepted, whether this pass accepted a trial, the trials so
-- far, and whether the limit has ended the search
pub record State : Type 0 where
  pub tour : List ℕ
  pub cost : Float
  pub better : Bool
  pub moves : ℕ
  pub cut : Bool

-- ---- what is asked of a trial

-- how long a tour is
abbrev pub length_in : Chart → List ℕ → Float
length_in chart tour = length_of chart.home chart.table chart.t tour

-- the contour that a candidate belongs to
abbrev pub owner_of : List ℕ → ℕ → ℕ
owner_of owner a = get_or owner a 0

-- the contours in the order in which a tour meets them
unfoldable pub contours : List ℕ → List ℕ → List ℕ
contours owner tour = map (owner_of owner) tour

-- no pair is turned round
abbrev pub legal : Chart → List ℕ → Bool
legal chart tour = keeps_pairs (contours chart.owner tour) chart.pairs

-- 1e-10
abbrev pub margin : Float
margin = of_bits binary64 0x3ddb_7cdf_d9d7_bdbb

-- shorter by more than the margin, in floats: the difference is rounded before it is compared
unfoldable pub shorter : Float → Float → Bool
shorter new current = lt new (sub binary64 current margin)

-- ---- one trial

-- what a trial leaves behind: the new tour and its length where it is accepted, else the tour and the length held
-- before it; it counts either way
unfoldable pub judged : Bool → List ℕ → Float → State → State
judged accepted new length s = record {
  tour = cond accepted new s.tour;
  cost = cond accepted length s.cost;
  better = s.better || accepted;
  moves = suc s.moves;
  cut = s.cut;
}

-- with a limit above 0, no trial begins once so many were made
unfoldable pub at_limit : ℕ → ℕ → Bool
at_limit limit moves = ltb 0 limit && leb limit moves

-- the search ends here
abbrev pub stopped : State → State
stopped s = record { tour = s.tour; cost = s.cost; better = s.better; moves = s.moves; cut = true }

-- a trial, if it may begin: a search that has ended stays as it is, and one that has reached its limit ends
unfoldable pub tried : ℕ → (State → State) → State → State
tried limit trial s = let after = trial s in cond s.cut s (cond (at_limit limit s.moves) (stopped s) after)

-- ---- another candidate of the same contour

-- candidate a at position p; Kept says what one that is rejected gives back
unfoldable pub swap : Chart → ℕ → ℕ → State → State
swap chart p a s =
    let new = set s.tour p a in
    let length = length_in chart new in
    judged (shorter length s.cost) new length s

-- a contour's candidates are tried one by one, but for the one held when the turn began
unfoldable pub alternative : Chart → ℕ → ℕ → ℕ → ℕ → State → State
alternative chart limit p held a s = let after = tried limit (swap chart p a) s in cond (eqb a held) s after

-- the turn of position p: the other candidates of the contour that it holds
unfoldable pub turn : Chart → ℕ → ℕ → State → State
turn chart limit p s =
    let held = get_or s.tour p 0 in
    let k = owner_of chart.owner held in
    let from = get_or chart.first k 0 in
    each (alternative chart limit p held) (get_or chart.first (suc k) 0 - from) from s

-- ---- a stretch of the tour the other way round

-- the part of a list from f up to, not including, t
unfoldable pub slice : ℕ → ℕ → List ℕ → List ℕ
slice f t l = drop f (take t l)

-- a list with its stretch from f up to, not including, t reversed
unfoldable pub turned : ℕ → ℕ → List ℕ → List ℕ
turned f t l = take f l ++ (reverse (slice f t l) ++ drop t l)

-- a tour with its stretch from i+1 to j reversed
abbrev pub reversed : ℕ → ℕ → List ℕ → List ℕ
reversed i j tour = turned (suc i) (suc j) tour

-- the stretch from i+1 to j, if that is legal
unfoldable pub flip : Chart → ℕ → ℕ → State → State
flip chart i j s =
    let new = reversed i j s.tour in
    let length = length_in chart new in
    judged (shorter length s.cost && legal chart new) new length s

-- that as a trial
unfoldable pub reversal : Chart → ℕ → ℕ → ℕ → State → State
reversal chart limit i j s = tried limit (flip chart i j) s

-- every j from i+2 on, in a tour of n
unfoldable pub row : Chart → ℕ → ℕ → ℕ → State → State
row chart limit n i s = each (reversal chart limit i) (n - (i + 2)) (i + 2) s

-- ---- passes

-- a pass begins: it has accepted nothing
abbrev pub fresh : State → State
fresh s = record { tour = s.tour; cost = s.cost; better = false; moves = s.moves; cut = s.cut }

-- a pass over a tour of n: each position's turn, then the reversals
unfoldable pub pass : Chart → ℕ → ℕ → State → State
pass chart limit n s = each (row chart limit n) (n - 1) 0 (each (turn chart limit) n 0 (fresh s))

-- pass after pass, while the last accepted something and the search goes on, at most k of them
unfoldable pub repeated : Chart → ℕ → ℕ → ℕ → State → State
repeated chart limit n zero s = s
repeated chart limit n (suc k) s =
    let after = repeated chart limit n k (pass chart limit n s) in cond (s.better && not s.cut) after s

-- ---- the whole search

-- a search begins with the tour handed in and its length
abbrev pub begun : Chart → List ℕ → State
begun chart tour = record { tour = tour; cost = length_in chart tour; better = true; moves = 0; cut = false }

-- there is something to improve: a pass is allowed, and the tour has three contours or more (and no more than there is
-- room for)
abbrev pub worthwhile_within : ℕ → ℕ → ℕ → Bool
worthwhile_within contours most n = ltb 0 most && (leb 3 n && leb n contours)

-- at most so many passes and so many trials from a tour on
unfoldable pub searched_within : ℕ → Chart → ℕ → ℕ → List ℕ → State
searched_within contours chart most limit tour =
    let after = repeated chart limit (length tour) most (begun chart tour) in
    cond (worthwhile_within contours most (length tour)) after (begun chart tour)

-- with room for the contours of any card
abbrev pub worthwhile : ℕ → ℕ → Bool
worthwhile most n = worthwhile_within contour_limit most n

abbrev pub searched : Chart → ℕ → ℕ → List ℕ → State
searched chart most limit tour = searched_within contour_limit chart most limit tour
