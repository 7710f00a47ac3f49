-- Demand 2: on an accepted card the candidates, the table, the tour, the number of trials and the length are those of
-- the search as it is defined; a move limit cuts that search after so many trials and changes nothing else; the length
-- told is evaluated from the tour handed out; and square roots are IEEE 754's. tour_of is what `tour::tour` promises.
-- It shuts out a constant tour and the order of the file (Told.tour, with Starts and Order); a start never improved
-- and a search that idles after its first pass (Passes: the trials of every further pass are in the list; Cut: all of
-- the list is made); a candidate that is found and lost again (Trials.other_left, Keeping, AlwaysEven); an invented
-- number of moves (Told.moves, Cut); another length told than that of the tour (Told.rapid). That `tour` promises
-- tour_of and nothing else is said in contracts/specs/Doors; what the candidates of one contour are, in
-- candidates/specs/Generate, two cases of it in Starred; when they are moved to the grid, which, and how, in OnTheGrid.
-- Assumes nothing.
use Rattle.std.specs.Prelude.{◌≡◌, Bool, true, false, ◌⊎◌, ◌↔◌, List, [], ◌∷◌, map, ◌++◌, reverse, ℕ, suc, ◌+◌, ◌*◌, ◌-◌, ◌≤◌, ◌<◌, min, T, Float, length, get_or, set, take, drop, Ok}
use Rattle.std.specs.Float.{nan, binary64}
use Rattle.std.specs.Float.Ieee.{of_bits, lt, le, add, sub, mul}
use Rattle.answer.specs.declared.Point.{Point}
use Rattle.root.specs.Root.{sqrt_of}
use Rattle.root.specs.Ieee as ieee
use Rattle.points.specs.Numbers.{zero64, huge}
use Rattle.points.specs.Distance.{distance_of}
use Rattle.candidates.specs.declared.Candidate.{Candidate}
use Rattle.candidates.specs.Direction.{direction_of}
use Rattle.candidates.specs.Generate.{candidates_of}
use Rattle.candidates.specs.Moved as candidates
use Rattle.grid.specs.Words as grid
use Rattle.keep.specs.Legal.{EachOnce}
use Rattle.block.specs.Field.{byte_at}
use Rattle.fields.specs.Layout.{payload, version_of, contours_of, passes_of, move_limit_of, grid_offset, id_of}
use Rattle.card.specs.Names.{pairs_on}
use Rattle.card_laws.specs.Card.{card_of, contour_of}
use Rattle.card_laws.specs.Table.{Precedes}
use Rattle.card_laws.specs.Orders.{LegalOrder}
use Rattle.card_laws.specs.Joined.{Joined}
use Rattle.table.specs.Evaluate.{home_at, distance_at}
use Rattle.table.specs.Distances.{absent, pierced, leaving, listed, chained}
use Rattle.table.specs.Each.{each}
use Rattle.start.specs.Nearest.{Ground, Way, reach_of, is_open, step, set_out}
use Rattle.improve.specs.Search.{State, contours, length_in, legal, shorter, stopped, tried, swap, reversed, flip, fresh}
use Rattle.improve.specs.Search.{begun, searched}
use Rattle.improve.specs.Trials.{Trial, other, stretch, all_made, others, turn_trials, turns_trials, row_trials, pass_trials}
use Rattle.improve.specs.Trials.{passes_trials, trials_of, Proper, Level}
use Rattle.improve.specs.Kept.{accepted_of}
use Rattle.solve.specs.declared.Outcome.{Outcome}
use Rattle.solve.specs.Solve.{ground_in}
use Rattle.instance.specs.Search.{home_on, candidates_on, count_on, owners_on, firsts_on, homes_on, table_on, chart_on}
use Rattle.tour.specs.Search.{start_on}
use Rattle.tour.specs.Tour.{tour_of}

-- ---- candidates and table

-- the candidates of contour k: those of its vertices, c of them, on the grid if the card asks for it, cut in the
-- direction that the card asks for
abbrev pub own_on : List ℕ → ℕ → List Candidate
own_on s k =
    let contour = contour_of s k in
    let card = card_of s in
    candidates_of card.grid (direction_of contour.kind card.exterior card.interior) contour.vertices
    card.per_contour_lem

-- the candidates are numbered contour after contour, each contour's in their order
pub record Numbered (s : List ℕ) : Type 0 where
  pub first : get_or (firsts_on s) 0 0 ≡ 0
  pub next : (k : ℕ) → k < contours_of s → get_or (firsts_on s) (suc k) 0 ≡ get_or (firsts_on s) k 0 + length (own_on s k)
  pub all : count_on s ≡ get_or (firsts_on s) (contours_of s) 0
  pub own : (k j : ℕ) → k < contours_of s → j < length (own_on s k)
      → get_or (candidates_on s) (get_or (firsts_on s) k 0 + j) absent ≡ get_or (own_on s k) j absent
  pub owner : (k j : ℕ) → k < contours_of s → j < length (own_on s k)
      → get_or (owners_on s) (get_or (firsts_on s) k 0 + j) 0 ≡ k
  -- a cut ends where it began
  pub closed : (k j : ℕ) → k < contours_of s → j < length (own_on s k)
      → leaving (get_or (own_on s k) j absent) ≡ pierced (get_or (own_on s k) j absent)

-- the grid: the card asks for it by a 1 at byte 34 of a version 2 head and not otherwise; which candidates are moved
-- where it does, and what a move is: no other function is so
pub record OnTheGrid (s : List ℕ) : Type 0 where
  pub asks : ((card_of s).grid ≡ true) ↔ ((version_of s ≡ 2) × (byte_at s (payload 0 + grid_offset) ≡ 1))
  pub which : candidates.Claim
  pub how : grid.Claim

-- each candidate has a contour, each contour a first candidate, and so has what comes after the last; a distance from
-- home for each candidate, and one from each to each, row by row: that from a to b is entry a * t + b
pub record Sized (s : List ℕ) : Type 0 where
  pub owners : length (owners_on s) ≡ count_on s
  pub firsts : length (firsts_on s) ≡ contours_of s + 1
  pub homes : length (homes_on s) ≡ count_on s
  pub table : length (table_on s) ≡ count_on s * count_on s
  pub row_by_row : (a b : ℕ) → distance_at (table_on s) (count_on s) a b ≡ get_or (table_on s) (a * count_on s + b) nan

-- a distance: the differences, their squares, the sum and the root of it, each rounded once; and that root is the one
-- that IEEE 754 asks for, and no other
pub record Rooted : Type 0 where
  pub distance : (a b : Point)
      → let dx = sub binary64 b.x a.x in
      let dy = sub binary64 b.y a.y in
      distance_of a b ≡ sqrt_of (add binary64 (mul binary64 dx dx) (mul binary64 dy dy))
  pub root : ieee.Claim

-- from home to candidate a's point
abbrev pub FromHome : List ℕ → ℕ → Type 0
FromHome s a = home_at (homes_on s) a ≡ distance_of (home_on s) (pierced (get_or (candidates_on s) a absent))

-- from candidate a's end point to candidate b's point; the largest float where both are of one contour
pub record Apart (s : List ℕ) (a b : ℕ) : Type 0 where
  pub same : get_or (owners_on s) a 0 ≡ get_or (owners_on s) b 0 → distance_at (table_on s) (count_on s) a b ≡ huge
  pub other : (get_or (owners_on s) a 0 ≡ get_or (owners_on s) b 0 → ⊥)
      → distance_at (table_on s) (count_on s) a b
      ≡ distance_of (leaving (get_or (candidates_on s) a absent)) (pierced (get_or (candidates_on s) b absent))

-- ---- pairs

-- what the search reads of the pairs is one list, two positions a pair, before and after: for each written pair those
-- of the contours that have its ids on the card (Has s id k: k is a contour, and that is its id), then those by rule.
-- No two contours have one id, so contours and positions with equal ids are the same
pub record Paired (s : List ℕ) : Type 0 where
  pub read : (chart_on s).pairs ≡ pairs_on s
  pub all : (rules : ℕ) × Joined s rules
  pub equal_ids : (j k : ℕ) → j < contours_of s → k < contours_of s → id_of s j ≡ id_of s k → j ≡ k

-- ---- the start

-- what the start reads: the distances, each contour's first candidate, and the pairs
abbrev pub ground_on : List ℕ → Ground
ground_on s = ground_in (chart_on s)

-- how far the start has come after p steps: its tour, and the contours visited
abbrev pub way_on : List ℕ → ℕ → Way
way_on s p = each (step (ground_on s) (contours_of s)) p 0 set_out

-- how far candidate a is from there: from home at first, then from the last candidate
abbrev pub reach_on : List ℕ → Way → ℕ → Float
reach_on s w a = reach_of (ground_on s) w a

-- contour k is visited
pub record Visited (w : Way) (k : ℕ) : Type 0 where
  pub step : ℕ
  pub made : step < length w.visited
  pub is_there : get_or w.visited step 0 ≡ k

-- contour k is not visited, and whatever goes before it, by a written pair or by rule, is
pub record Free (s : List ℕ) (w : Way) (k : ℕ) : Type 0 where
  pub not_yet : Visited w k → ⊥
  pub cleared : (i : ℕ) → Precedes s i k → Visited w i

-- what a step looks at: how far each candidate is, from home at first and then from the last one; and which contours
-- are open
pub record Looks (s : List ℕ) (w : Way) : Type 0 where
  pub from_home : (a : ℕ) → w.tour ≡ [] → reach_on s w a ≡ home_at (homes_on s) a
  pub from_last : (front : List ℕ) (b a : ℕ) → w.tour ≡ front ++ (b ∷ [])
      → reach_on s w a ≡ distance_at (table_on s) (count_on s) b a
  pub open_so : (k : ℕ) → (is_open (ground_on s) w k ≡ true) ↔ Free s w k

-- candidate b is one of an open contour: one not visited whose predecessors all are
pub record Ready (s : List ℕ) (w : Way) (b : ℕ) : Type 0 where
  pub contour : ℕ
  pub is_contour : contour < contours_of s
  pub is_open_lem : is_open (ground_on s) w contour ≡ true
  pub from : get_or (firsts_on s) contour 0 ≤ b
  pub to : b < get_or (firsts_on s) (suc contour) 0

-- a step takes candidate a: of those that are ready none is nearer, and none before it, by contour and then by
-- candidate, is as near; it comes to the end of the tour, and its contour is visited
pub record Takes (s : List ℕ) (w after : Way) (a : ℕ) : Type 0 where
  pub ready : Ready s w a
  pub least : (b : ℕ) → Ready s w b → T (le (reach_on s w a) (reach_on s w b))
  pub first : (b : ℕ) → Ready s w b → b < a → lt (reach_on s w a) (reach_on s w b) ≡ true
  pub put : after.tour ≡ w.tour ++ (a ∷ [])
  pub marked : after.visited ≡ w.visited ++ (ready.contour ∷ [])

-- from nothing on, a step for each contour
pub record Starts (s : List ℕ) : Type 0 where
  pub sets_out : way_on s 0 ≡ record { tour = []; visited = [] }
  pub looks : (w : Way) → Looks s w
  pub steps : (p : ℕ) → p < contours_of s → (a : ℕ) × Takes s (way_on s p) (way_on s (suc p)) a
  pub whole : start_on s ≡ (way_on s (contours_of s)).tour

-- ---- trials

-- the length of a tour of the card
abbrev pub long_on : List ℕ → List ℕ → Float
long_on s tour = length_in (chart_on s) tour

-- that length: +0 for no stop, from home to the first, then leg after leg added, each sum rounded once
pub record Measured (s : List ℕ) : Type 0 where
  pub nowhere : long_on s [] ≡ zero64
  pub from_home : (a : ℕ) → long_on s (a ∷ []) ≡ home_at (homes_on s) a
  pub one-leg : (front : List ℕ) (a b : ℕ)
      → long_on s (front ++ (a ∷ b ∷ []))
      ≡ add binary64 (long_on s (front ++ (a ∷ []))) (distance_at (table_on s) (count_on s) a b)

-- what is asked of a trial: in floats, new < current - 1e-10; and, of a tour that meets each contour once, that it
-- meets of each pair, written or by rule, the first before the second. Reversed is the stretch from i+1 to j; what
-- stands around it stays
pub record Terms (s : List ℕ) : Type 0 where
  pub is_shorter_lem : (new current : Float)
      → shorter new current ≡ lt new (sub binary64 current (of_bits binary64 0x3ddb_7cdf_d9d7_bdbb))
  pub is_legal_lem : (tour : List ℕ) → EachOnce (contours_of s) (contours (owners_on s) tour)
      → (legal (chart_on s) tour ≡ true) ↔ LegalOrder s (contours (owners_on s) tour)
  pub is_reversed : (i j : ℕ) (front middle back : List ℕ) → length front ≡ suc i
      → length front + length middle ≡ suc j
      → reversed i j (front ++ (middle ++ back)) ≡ front ++ (reverse middle ++ back)

-- the two trials: candidate a at position p; and the stretch from i+1 to j reversed
abbrev pub other_on : List ℕ → ℕ → ℕ → State → State
other_on s p a v = swap (chart_on s) p a v

abbrev pub reversal_on : List ℕ → ℕ → ℕ → State → State
reversal_on s i j v = flip (chart_on s) i j v

-- a trial leaves this tour, this length to beat, and a pass that has accepted something or not; it counts one, and
-- leaves it to the limit to end the search
pub record Leaves (before after : State) (tour : List ℕ) (cost : Float) (better : Bool) : Type 0 where
  pub tour_is : after.tour ≡ tour
  pub cost_is : after.cost ≡ cost
  pub better_is : after.better ≡ better
  pub moves_is : after.moves ≡ suc before.moves
  pub cut_is : after.cut ≡ before.cut

-- a trial is accepted if it is shorter by more than 1e-10 and, for a reversal, legal: its tour and its length are then
-- held, and its pass has accepted something. One that is not accepted leaves tour and length as they were
pub record Trials (s : List ℕ) (v : State) : Type 0 where
  pub other_taken : (p a : ℕ) → shorter (long_on s (set v.tour p a)) v.cost ≡ true
      → Leaves v (other_on s p a v) (set v.tour p a) (long_on s (set v.tour p a)) true
  pub other_left : (p a : ℕ) → shorter (long_on s (set v.tour p a)) v.cost ≡ false
      → Leaves v (other_on s p a v) v.tour v.cost v.better
  pub reversal-taken : (i j : ℕ) → shorter (long_on s (reversed i j v.tour)) v.cost ≡ true
      → legal (chart_on s) (reversed i j v.tour) ≡ true
      → Leaves v (reversal_on s i j v) (reversed i j v.tour) (long_on s (reversed i j v.tour)) true
  pub reversal-longer : (i j : ℕ) → shorter (long_on s (reversed i j v.tour)) v.cost ≡ false
      → Leaves v (reversal_on s i j v) v.tour v.cost v.better
  pub reversal_illegal : (i j : ℕ) → legal (chart_on s) (reversed i j v.tour) ≡ false
      → Leaves v (reversal_on s i j v) v.tour v.cost v.better

-- the state in which a search begins, with the start and its length; and the one in which it ends, with a limit of M;
-- 0 is none
abbrev pub begun_on : List ℕ → State
begun_on s = begun (chart_on s) (start_on s)

abbrev pub search_on : List ℕ → ℕ → State
search_on s M = searched (chart_on s) (passes_of s) M (start_on s)

-- a search begins as if a pass had accepted something, so that the first pass is made; each pass begins having accepted
-- nothing; and a search that the limit ends is ended and else as it was
pub record Between (s : List ℕ) : Type 0 where
  pub begins : begun_on s
      ≡ record { tour = start_on s; cost = long_on s (start_on s); better = true; moves = 0; cut = false }
  pub pass_begins : (v : State)
      → fresh v ≡ record { tour = v.tour; cost = v.cost; better = false; moves = v.moves; cut = v.cut }
  pub limit_ends : (v : State)
      → stopped v ≡ record { tour = v.tour; cost = v.cost; better = v.better; moves = v.moves; cut = true }

-- ---- the order of the trials: a list of `other p a` and `stretch i j`

-- trials made one after the other
abbrev pub made_on : List ℕ → List Trial → State → State
made_on s trials v = all_made (chart_on s) trials v

-- the trials from here on: in a turn, of the candidates from a to before `to`; in the turn of position p; in the turns
-- from position p on
abbrev pub others_on : ℕ → ℕ → ℕ → ℕ → List Trial
others_on p held a to = map (other p) (others held (to - a) a)

abbrev pub turn_on : List ℕ → ℕ → State → List Trial
turn_on s p v = turn_trials (chart_on s) p v

abbrev pub turns_on : List ℕ → ℕ → State → List Trial
turns_on s p v = turns_trials (chart_on s) (contours_of s - p) p v

-- of the stretches after position i, from the one that ends at j on; of those after position i and later ones
abbrev pub stretches_on : List ℕ → ℕ → ℕ → List Trial
stretches_on s i j = listed (stretch i) (contours_of s - j) j

abbrev pub rows_on : List ℕ → ℕ → List Trial
rows_on s i = chained (row_trials (contours_of s)) (contours_of s - 1 - i) i

-- in a pass, in at most k passes, and in the whole search
abbrev pub pass_on : List ℕ → State → List Trial
pass_on s v = pass_trials (chart_on s) (contours_of s) v

abbrev pub passes_on : List ℕ → ℕ → State → List Trial
passes_on s k v = passes_trials (chart_on s) (contours_of s) k v

abbrev pub all_on : List ℕ → List Trial
all_on s = trials_of (chart_on s) (passes_of s) (start_on s)

-- each trial of a list is made as it is above
pub record Making (s : List ℕ) (v : State) : Type 0 where
  pub none : made_on s [] v ≡ v
  pub an_other : (p a : ℕ) (more : List Trial) → made_on s (other p a ∷ more) v ≡ made_on s more (other_on s p a v)
  pub a_stretch : (i j : ℕ) (more : List Trial)
      → made_on s (stretch i j ∷ more) v ≡ made_on s more (reversal_on s i j v)

-- a turn tries the candidates of the contour that its position holds, one after the other, but for the one that it
-- holds when the turn begins; every position has its turn, in order, which begins where the one before has led
pub record Turns (s : List ℕ) : Type 0 where
  pub turn : (p : ℕ) (v : State)
      → let held = get_or v.tour p 0 in
      let k = get_or (owners_on s) held 0 in
      turn_on s p v ≡ others_on p held (get_or (firsts_on s) k 0) (get_or (firsts_on s) (suc k) 0)
  pub candidate : (p held a to : ℕ) → a < to → (a ≡ held → ⊥)
      → others_on p held a to ≡ other p a ∷ others_on p held (suc a) to
  pub but_held : (p a to : ℕ) → a < to → others_on p a a to ≡ others_on p a (suc a) to
  pub no_candidate_lem : (p held a to : ℕ) → to ≤ a → others_on p held a to ≡ []
  pub next-turn : (p : ℕ) (v : State) → p < contours_of s
      → turns_on s p v ≡ turn_on s p v ++ turns_on s (suc p) (made_on s (turn_on s p v) v)
  pub no_turn : (p : ℕ) (v : State) → contours_of s ≤ p → turns_on s p v ≡ []

-- for each i from 0 to n-2, in order, the stretch from i+1 to j is reversed for each j from i+2 to n-1, in order
pub record Rows (s : List ℕ) : Type 0 where
  pub reversal : (i j : ℕ) → j < contours_of s → stretches_on s i j ≡ stretch i j ∷ stretches_on s i (suc j)
  pub no_reversal : (i j : ℕ) → contours_of s ≤ j → stretches_on s i j ≡ []
  pub next_row : (i : ℕ) → suc i < contours_of s → rows_on s i ≡ stretches_on s i (i + 2) ++ rows_on s (suc i)
  pub no_row : (i : ℕ) → contours_of s ≤ suc i → rows_on s i ≡ []

-- a pass has every turn and then every reversal. Passes follow each other while the last accepted something and one is
-- left, each where the one before has led; with three contours or more that is the search, and with fewer nothing is
pub record Passes (s : List ℕ) : Type 0 where
  pub pass : (v : State) → pass_on s v ≡ turns_on s 0 v ++ rows_on s 0
  pub another : (k : ℕ) (v : State) → v.better ≡ true
      → passes_on s (suc k) v ≡ pass_on s (fresh v) ++ passes_on s k (made_on s (pass_on s (fresh v)) (fresh v))
  pub no_other : (k : ℕ) (v : State) → (k ≡ 0) ⊎ (v.better ≡ false) → passes_on s k v ≡ []
  pub search : 3 ≤ contours_of s → all_on s ≡ passes_on s (passes_of s) (begun_on s)
  pub few : contours_of s < 3 → all_on s ≡ []

pub record Order (s : List ℕ) : Type 0 where
  pub making : (v : State) → Making s v
  pub turns : Turns s
  pub rows : Rows s
  pub passes : Passes s

-- ---- what a turn keeps, and the length to beat

-- of candidates tried at position p one after the other, those that are accepted
abbrev pub accepted_on : List ℕ → ℕ → List ℕ → State → List ℕ
accepted_on s p tries v = accepted_of (chart_on s) p tries v

-- from a turn's beginning on, its candidates leave at its position the last one accepted, or with none the one held
-- when it began, and the rest of the tour as it was: that is what the next one gives back, if it is rejected
pub record Keeping (s : List ℕ) (p : ℕ) (v : State) : Type 0 where
  pub none : accepted_on s p [] v ≡ []
  pub accepted : (a : ℕ) (more : List ℕ) → shorter (long_on s (set v.tour p a)) v.cost ≡ true
      → accepted_on s p (a ∷ more) v ≡ a ∷ accepted_on s p more (other_on s p a v)
  pub rejected : (a : ℕ) (more : List ℕ) → shorter (long_on s (set v.tour p a)) v.cost ≡ false
      → accepted_on s p (a ∷ more) v ≡ accepted_on s p more (other_on s p a v)
  pub last_accepted : (tries front : List ℕ) (a : ℕ) → accepted_on s p tries v ≡ front ++ (a ∷ [])
      → (made_on s (map (other p) tries) v).tour ≡ set v.tour p a
  pub none_accepted : (tries : List ℕ) → accepted_on s p tries v ≡ []
      → (made_on s (map (other p) tries) v).tour ≡ v.tour

-- at all times the length to beat is the length of the tour held: after the first k trials, and where the search ends,
-- with a limit of M; 0 is none
pub record AlwaysEven (s : List ℕ) : Type 0 where
  pub after_trials : (k : ℕ)
      → let v = made_on s (take k (all_on s)) (begun_on s) in
      v.cost ≡ long_on s v.tour
  pub in_the_end : (M : ℕ) → (search_on s M).cost ≡ long_on s (search_on s M).tour

-- ---- the search makes them, and the limit

-- how the search counts, trial by trial: one begins if the search has not ended and the limit allows one more; where it
-- does not, the search ends. What that comes to is said in Cut
pub record Begins (M : ℕ) (trial : State → State) (v : State) : Type 0 where
  pub made : v.cut ≡ false → (M ≡ 0) ⊎ (v.moves < M) → tried M trial v ≡ trial v
  pub ended : v.cut ≡ false → 0 < M → M ≤ v.moves → tried M trial v ≡ stopped v
  pub over : v.cut ≡ true → tried M trial v ≡ v

-- without a limit the search makes exactly those trials, from the start on, and is not ended; with a limit of M exactly
-- the first M of them (Level: the same tour, length to beat and number of trials). A limit that leaves none out changes
-- nothing; another ends the search after exactly so many. Where no pass is allowed or there are fewer than three
-- contours, it stays at the start and makes no trial. Each trial is proper: of a position of the tour, with another
-- candidate of the contour held there when its turn began; or of two contours or more
pub record Cut (s : List ℕ) : Type 0 where
  pub begins : (M : ℕ) (trial : State → State) (v : State) → Begins M trial v
  pub made : Level (search_on s 0) (made_on s (all_on s) (begun_on s))
  pub counted : (search_on s 0).moves ≡ length (all_on s)
  pub unlimited : (search_on s 0).cut ≡ false
  pub first_made : (M : ℕ) → 0 < M → Level (search_on s M) (made_on s (take M (all_on s)) (begun_on s))
  pub first_counted : (M : ℕ) → 0 < M → (search_on s M).moves ≡ min M (length (all_on s))
  pub enough : (M : ℕ) → (search_on s 0).moves ≤ M → search_on s M ≡ search_on s 0
  pub cut : (M : ℕ) → 0 < M → M < (search_on s 0).moves → ((search_on s M).moves ≡ M) × ((search_on s M).cut ≡ true)
  pub idle : (M : ℕ) → (passes_of s ≡ 0) ⊎ (contours_of s < 3)
      → ((search_on s M).tour ≡ start_on s) × ((search_on s M).moves ≡ 0)
  pub proper : Proper (chart_on s) (contours_of s) (begun_on s) (all_on s)

-- ---- the answer

-- what is told, and what stands in the rooms: the tour and the table at their fronts, their rests as they were; the
-- tour cuts each contour once, and of each pair, written or by rule, the first before the second
pub record Told (s room : List ℕ) (table : List Float) (told : Outcome) : Type 0 where
  pub tour : (tour_of s room table).room ≡ (search_on s (move_limit_of s)).tour ++ drop (contours_of s) room
  pub legal_so : LegalOrder s (contours (owners_on s) (search_on s (move_limit_of s)).tour)
  pub distances : (tour_of s room table).table ≡ table_on s ++ drop (count_on s * count_on s) table
  pub moves : told.moves ≡ (search_on s (move_limit_of s)).moves
  pub rapid : told.length ≡ long_on s (take (contours_of s) (tour_of s room table).room)

pub record Follows (s room : List ℕ) (table : List Float) (told : Outcome) : Type 0 where
  pub numbered : Numbered s
  pub on_the_grid : OnTheGrid s
  pub sized : Sized s
  pub rooted : Rooted
  pub from_home : (a : ℕ) → a < count_on s → FromHome s a
  pub apart : (a b : ℕ) → a < count_on s → b < count_on s → Apart s a b
  pub pairs : Paired s
  pub starts : Starts s
  pub measured : Measured s
  pub terms : Terms s
  pub trials : (v : State) → Trials s v
  pub between : Between s
  pub order : Order s
  pub keeping : (p : ℕ) (v : State) → Keeping s p v
  pub even : AlwaysEven s
  pub limit : Cut s
  pub told_so : Told s room table told

-- of any bytes with any rooms, if the answer is a tour
abbrev pub Claim : Type 0
Claim = (s room : List ℕ) (table : List Float) (told : Outcome) → (tour_of s room table).answer ≡ Ok told
    → Follows s room table told
