-- The trials of a search as a list, in order. It knows no limit: a search makes these, or the first of them. Assumes
-- nothing.
use Rattle.std.specs.Prelude.{true, false, cond, List, [], ◌∷◌, map, ◌++◌, ◌≡◌, ℕ, zero, suc, ◌+◌, ◌-◌, ◌≤◌, ◌<◌, min, eqb, length, get_or, take}
use Rattle.table.specs.Distances.{listed, chained}
use Rattle.improve.specs.Search.{Chart, State, owner_of, swap, flip, fresh, begun, worthwhile, searched}

-- a trial: candidate a at position p; or the stretch from i+1 to j the other way round
pub data Trial : Type 0 where
  other : (p a : ℕ) → Trial
  stretch : (i j : ℕ) → Trial

-- what a trial makes of a search
abbrev pub made : Chart → Trial → State → State
made chart (other p a) s = swap chart p a s
made chart (stretch i j) s = flip chart i j s

-- trials made one after the other
unfoldable pub all_made : Chart → List Trial → State → State
all_made chart [] s = s
all_made chart (trial ∷ more) s = all_made chart more (made chart trial s)

-- ---- which trials, and in which order

-- the k numbers from a on, but for the one held
unfoldable pub others : ℕ → ℕ → ℕ → List ℕ
others held zero a = []
others held (suc k) a = let more = others held k (suc a) in cond (eqb a held) more (a ∷ more)

-- the turn of position p: the other candidates of the contour that it holds
unfoldable pub turn_trials : Chart → ℕ → State → List Trial
turn_trials chart p s =
    let held = get_or s.tour p 0 in
    let k = owner_of chart.owner held in
    let from = get_or chart.first k 0 in
    map (other p) (others held (get_or chart.first (suc k) 0 - from) from)

-- the turns of k positions from p on: each begins where the one before it has led
unfoldable pub turns_trials : Chart → ℕ → ℕ → State → List Trial
turns_trials chart zero p s = []
turns_trials chart (suc k) p s =
    let now = turn_trials chart p s in
    now ++ turns_trials chart k (suc p) (all_made chart now s)

-- the reversals after position i in a tour of n: every j from i+2 on
unfoldable pub row_trials : ℕ → ℕ → List Trial
row_trials n i = listed (stretch i) (n - (i + 2)) (i + 2)

-- a pass: each position's turn, then the reversals after each position but the last
unfoldable pub pass_trials : Chart → ℕ → State → List Trial
pass_trials chart n s = turns_trials chart n 0 s ++ chained (row_trials n) (n - 1) 0

-- pass after pass, while the last accepted something, at most k of them: each begins where the one before it has led,
-- having accepted nothing itself
unfoldable pub passes_trials : Chart → ℕ → ℕ → State → List Trial
passes_trials chart n zero s = []
passes_trials chart n (suc k) s =
    let now = pass_trials chart n (fresh s) in
    let more = passes_trials chart n k (all_made chart now (fresh s)) in
    cond s.better (now ++ more) []

-- the trials of at most so many passes from a tour on
unfoldable pub trials_of : Chart → ℕ → List ℕ → List Trial
trials_of chart most tour =
    let all = passes_trials chart (length tour) most (begun chart tour) in
    cond (worthwhile most (length tour)) all []

-- ---- proper trials

-- candidate a is one of the contour of the candidate held
pub record Offers (chart : Chart) (held a : ℕ) : Type 0 where
  pub from : get_or chart.first (owner_of chart.owner held) 0 ≤ a
  pub to : a < get_or chart.first (suc (owner_of chart.owner held)) 0

-- and it is not the one held
pub record Another (chart : Chart) (held a : ℕ) : Type 0 where
  pub offers : Offers chart held a
  pub differs : a ≡ held → ⊥

-- trials on a tour of n from s on, each in its place: a turn is whole, is of a position of the tour and tries, against
-- what that position held when it began, other candidates of that contour alone; a reversal is of two contours or more
pub data Proper (chart : Chart) (n : ℕ) : State → List Trial → Type 0 where
  no_more : {s : State} → Proper chart n s []
  one-turn : {s : State} {more : List Trial} (p held : ℕ) (tries : List ℕ) → p < n → held ≡ get_or s.tour p 0
      → turn_trials chart p s ≡ map (other p) tries
      → ((i : ℕ) → i < length tries → Another chart held (get_or tries i 0))
      → Proper chart n (all_made chart (map (other p) tries) s) more
      → Proper chart n s (map (other p) tries ++ more)
  one-reversal : {s : State} {more : List Trial} (i j : ℕ) → i + 2 ≤ j → j < n
      → Proper chart n (flip chart i j s) more → Proper chart n s (stretch i j ∷ more)

-- ---- what a search makes

-- the same tour, length and count, whatever the two flags say
pub record Level (s v : State) : Type 0 where
  pub tour : s.tour ≡ v.tour
  pub cost : s.cost ≡ v.cost
  pub moves : s.moves ≡ v.moves

-- without a limit a search makes all its trials, with a limit of M the first M of them, and it counts them. Where that
-- leaves some, the limit has ended the search; where it does not, the limit has changed nothing
pub record Makes (chart : Chart) (most : ℕ) (tour : List ℕ) (trials : List Trial) : Type 0 where
  pub all : Level (searched chart most 0 tour) (all_made chart trials (begun chart tour))
  pub all_counted : (searched chart most 0 tour).moves ≡ length trials
  pub never_ended : (searched chart most 0 tour).cut ≡ false
  pub first : (M : ℕ) → 0 < M → Level (searched chart most M tour) (all_made chart (take M trials) (begun chart tour))
  pub first_counted : (M : ℕ) → 0 < M → (searched chart most M tour).moves ≡ min M (length trials)
  pub ended : (M : ℕ) → 0 < M → M < length trials → (searched chart most M tour).cut ≡ true
  pub enough : (M : ℕ) → length trials ≤ M → searched chart most M tour ≡ searched chart most 0 tour
  pub proper : Proper chart (length tour) (begun chart tour) trials

abbrev pub Claim : Type 0
Claim = (chart : Chart) (most : ℕ) (tour : List ℕ) → Makes chart most tour (trials_of chart most tour)
