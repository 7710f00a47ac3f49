-- How the code's values make up the definition's. Assumes nothing.
use Rattle.std.specs.Prelude.{Bool, cond, ◌||◌, Option, Some, None, is_some, List, ◌≡◌, ℕ, ◌+◌, Float}
use Rattle.std.specs.Option.{unwrap_or}
use Rattle.improve.specs.Search.{Chart, State}
use Rattle.improve.specs.declared.Chart.{Chart as Held}
use Rattle.improve.specs.declared.Progress.{Progress}

-- what is read
abbrev pub chart_of : List Float → List Float → ℕ → List ℕ → List ℕ → List ℕ → Chart
chart_of home table t owner first pairs =
    record { home = home; table = table; t = t; owner = owner; first = first; pairs = pairs }

-- the same as the code holds it
abbrev pub charted : Held → Chart
charted c =
    chart_of c.distances.home.now c.distances.table.now c.distances.count c.owner.now c.first.now c.pairs.now

-- a tour, the progress beside it, and whether the limit has ended the search
abbrev pub state_of : List ℕ → Progress → Bool → State
state_of tour s cut = record { tour = tour; cost = s.cost; better = s.better; moves = s.moves; cut = cut }

-- the progress after a trial, which was accepted with a length or was not
abbrev pub counted : Option Float → Progress → Progress
counted r s = record { cost = unwrap_or r s.cost; better = s.better || is_some r; moves = s.moves + 1 }

-- how a trial ends: the length of the new tour where that is accepted, and the tour that is held after it
pub record Judged (accepted : Bool) (new : List ℕ) (length : Float) (back : List ℕ) (r : Option Float)
    (tour : List ℕ) : Type 0 where
  pub answers : r ≡ cond accepted (Some length) None
  pub holds : tour ≡ cond accepted new back

-- a search that came to the state s has made so many trials, and holds this tour
pub record Reached (moves : ℕ) (tour : List ℕ) (s : State) : Type 0 where
  pub counted : moves ≡ s.moves
  pub held : tour ≡ s.tour
