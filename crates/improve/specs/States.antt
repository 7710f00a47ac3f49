-- All five fields of a search where it begins, after a trial, where a pass begins, and where the limit ends it. Assumes
-- nothing.
use Rattle.std.specs.Prelude.{true, false, List, ◌≡◌, ℕ, suc, Float}
use Rattle.improve.specs.Search.{Chart, State, length_in, judged, stopped, fresh, begun}

-- what an accepted trial leaves: its tour and its length, a pass that accepted something, and one trial more
abbrev pub taken : List ℕ → Float → State → State
taken tour length s = record { tour = tour; cost = length; better = true; moves = suc s.moves; cut = s.cut }

-- what any other leaves: everything as it was, and one trial more
abbrev pub declined : State → State
declined s = record { tour = s.tour; cost = s.cost; better = s.better; moves = suc s.moves; cut = s.cut }

pub record States : Type 0 where
  pub accepted : (new : List ℕ) (length : Float) (s : State) → judged true new length s ≡ taken new length s
  pub rejected : (new : List ℕ) (length : Float) (s : State) → judged false new length s ≡ declined s
  pub begins : (chart : Chart) (tour : List ℕ)
      → begun chart tour
      ≡ record { tour = tour; cost = length_in chart tour; better = true; moves = 0; cut = false }
  pub anew : (s : State)
      → fresh s ≡ record { tour = s.tour; cost = s.cost; better = false; moves = s.moves; cut = s.cut }
  pub ends : (s : State)
      → stopped s ≡ record { tour = s.tour; cost = s.cost; better = s.better; moves = s.moves; cut = true }

abbrev pub Claim : Type 0
Claim = States
