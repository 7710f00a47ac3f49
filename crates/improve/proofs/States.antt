-- What a search's flags say. Assumes nothing.
use mathlib.Core.Bool.{true, false, or-true, or-false}
use mathlib.Core.List.{List}
use mathlib.Core.Path.{◌≡◌, refl}
use Prim.Native.Nat.{ℕ}
use lib.Ieee.{Float}
use Rattle.improve.specs.Search.{Chart, State, length_in, judged, stopped, fresh, begun}
use Rattle.improve.specs.States.{taken, declined, Claim}

-- an accepted trial says that its pass accepted something
pub accepted : (new : List ℕ) (length : Float) (s : State) → judged true new length s ≡ taken new length s
unfolding judged
accepted new length s = rw (or-true s.better)

-- any other leaves that as it was
pub rejected : (new : List ℕ) (length : Float) (s : State) → judged false new length s ≡ declined s
unfolding judged
rejected new length s = rw (or-false s.better)

begins : (chart : Chart) (tour : List ℕ)
    → begun chart tour ≡ record { tour = tour; cost = length_in chart tour; better = true; moves = 0; cut = false }
begins chart tour = refl

anew : (s : State)
    → fresh s ≡ record { tour = s.tour; cost = s.cost; better = false; moves = s.moves; cut = s.cut }
anew s = refl

ends : (s : State)
    → stopped s ≡ record { tour = s.tour; cost = s.cost; better = s.better; moves = s.moves; cut = true }
ends s = refl

pub claim : Claim
claim = record { accepted = accepted; rejected = rejected; begins = begins; anew = anew; ends = ends }
