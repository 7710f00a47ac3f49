-- How the code's values make up the definition's. Assumes nothing.
use Rattle.std.specs.Prelude.{true, not, Option, Some, None, List, [], ◌∷◌, ◌≡◌, ℕ, eqb, Float, length, get_or}
use Rattle.answer.specs.Room.{placed}
use Rattle.table.specs.declared.Distances.{Distances}
use Rattle.start.specs.Nearest.{Ground, Way, Choice, nothing_yet, last_of, is_in}
use Rattle.start.specs.declared.Offer.{Offer}

-- what is read
abbrev pub ground_of : List Float → List Float → ℕ → List ℕ → List ℕ → Ground
ground_of home table t first pairs = record { home = home; table = table; t = t; first = first; pairs = pairs }

-- the same as the code holds it
abbrev pub ground_on : Distances → List ℕ → List ℕ → Ground
ground_on d first pairs = ground_of d.home.now d.table.now d.count first pairs

-- the last candidate of a tour, if it has one
unfoldable pub stood : List ℕ → Option ℕ
stood [] = None
stood (a ∷ more) = Some (last_of (a ∷ more))

-- the code's values tell the distances of a ground, and where a way has come to
pub record Tells (d : Distances) (last : Option ℕ) (g : Ground) (w : Way) : Type 0 where
  pub home_is : d.home.now ≡ g.home
  pub table_is : d.table.now ≡ g.table
  pub count_is : d.count ≡ g.t
  pub last_is : last ≡ stood w.tour

-- the best offer as the definition has it
abbrev pub choice_of : Option Offer → Choice
choice_of (Some o) = record { distance = o.distance; contour = o.contour; candidate = o.candidate; found = true }
choice_of None = nothing_yet

-- a flag for each number that a contour can have
abbrev pub flag_count : ℕ
flag_count = 256

-- a flag is 0 where its contour is not among those visited
pub record Flags (flags visited : List ℕ) : Type 0 where
  pub says : (k : ℕ) → eqb (get_or flags k 0) 0 ≡ not (is_in k visited)

-- a tour written to the front of a room: so many entries, and the room's rest as it was
pub record Written (tour room : List ℕ) (count : ℕ) (after : List ℕ) : Type 0 where
  pub counted : count ≡ length tour
  pub held : after ≡ placed tour room
