-- What a host is told of bridges, eight numbers each, at the front of a room for the most there are. Assumes nothing.
use Rattle.std.specs.Prelude.{◌≡◌, ℕ, ◌+◌, ◌*◌, ◌<◌, ◌↔◌, List, [], ◌∷◌, ◌++◌, length, take, pos, slice_index_or, Float, Err, Ok}
use Rattle.std.proofs.lemmas.List.Edits.{sets}
use Rattle.std.specs.Float.{nan, binary64}
use Rattle.std.specs.Float.Ieee.{of_int}
use Rattle.answer.specs.declared.Refusal.{Refusal}
use Rattle.answer.specs.Answer.{Answer}
use Rattle.answer.specs.Code.{code_of}
use Rattle.answer.specs.Room.{placed}
use Rattle.points.specs.Points.{points}
use Rattle.bridge.specs.declared.Bridge.{Bridge}
use Rattle.bridge.specs.Question.{Bridges}
use Rattle.bridge.specs.Limits.{bridge_limit}
use Rattle.bridge.specs.Lookup.{marks}
use Rattle.bridge.specs.Create.{bridge_at, bridges_at}
use Rattle.bridge.specs.Question.{half_of, bridge_check, bridges_of}

-- the numbers of the most bridges
abbrev pub bridge_numbers : ℕ
bridge_numbers = 8 * bridge_limit

-- a bridge as numbers: x and y of its start, its end and its middle, then the edge, and the place on it
abbrev pub eight_of : Bridge → List Float
eight_of b =
    b.start.x ∷ b.start.y ∷ b.end.x ∷ b.end.y ∷ b.middle.x ∷ b.middle.y ∷ of_int binary64 (pos b.edge)
    ∷ b.t ∷ []

-- the numbers of all, one bridge after another
unfoldable pub numbers_of : List Bridge → List Float
numbers_of [] = []
numbers_of (b ∷ more) = eight_of b ++ numbers_of more

-- what a call for bridges leaves behind: its answer and the room
pub record Spanned : Type 0 where
  pub answer : ℕ
  pub room : List Float

abbrev pub spanned : ℕ → List Float → Spanned
spanned answer room = record { answer = answer; room = room }

-- the bridges as a host is told them: 0 and, from the room's first entry on, their numbers; or the refusal, which keeps
-- the room
abbrev pub bridges_told : Answer Bridges → List Float → Spanned
bridges_told (Ok a) room = spanned 0 (sets room 0 (numbers_of (take a.count a.items)))
bridges_told (Err r) room = spanned (code_of (Err r)) room

unfoldable pub host_bridges : List Float → Float → List Float → List Float → Spanned
host_bridges numbers width centres room = bridges_told (bridges_of numbers width centres) room

-- ---- what that comes to

-- in a room for the most bridges: 0 exactly where nothing is wrong, with a bridge for each centre at the front and the
-- rest as it was; a refusal keeps all of it
pub record Told (numbers : List Float) (width : Float) (centres room : List Float) : Type 0 where
  pub good : ((host_bridges numbers width centres room).answer ≡ 0) ↔ (bridge_check numbers width centres ≡ Ok tt)
  pub fine : bridge_check numbers width centres ≡ Ok tt
      → host_bridges numbers width centres room
      ≡ spanned 0 (placed (numbers_of (bridges_at (points numbers) (marks (points numbers)) (half_of width) centres)) room)
  pub refused : (r : Refusal) → bridge_check numbers width centres ≡ Err r
      → host_bridges numbers width centres room ≡ spanned (code_of (Err r)) room
  -- number j of bridge i
  pub each : bridge_check numbers width centres ≡ Ok tt → (i j : ℕ) → i < length centres → j < 8
      → slice_index_or (host_bridges numbers width centres room).room (8 * i + j) nan
      ≡ slice_index_or (eight_of (bridge_at (points numbers) (marks (points numbers)) (half_of width) (slice_index_or centres i nan))) j nan

abbrev pub Claim : Type 0
Claim =
    (numbers : List Float) (width : Float) (centres room : List Float) → length room ≡ bridge_numbers
    → Told numbers width centres room
