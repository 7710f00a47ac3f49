-- What a host is told of a card in pieces, and how it holds the state: as one number. Assumes nothing.
use Rattle.std.specs.Prelude.{ℕ, ◌+◌, ◌*◌, ◌/◌, ◌%◌, Bool, true, false, List, replicate, ◌==◌, Err, Ok}
use Rattle.answer.specs.Answer.{Count}
use Rattle.answer.specs.Code.{code_of}
use Rattle.points.specs.Numbers.{zero64}
use Rattle.table.specs.Distances.{entry_limit}
use Rattle.feed.specs.declared.Feed.{Feed}
use Rattle.feed.specs.Feed.{Stored, add_of, Reply, ask_of}
use Rattle.host.specs.Hosts.{Hosted}
use Rattle.host.specs.Exports.{as_told}

-- 1 for true
abbrev pub bit_of : Bool → ℕ
bit_of true = 1
bit_of false = 0

-- a state as one number: four times the bytes kept, 2 if there were more, 1 if it was the end
abbrev pub number_of : Feed → ℕ
number_of f = 4 * f.kept + 2 * bit_of f.over + bit_of f.ended

-- and the state that a number stands for: every number does
abbrev pub state_of : ℕ → Feed
state_of n = record { kept = n / 4; over = (n / 2 % 2 == 1); ended = (n % 2 == 1) }

-- what a piece leaves behind: the answer, the state's number and the byte room
pub record HostFed : Type 0 where
  pub answer : ℕ
  pub state : ℕ
  pub held : List ℕ

abbrev pub host_fed : ℕ → ℕ → List ℕ → HostFed
host_fed answer state held = record { answer = answer; state = state; held = held }

-- 0, or the refusal; how many bytes are held the state's number says
abbrev pub count_told : Count → ℕ
count_told (Ok k) = 0
count_told (Err r) = code_of (Err r)

-- a piece, as a host is told of it
abbrev pub fed_as : Stored → HostFed
fed_as a = host_fed (count_told a.answer) (number_of a.feed) a.held

unfoldable pub host_feed : ℕ → List ℕ → List ℕ → HostFed
host_feed n held piece = fed_as (add_of (state_of n) held piece)

-- what an asking leaves behind: the state's number, and what a call for a tour does
pub record HostAsked : Type 0 where
  pub state : ℕ
  pub told : Hosted

abbrev pub host_asked : ℕ → Hosted → HostAsked
host_asked state told = record { state = state; told = told }

-- an asking, as a host is told of it
abbrev pub asked_as : Reply → ℕ → ℕ → HostAsked
asked_as a moves bits = host_asked (number_of a.feed) (as_told a.left.answer a.left.room moves bits)

-- the table is the library's own
unfoldable pub host_ask : ℕ → List ℕ → List ℕ → ℕ → ℕ → HostAsked
host_ask n held room moves bits = asked_as (ask_of (state_of n) held room (replicate entry_limit zero64)) moves bits
