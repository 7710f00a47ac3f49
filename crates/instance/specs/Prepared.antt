-- All that the doors read of a card s, as the code holds it. Assumes nothing.
use Rattle.std.specs.Prelude.{◌≡◌, List, ℕ, ◌+◌, ◌*◌, ◌≤◌, Float, length, take, replicate}
use Rattle.points.specs.Numbers.{zero64}
use Rattle.closure.specs.Limits.{contour_limit}
use Rattle.fields.specs.Limits.{candidate_limit}
use Rattle.fields.specs.Layout.{contours_of}
use Rattle.card.specs.Names.{named_of, named_within, pairs_on}
use Rattle.table.specs.Distances.{entry_limit, homed, distances_of}
use Rattle.improve.specs.Search.{Chart}
use Rattle.improve.specs.Code.{chart_of}
use Rattle.instance.specs.declared.Instance.{Instance}
use Rattle.instance.specs.declared.Prepared.{Prepared}
use Rattle.instance.specs.Room.{instance_of}
use Rattle.instance.specs.Search.{home_on, candidates_on, count_on, owners_on, firsts_on, homes_on}

-- a room for the distances from home
abbrev pub no_distances : List Float
no_distances = replicate candidate_limit zero64

-- the candidates, their distances from home, and the pairs as positions
unfoldable pub prepared_of : List ℕ → Prepared
unfolding instance_of named_within
prepared_of s = record {
  all = instance_of s;
  homes = homed (instance_of s).items (instance_of s).count (home_on s) no_distances;
  pairs = (named_of s).positions;
  seats = (named_of s).count;
}

-- a list is the front of a room, as long as n
pub record Front {A : Type 0} (n : ℕ) (room l : List A) : Type 0 where
  pub front : take n room ≡ l
  pub whole : n ≡ length (take n room)
  pub within : n ≤ length room

-- what was gathered of a card, as it is where the card is accepted: each part's front is what the search reads
pub record HeldOn (s : List ℕ) (all : Instance) : Type 0 where
  pub contours : all.contours ≡ contours_of s
  pub few_contours : all.contours ≤ contour_limit
  pub count : all.count ≡ count_on s
  pub few : all.count ≤ candidate_limit
  pub few_entries : all.count * all.count ≤ entry_limit
  pub items : Front all.count all.items (candidates_on s)
  pub owner : Front all.count all.owner (owners_on s)
  pub first : Front (all.contours + 1) all.first (firsts_on s)

-- what was prepared of it
pub record PreparedOn (s : List ℕ) (p : Prepared) : Type 0 where
  pub held : HeldOn s p.all
  pub homes : Front p.all.count p.homes (homes_on s)
  pub pairs : Front p.seats p.pairs (pairs_on s)

-- what was prepared of some such card
pub record Fit (p : Prepared) : Type 0 where
  pub card : List ℕ
  pub on : PreparedOn card p

-- the chart that the search reads of it
unfoldable pub chart_in : Prepared → Chart
chart_in p =
    let t = p.all.count in
    let owner = take t p.all.owner in
    chart_of (take t p.homes) (distances_of (take t p.all.items) owner) t owner
    (take (p.all.contours + 1) p.all.first) (take p.seats p.pairs)
