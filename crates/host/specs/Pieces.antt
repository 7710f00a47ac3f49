-- A card in pieces, as hosts feed it: from number 0 on, and however it is cut, they are told at the end what `jl_tour`
-- tells of the whole. Assumes nothing.
use Rattle.std.specs.Prelude.{◌≡◌, ℕ, ◌+◌, ◌*◌, ◌/◌, ◌%◌, ◌^◌, ◌<◌, ◌≤◌, min, List, ◌++◌, length, take}
use Rattle.answer.specs.Room.{placed}
use Rattle.fields.specs.Limits.{card_bytes}
use Rattle.feed.specs.declared.Feed.{Feed}
use Rattle.feed.specs.Feed.{begun, ended, add_of}
use Rattle.feed_laws.specs.Whole.{Intact, Run}
use Rattle.host.specs.Hosts.{hosted, host_tour}
use Rattle.host.specs.Feeds.{number_of, state_of, host_fed, host_feed, host_asked, host_ask}

-- numbers and states are one for one, and a new card's is 0
pub record Numbered : Type 0 where
  pub state : (f : Feed) → state_of (number_of f) ≡ f
  pub number : (n : ℕ) → number_of (state_of n) ≡ n
  pub new : number_of begun ≡ 0

-- in any state: no bytes before the end are no fault, whatever the room; the refusals, which change nothing; and every
-- other asking is the end
pub record Refuses (n : ℕ) (held piece room : List ℕ) (moves bits : ℕ) : Type 0 where
  pub none : n % 2 ≡ 0 → length piece ≡ 0 → host_feed n held piece ≡ host_fed 0 n held
  pub late : n % 2 ≡ 1 → host_feed n held piece ≡ host_fed (17 * 2 ^ 32) n held
  pub small : n % 2 ≡ 0 → 0 < length piece → length held < card_bytes
      → host_feed n held piece ≡ host_fed (13 * 2 ^ 32 + card_bytes) n held
  pub ask_small : length held < card_bytes
      → host_ask n held room moves bits ≡ host_asked n (hosted (13 * 2 ^ 32 + card_bytes) room moves bits)
  pub ask-ends : card_bytes ≤ length held → (host_ask n held room moves bits).state ≡ number_of (ended (state_of n))

-- a run: after each piece 0, and the number says how many bytes are held; at the end what the whole gets, and an odd
-- number; asked again with the same rooms and numbers, the same, and with others what they get of the whole
pub record Pieces (s : List ℕ) (f : Feed) (was : List ℕ) : Type 0 where
  pub count : number_of f / 4 ≡ min (length s) card_bytes
  pub piece : (held piece : List ℕ) → Intact f was held
      → host_feed (number_of f) held piece
      ≡ host_fed 0 (number_of (add_of f held piece).feed) (placed (take card_bytes (s ++ piece)) held)
  pub end : (held room : List ℕ) (moves bits : ℕ) → Intact f was held
      → host_ask (number_of f) held room moves bits ≡ host_asked (number_of (ended f)) (host_tour s room moves bits)
  pub again : (held room : List ℕ) (moves bits : ℕ) → Intact f was held
      → let a = host_ask (number_of f) held room moves bits in
      host_ask a.state held a.told.room a.told.moves a.told.bits ≡ a
  pub later : (held room : List ℕ) (moves bits : ℕ) → Intact f was held
      → host_ask (number_of (ended f)) held room moves bits ≡ host_asked (number_of (ended f)) (host_tour s room moves bits)
  pub closed : number_of (ended f) % 2 ≡ 1

abbrev pub Claim : Type 0
Claim =
    Numbered
    × ((n : ℕ) (held piece room : List ℕ) (moves bits : ℕ) → Refuses n held piece room moves bits)
    × ((s : List ℕ) (f : Feed) (was : List ℕ) → Run s f was → Pieces s f was)
