-- However a card is cut, the end answers as for the whole: what the calls of Feed come to, one after another. Assumes
-- nothing.
use Rattle.std.specs.Prelude.{◌≡◌, true, false, List, [], ◌∷◌, ◌++◌, ℕ, ◌+◌, ◌≤◌, ◌<◌, min, Float, length, take, Ok}
use Rattle.answer.specs.Room.{placed}
use Rattle.fields.specs.Limits.{card_bytes}
use Rattle.tour.specs.Tour.{tour_of}
use Rattle.feed.specs.declared.Feed.{Feed}
use Rattle.feed.specs.Feed.{begun, taken_of, Stored, unchanged, add_of, ended, unasked, ask_of}

-- ---- the refusals, in words

-- of a piece: after the end 17 at 0, of no bytes too; then, if it has bytes, 13 under the longest card; no others
pub record OfPieces (f : Feed) (held piece : List ℕ) : Type 0 where
  pub late : f.ended ≡ true → add_of f held piece ≡ unchanged f (record { number = 17; place = 0 }) held
  pub small : f.ended ≡ false → 0 < length piece → length held < card_bytes
      → add_of f held piece ≡ unchanged f (record { number = 13; place = card_bytes }) held
  pub none : f.ended ≡ false → length piece ≡ 0 → add_of f held piece
      ≡ record { feed = f; answer = Ok f.kept; held = held }
  pub taken : f.ended ≡ false → card_bytes ≤ length held
      → (add_of f held piece).answer ≡ Ok (f.kept + taken_of f.kept (length piece))

-- of an asking: 13 under the longest card, which is not the end; every other one is the end, whatever it answers
pub record OfAsking (f : Feed) (held room : List ℕ) (table : List Float) : Type 0 where
  pub small : length held < card_bytes
      → ask_of f held room table ≡ unasked f (record { number = 13; place = card_bytes }) room table
  pub end : card_bytes ≤ length held → (ask_of f held room table).feed ≡ ended f

-- the end is for good: no call, whatever it is lent, leads out of it
pub record Closed (f : Feed) : Type 0 where
  pub pieces : (held piece : List ℕ) → (add_of (ended f) held piece).feed ≡ ended f
  pub askings : (held room : List ℕ) (table : List Float) → (ask_of (ended f) held room table).feed ≡ ended f

-- ---- a run

-- a byte room is large enough, and has the bytes kept as they were left
pub record Intact (f : Feed) (was held : List ℕ) : Type 0 where
  pub enough : card_bytes ≤ length held
  pub same : take f.kept held ≡ take f.kept was

-- the calls up to the end: all bytes that were fed, the state, and the byte room as a call left it. The host may have
-- written behind the bytes kept, or lend another room with them
pub data Run : List ℕ → Feed → List ℕ → Type 0 where
  begins : (held : List ℕ) → Run [] begun held
  -- a piece; no bytes, too
  adds : {s : List ℕ} {f : Feed} {was : List ℕ} → Run s f was → (held piece : List ℕ) → Intact f was held
      → Run (s ++ piece) (add_of f held piece).feed (add_of f held piece).held
  -- no bytes need no room
  idles : {s : List ℕ} {f : Feed} {was : List ℕ} → Run s f was → (held : List ℕ) → Run s (add_of f held []).feed was
  -- calls that are refused for the byte room
  no_room : {s : List ℕ} {f : Feed} {was : List ℕ} → Run s f was → (held piece : List ℕ) → 0 < length piece
      → length held < card_bytes → Run s (add_of f held piece).feed was
  not_yet : {s : List ℕ} {f : Feed} {was : List ℕ} → Run s f was → (held room : List ℕ) (table : List Float)
      → length held < card_bytes → Run s (ask_of f held room table).feed was

-- ---- what it comes to

-- before the end: how many bytes are held; they stand at the front of the byte room, whose rest is untouched
abbrev pub Holds : List ℕ → Stored → List ℕ → Type 0
Holds s a held = (a.answer ≡ Ok (min (length s) card_bytes)) × (a.held ≡ placed (take card_bytes s) held)

pub record Whole (s : List ℕ) (f : Feed) (was : List ℕ) : Type 0 where
  pub kept : f.kept ≡ min (length s) card_bytes
  -- another room will do that begins with the bytes kept, whatever stands behind them
  pub elsewhere : (rest : List ℕ) → card_bytes ≤ length (take f.kept was ++ rest)
      → Intact f was (take f.kept was ++ rest)
  pub piece : (held piece : List ℕ) → Intact f was held → Holds (s ++ piece) (add_of f held piece) held
  -- the end: answer, tour and table are those of all bytes that were fed
  pub end : (held room : List ℕ) (table : List Float) → Intact f was held
      → ask_of f held room table ≡ record { feed = ended f; left = tour_of s room table }
  -- asked again with the same rooms: the same
  pub again : (held room : List ℕ) (table : List Float) → Intact f was held
      → let a = ask_of f held room table in ask_of a.feed held a.left.room a.left.table ≡ a
  -- and in any other rooms, after the end, what these rooms get of the whole
  pub later : (held room : List ℕ) (table : List Float) → Intact f was held
      → ask_of (ended f) held room table ≡ record { feed = ended f; left = tour_of s room table }

-- ---- any cutting, in one room

-- the pieces of a card, one after another
unfoldable pub joined : List (List ℕ) → List ℕ
joined [] = []
joined (piece ∷ more) = piece ++ joined more

-- the state and the byte room behind them all
pub record Poured : Type 0 where
  pub feed : Feed
  pub held : List ℕ

unfoldable pub poured : List (List ℕ) → Feed → List ℕ → Poured
poured [] f held = record { feed = f; held = held }
poured (piece ∷ more) f held = poured more (add_of f held piece).feed (add_of f held piece).held

-- every cutting is a run, leaves the bytes kept at the front of the room and its rest as it was, and ends as the whole
pub record AnyCut (pieces : List (List ℕ)) (held : List ℕ) : Type 0 where
  pub runs : Run (joined pieces) (poured pieces begun held).feed (poured pieces begun held).held
  pub holds : (poured pieces begun held).held ≡ placed (take card_bytes (joined pieces)) held
  pub end : (room : List ℕ) (table : List Float)
      → (ask_of (poured pieces begun held).feed (poured pieces begun held).held room table).left
      ≡ tour_of (joined pieces) room table

abbrev pub Claim : Type 0
Claim =
    ((f : Feed) (held piece : List ℕ) → OfPieces f held piece)
    × ((f : Feed) (held room : List ℕ) (table : List Float) → OfAsking f held room table)
    × ((f : Feed) → Closed f)
    × ((s : List ℕ) (f : Feed) (was : List ℕ) → Run s f was → Whole s f was)
    × ((pieces : List (List ℕ)) (held : List ℕ) → card_bytes ≤ length held → AnyCut pieces held)
