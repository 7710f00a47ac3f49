-- A card that arrives in pieces: what is kept of each, and what is said at the end. A piece is what the paper calls a
-- part; the parts of a card are what is cut. Assumes nothing.
use Rattle.std.specs.Prelude.{true, false, ◌&&◌, ◌||◌, List, [], ◌∷◌, ◌++◌, ℕ, ◌+◌, ◌-◌, min, ltb, Float, length, take, drop, Err, Ok}
use Rattle.answer.specs.declared.Refusal.{Refusal}
use Rattle.solve.specs.declared.Outcome.{Outcome}
use Rattle.answer.specs.Answer.{Answer, Check, Count}
use Rattle.answer.specs.Stage.{first_refusal}
use Rattle.answer.specs.Lowest.{refuse_if}
use Rattle.fields.specs.Limits.{card_bytes}
use Rattle.tour.specs.Tour.{Left, left, toured_unless, tour_of}
use Rattle.feed.specs.declared.Feed.{Feed}

-- before the first piece
abbrev pub begun : Feed
begun = record { kept = 0; over = false; ended = false }

-- ---- a piece

-- how many bytes are kept of a piece of this size: what the longest card still takes
abbrev pub taken_of : ℕ → ℕ → ℕ
taken_of kept size = min size (card_bytes - kept)

-- 17: the end was before; else 13: there are bytes to keep, and the byte room is under the longest card
unfoldable pub piece_check : Feed → ℕ → ℕ → Check
unfolding first_refusal
piece_check f size room =
    first_refusal (refuse_if f.ended 17 0
    ∷ refuse_if (ltb 0 size && ltb room card_bytes) 13 card_bytes ∷ [])

-- a piece of this size was taken; that there were more bytes than are kept is never forgotten
abbrev pub fed : Feed → ℕ → Feed
fed f size =
    let n = taken_of f.kept size in
    record { kept = f.kept + n; over = f.over || ltb n size; ended = false }

-- its first bytes stand behind those kept before, and the rest of the byte room is as it was
abbrev pub filled : ℕ → List ℕ → List ℕ → List ℕ
filled kept held piece =
    let n = taken_of kept (length piece) in
    take kept held ++ take n piece ++ drop (kept + n) held

-- what a piece leaves behind: the state, what was answered, and the byte room
pub record Stored : Type 0 where
  pub feed : Feed
  pub answer : Count
  pub held : List ℕ

abbrev pub stored : Feed → Count → List ℕ → Stored
stored f answer held = record { feed = f; answer = answer; held = held }

-- refused: nothing changes
abbrev pub unchanged : Feed → Refusal → List ℕ → Stored
unchanged f r held = record { feed = f; answer = Err r; held = held }

-- taken: only how many bytes are held is said
abbrev pub stored_unless : Check → Feed → List ℕ → List ℕ → Stored
stored_unless (Ok _) f held piece = record {
  feed = fed f (length piece);
  answer = Ok (fed f (length piece)).kept;
  held = filled f.kept held piece;
}
stored_unless (Err r) f held piece = unchanged f r held

-- a piece, whatever the state and the byte room
unfoldable pub add_of : Feed → List ℕ → List ℕ → Stored
unfolding piece_check
add_of f held piece = stored_unless (piece_check f (length piece) (length held)) f held piece

-- ---- the asking

-- 13: the byte room is under the longest card
unfoldable pub ask_check : ℕ → Check
ask_check room = refuse_if (ltb room card_bytes) 13 card_bytes

-- what an asking leaves behind: the state, and what a tour does; the byte room is lent to be read only
pub record Reply : Type 0 where
  pub feed : Feed
  pub left : Left

abbrev pub reply : Feed → Answer Outcome → List ℕ → List Float → Reply
reply f answer room table = record { feed = f; left = left answer room table }

-- from now on it is the end
abbrev pub ended : Feed → Feed
ended f = record { kept = f.kept; over = f.over; ended = true }

-- the tour of the bytes kept, unless there were more than the longest card has: 1, and the place of any longer card
abbrev pub end_of : Feed → List ℕ → List ℕ → List Float → Left
end_of f held room table =
    toured_unless (refuse_if f.over 1 (card_bytes + 1)) (tour_of (take f.kept held) room table) room table

-- refused for the byte room: nothing changes
abbrev pub unasked : Feed → Refusal → List ℕ → List Float → Reply
unasked f r room table = record { feed = f; left = left (Err r) room table }

-- else it is the end
abbrev pub reply_unless : Check → Feed → List ℕ → List ℕ → List Float → Reply
reply_unless (Ok _) f held room table = record { feed = ended f; left = end_of f held room table }
reply_unless (Err r) f held room table = unasked f r room table

-- the asking, whatever the state and the rooms
unfoldable pub ask_of : Feed → List ℕ → List ℕ → List Float → Reply
unfolding ask_check
ask_of f held room table = reply_unless (ask_check (length held)) f held room table
