-- A card in pieces, as hosts feed it. Assumes nothing.
use Rattle.std.specs.Prelude.{Err, Ok}
use Rattle.std.proofs.Common.{◌≡◌, ℕ, ◌+◌, ◌*◌, ◌/◌, ◌%◌, ◌^◌, ◌<◌, ◌≤◌, eqb, List, ◌++◌, length, take, replicate, sym, refl, ap, ◌∙◌, le_trans, arith}
use lib.Ieee.{Float}
use lib.ListN.{length-replicate}
use Rattle.answer.specs.Room.{placed}
use Rattle.fields.specs.Limits.{card_bytes}
use Rattle.points.specs.Numbers.{zero64}
use Rattle.table.specs.Distances.{entry_limit}
use Rattle.answer.specs.Answer.{Answer}
use Rattle.solve.specs.declared.Outcome.{Outcome}
use Rattle.tour.specs.Tour.{Left, tour_of}
use Rattle.feed.specs.declared.Feed.{Feed}
use Rattle.feed.specs.Feed.{ended, add_of, Reply, ask_of}
use Rattle.feed_laws.specs.Whole.{Intact, Run, Whole}
use Rattle.feed_laws.proofs.AgainLaws.{tour_again, table_grows}
use Rattle.feed.proofs.FeedLaws.{add_late, add_none, add_small, ask_small, ask_end}
use Rattle.feed_laws.proofs.Whole.{whole}
use Rattle.host.specs.Hosts.{Hosted, hosted, host_tour}
use Rattle.host.specs.Exports.{as_told}
use Rattle.host.specs.Feeds.{number_of, state_of, host_fed, count_told, fed_as, host_feed}
use Rattle.host.specs.Feeds.{HostAsked, host_asked, asked_as, host_ask}
use Rattle.host.specs.Pieces.{Numbered, Refuses, Pieces, Claim}
use Rattle.host.proofs.Exports.{toured_so}
use Rattle.host.proofs.FeedLaws.{bit_small, state_back, number-back}

abbrev own : List Float
own = replicate entry_limit zero64

-- ---- the refusals

module _ (n : ℕ) (held piece room : List ℕ) (moves bits : ℕ) where
  none : n % 2 ≡ 0 → length piece ≡ 0 → host_feed n held piece ≡ host_fed 0 n held
  unfolding host_feed
  none e z =
      ap fed_as (add_none (state_of n) held piece (ap (λ (m : ℕ). eqb m 1) e) z)
      ∙ ap (λ (m : ℕ). host_fed 0 m held) (number-back n)

  late : n % 2 ≡ 1 → host_feed n held piece ≡ host_fed (17 * 2 ^ 32) n held
  unfolding host_feed
  late e =
      ap fed_as (add_late (state_of n) held piece (ap (λ (m : ℕ). eqb m 1) e))
      ∙ ap (λ (m : ℕ). host_fed (17 * 2 ^ 32) m held) (number-back n)

  small : n % 2 ≡ 0 → 0 < length piece → length held < card_bytes
      → host_feed n held piece ≡ host_fed (13 * 2 ^ 32 + card_bytes) n held
  unfolding host_feed
  small e h g =
      ap fed_as (add_small (state_of n) held piece (ap (λ (m : ℕ). eqb m 1) e) h g)
      ∙ ap (λ (m : ℕ). host_fed (13 * 2 ^ 32 + card_bytes) m held) (number-back n)

  ask-refused : length held < card_bytes
      → host_ask n held room moves bits ≡ host_asked n (hosted (13 * 2 ^ 32 + card_bytes) room moves bits)
  unfolding host_ask
  ask-refused h =
      ap (λ (a : Reply). asked_as a moves bits) (ask_small (state_of n) held room own h)
      ∙ ap (λ (m : ℕ). host_asked m (hosted (13 * 2 ^ 32 + card_bytes) room moves bits)) (number-back n)

  ask-ends : card_bytes ≤ length held → (host_ask n held room moves bits).state ≡ number_of (ended (state_of n))
  unfolding host_ask
  ask-ends h = ap (λ (a : Reply). number_of a.feed) (ask_end (state_of n) held room own h)

-- ---- a run

module _ {s : List ℕ} {f : Feed} {was : List ℕ} (w : Whole s f was) where
  piece_told : (held piece : List ℕ) → Intact f was held
      → host_feed (number_of f) held piece
      ≡ host_fed 0 (number_of (add_of f held piece).feed) (placed (take card_bytes (s ++ piece)) held)
  unfolding host_feed
  piece_told held piece intact =
      let h = w.piece held piece intact in
      ap (λ (g : Feed). fed_as (add_of g held piece)) (state_back f)
      ∙ (λ i. host_fed (count_told (h.0 i)) (number_of (add_of f held piece).feed) (h.1 i))

  module _ (held room : List ℕ) (moves bits : ℕ) (intact : Intact f was held) where
    -- in whatever state an asking finds these bytes
    told : (g : Feed) → ask_of g held room own ≡ record { feed = ended f; left = tour_of s room own }
        → host_ask (number_of g) held room moves bits ≡ host_asked (number_of (ended f)) (host_tour s room moves bits)
    unfolding host_ask
    told g is =
        ap (λ (h : Feed). asked_as (ask_of h held room own) moves bits) (state_back g)
        ∙ ap (λ (a : Reply). asked_as a moves bits) is
        ∙ ap (host_asked (number_of (ended f)))
        (sym (toured_so s room own moves bits (rw length-replicate (omega arith))))

-- what is told of an answer stays, told over again
told_again : (t : Answer Outcome) (room : List ℕ) (moves bits : ℕ)
    → let a = as_told t room moves bits in as_told t room a.moves a.bits ≡ a
told_again (Ok o) room moves bits = refl
told_again (Err r) room moves bits = refl

room_told : (t : Answer Outcome) (room : List ℕ) (moves bits : ℕ) → (as_told t room moves bits).room ≡ room
room_told (Ok o) room moves bits = refl
room_told (Err r) room moves bits = refl

-- the tour asked for again, in its room and with its numbers
tour-told_again : (s room : List ℕ) (moves bits : ℕ)
    → let a = host_tour s room moves bits in host_tour s a.room a.moves a.bits ≡ a
tour-told_again s room moves bits =
    let large : entry_limit ≤ length own = rw length-replicate (omega arith) in
    let l = tour_of s room own in
    let a = as_told l.answer l.room moves bits in
    let is = toured_so s room own moves bits large in
    let room_is : a.room ≡ l.room = room_told l.answer l.room moves bits in
    ap (λ (h : Hosted). host_tour s h.room h.moves h.bits) is
    ∙ ap (λ (r : List ℕ). host_tour s r a.moves a.bits) room_is
    ∙ toured_so s l.room l.table a.moves a.bits (le_trans large (table_grows s room own))
    ∙ ap (λ (k : Left). as_told k.answer k.room a.moves a.bits) (tour_again s room own)
    ∙ told_again l.answer l.room moves bits
    ∙ sym is

module _ {s : List ℕ} {f : Feed} {was : List ℕ} (w : Whole s f was)
    (held room : List ℕ) (moves bits : ℕ) (intact : Intact f was held) where
  again : let a = host_ask (number_of f) held room moves bits in
      host_ask a.state held a.told.room a.told.moves a.told.bits ≡ a
  again =
      let is = told w held room moves bits intact f (w.end held room own intact) in
      let h = host_tour s room moves bits in
      ap (λ (a : HostAsked). host_ask a.state held a.told.room a.told.moves a.told.bits) is
      ∙ told w held h.room h.moves h.bits intact (ended f) (w.later held h.room own intact)
      ∙ ap (host_asked (number_of (ended f))) (tour-told_again s room moves bits)
      ∙ sym is

number_count : (f : Feed) → number_of f / 4 ≡ f.kept
number_count f = let a = bit_small f.over in let b = bit_small f.ended in omega arith

pub pieces : (s : List ℕ) (f : Feed) (was : List ℕ) → Run s f was → Pieces s f was
pieces s f was run =
    let w = whole s f was run in
    record {
      count = number_count f ∙ w.kept;
      piece = piece_told w;
      end = λ held room moves bits intact. told w held room moves bits intact f (w.end held room own intact);
      again = again w;
      later = λ held room moves bits intact.
          told w held room moves bits intact (ended f) (w.later held room own intact);
      closed = omega arith;
    }

numbered : Numbered
numbered = record { state = state_back; number = number-back; new = refl }

refuses : (n : ℕ) (held piece room : List ℕ) (moves bits : ℕ) → Refuses n held piece room moves bits
refuses n held piece room moves bits = record {
  none = none n held piece room moves bits;
  late = late n held piece room moves bits;
  small = small n held piece room moves bits;
  ask_small = ask-refused n held piece room moves bits;
  ask-ends = ask-ends n held piece room moves bits;
}

pub claim : Claim
claim = (numbered, refuses, pieces)
