-- However a card is cut, the end answers as for the whole. Assumes nothing.
use Rattle.std.specs.Prelude.{Ok}
use mathlib.Core.Path.{◌≡◌, refl, sym, ap, ◌∙◌, subst}
use mathlib.Core.Bool.{Bool, true, false, ◌||◌}
use mathlib.Core.Logic.{inr}
use mathlib.Core.List.{List, [], ◌∷◌, ◌++◌, append_assoc, append-nil}
use Prim.Native.Nat.{ℕ, zero, suc, ◌+◌, ◌-◌, ◌≤◌, ◌<◌, min}
use native.Mathlib.Nat.{sub-zero, zero-sub, le_trans}
use native.Mathlib.Omega.{arith}
use borrow.Author.Tests.{lt-ltb, le-ltb, ltb-true, ltb-false}
use lib.Dec.{ltb}
use lib.Ieee.{Float}
use lib.ListN.{length, take, drop, length-append, length-take}
use lib.Seq.{take_all, take_at, drop-append-add, drop-drop}
use Rattle.answer.specs.declared.Refusal.{Refusal}
use Rattle.answer.specs.Lowest.{refuse_if}
use Rattle.answer.specs.Room.{placed}
use Rattle.answer.proofs.RoomLaws.{placed_front}
use Rattle.fields.specs.Limits.{card_bytes}
use Rattle.card.specs.Verdict.{check_of}
use Rattle.card_laws.specs.Table.{one}
use Rattle.card_laws.proofs.Verdicts.{exactly}
use Rattle.tour.specs.Tour.{Left, tour_of, toured_unless}
use Rattle.tour.proofs.DoorLaws.{tour-refused}
use Rattle.feed.specs.declared.Feed.{Feed}
use Rattle.feed.specs.Feed.{begun, ended, taken_of, fed, filled, Stored, stored_unless, add_of, Reply, end_of, ask_of}
use Rattle.feed_laws.specs.Whole.{OfPieces, OfAsking, Closed, Intact, Run, begins, adds, idles, no_room, not_yet}
use Rattle.feed_laws.specs.Whole.{Holds, Whole, joined, poured, AnyCut, Claim}
use Rattle.feed.proofs.FeedLaws.{take_cut, add_late, add_small, add_none, add-taken}
use Rattle.feed.proofs.FeedLaws.{ask_small, ask_end, ask-ended, by_over}
use Rattle.feed_laws.proofs.AgainLaws.{placed_grows, tour_again}

-- ---- the first bytes of two lists, one behind the other

take-both : (n : ℕ) (a b : List ℕ) → take n (a ++ b) ≡ take n a ++ take (n - length a) b
take-both zero a b = rw zero-sub
take-both (suc n) [] b = rw sub-zero
take-both (suc n) (x ∷ a) b =
    let e : suc n - suc (length a) ≡ n - length a = omega arith in
    rw e (ap (λ (r : List ℕ). x ∷ r) (take-both n a b))

-- ---- the state of a run

pub record State (s : List ℕ) (f : Feed) (was : List ℕ) : Type 0 where
  pub kept : f.kept ≡ min (length s) card_bytes
  pub over : f.over ≡ ltb card_bytes (length s)
  pub before_end : f.ended ≡ false
  pub bytes : take f.kept was ≡ take card_bytes s

-- more bytes were fed than are kept, exactly where they are more than the longest card has
still_over : (n size : ℕ) → (ltb card_bytes n || ltb (taken_of (min n card_bytes) size) size) ≡ ltb card_bytes (n + size)
still_over n size = go (ltb card_bytes n) refl (ltb card_bytes (n + size)) refl
  where
    go : (a : Bool) → ltb card_bytes n ≡ a → (b : Bool) → ltb card_bytes (n + size) ≡ b
        → (ltb card_bytes n || ltb (taken_of (min n card_bytes) size) size) ≡ ltb card_bytes (n + size)
    go true e b g =
        let h = ltb-true card_bytes n e in
        rw (e, lt-ltb card_bytes (n + size) (omega arith))
    go false e true g =
        let h = ltb-false card_bytes n e in
        let k = ltb-true card_bytes (n + size) g in
        rw (e, g) (lt-ltb (taken_of (min n card_bytes) size) size (omega arith))
    go false e false g =
        let h = ltb-false card_bytes n e in
        let k = ltb-false card_bytes (n + size) g in
        rw (e, g) (le-ltb (taken_of (min n card_bytes) size) size (omega arith))

module _ {s : List ℕ} {f : Feed} {was : List ℕ} (st : State s f was)
    (held piece : List ℕ) (intact : Intact f was held) where
  abbrev n : ℕ
  n = taken_of f.kept (length piece)

  -- how many bytes are kept then
  count_is : f.kept + n ≡ min (length (s ++ piece)) card_bytes
  count_is = let k = st.kept in rw (length-append s piece) (omega arith)

  -- the bytes kept and those taken are the first of all
  front_is : take f.kept held ++ take n piece ≡ take card_bytes (s ++ piece)
  front_is =
      let k = st.kept in
      let free : card_bytes - f.kept ≡ card_bytes - length s = omega arith in
      let taken : take n piece ≡ take (card_bytes - length s) piece =
      take_cut (card_bytes - f.kept) piece ∙ ap (λ (m : ℕ). take m piece) free in
      (λ i. (intact.same ∙ st.bytes) i ++ taken i) ∙ sym (take-both card_bytes s piece)

  front_length : length (take card_bytes (s ++ piece)) ≡ f.kept + n
  front_length = length-take card_bytes (s ++ piece) ∙ (let c = count_is in omega arith)

  filled_is : filled f.kept held piece ≡ placed (take card_bytes (s ++ piece)) held
  filled_is = λ i. front_is i ++ drop (sym front_length i) held

  is_stored : add_of f held piece ≡ stored_unless (Ok tt) f held piece
  is_stored = add-taken f held piece st.before_end intact.enough

  holds : Holds (s ++ piece) (add_of f held piece) held
  holds = (
    ap (λ (a : Stored). a.answer) is_stored ∙ ap Ok count_is,
    ap (λ (a : Stored). a.held) is_stored ∙ filled_is,
  )

  added : State (s ++ piece) (fed f (length piece)) (filled f.kept held piece)
  added = record {
    kept = count_is;
    over = (λ i. st.over i || ltb (taken_of (st.kept i) (length piece)) (length piece))
        ∙ still_over (length s) (length piece)
        ∙ ap (ltb card_bytes) (sym (length-append s piece));
    before_end = refl;
    bytes = (λ i. take (sym front_length i) (filled_is i)) ∙ placed_front (take card_bytes (s ++ piece)) held;
  }

  next : State (s ++ piece) (add_of f held piece).feed (add_of f held piece).held
  next =
      subst (λ (a : Stored). State (s ++ piece) a.feed a.held) (sym is_stored) added

-- a call that leaves the state as it was
module _ {s : List ℕ} {f : Feed} {was : List ℕ} (st : State s f was) where
  stays : (g : Feed) → g ≡ f → State s g was
  stays g e = subst (λ (h : Feed). State s h was) (sym e) st

pub state : {s : List ℕ} {f : Feed} {was : List ℕ} → Run s f was → State s f was
state (begins held) = record { kept = refl; over = refl; before_end = refl; bytes = refl }
state (adds run held piece intact) = next (state run) held piece intact
state (idles {f = f} run held) =
    let st = state run in
    stays st (add_of f held []).feed (ap (λ (a : Stored). a.feed) (add_none f held [] st.before_end refl))
state (no_room {f = f} run held piece some short) =
    let st = state run in
    stays st (add_of f held piece).feed
    (ap (λ (a : Stored). a.feed) (add_small f held piece st.before_end some short))
state (not_yet {f = f} run held room table short) =
    let st = state run in
    stays st (ask_of f held room table).feed (ap (λ (a : Reply). a.feed) (ask_small f held room table short))

-- ---- the end

-- a longer card than the longest goes back for its length
too_long : (s room : List ℕ) (table : List Float) → card_bytes < length s
    → toured_unless (refuse_if true 1 (card_bytes + 1)) (tour_of s room table) room table ≡ tour_of s room table
too_long s room table h =
    let r : Refusal = record { number = 1; place = card_bytes + 1 } in
    tour-refused s room table (check_of s) refl r
    ((exactly s).refused-if r (one (record { cause = inr (inr h); told = omega arith })))

module _ {s : List ℕ} {f : Feed} {was : List ℕ} (st : State s f was) (held room : List ℕ) (table : List Float)
    (intact : Intact f was held) where
  -- what is kept is the whole, unless that is longer than the longest card
  end_is : end_of f held room table ≡ tour_of s room table
  end_is = go (ltb card_bytes (length s)) refl
    where
      go : (b : Bool) → ltb card_bytes (length s) ≡ b → end_of f held room table ≡ tour_of s room table
      go true e =
          by_over f held room table true (st.over ∙ e)
          ∙ too_long s room table (ltb-true card_bytes (length s) e)
      go false e =
          by_over f held room table false (st.over ∙ e)
          ∙ ap (λ (l : List ℕ). tour_of l room table)
          (intact.same ∙ st.bytes ∙ take_all card_bytes s (ltb-false card_bytes (length s) e))

  end : ask_of f held room table ≡ record { feed = ended f; left = tour_of s room table }
  end =
      ask_end f held room table intact.enough
      ∙ ap (λ (l : Left). record { feed = ended f; left = l }) end_is

  later : ask_of (ended f) held room table ≡ record { feed = ended f; left = tour_of s room table }
  later =
      ask_end (ended f) held room table intact.enough
      ∙ ap (λ (l : Left). record { feed = ended f; left = l }) end_is

module _ {s : List ℕ} {f : Feed} {was : List ℕ} (st : State s f was) (held room : List ℕ) (table : List Float)
    (intact : Intact f was held) where
  again : let a = ask_of f held room table in ask_of a.feed held a.left.room a.left.table ≡ a
  again =
      let is = end st held room table intact in
      let l = tour_of s room table in
      ap (λ (a : Reply). ask_of a.feed held a.left.room a.left.table) is
      ∙ later st held l.room l.table intact
      ∙ ap (λ (m : Left). record { feed = ended f; left = m }) (tour_again s room table)
      ∙ sym is

-- so many bytes are there
elsewhere : {s : List ℕ} {f : Feed} {was : List ℕ} → State s f was → (rest : List ℕ)
    → card_bytes ≤ length (take f.kept was ++ rest) → Intact f was (take f.kept was ++ rest)
elsewhere {s = s} {f = f} {was = was} st rest enough =
    let long : length (take f.kept was) ≡ f.kept =
    ap length st.bytes ∙ length-take card_bytes s ∙ (let k = st.kept in omega arith) in
    record { enough = enough; same = take_at (take f.kept was) rest f.kept long }

pub whole : (s : List ℕ) (f : Feed) (was : List ℕ) → Run s f was → Whole s f was
whole s f was run = record {
  kept = (state run).kept;
  elsewhere = elsewhere (state run);
  piece = holds (state run);
  end = end (state run);
  again = again (state run);
  later = later (state run);
}

-- ---- any cutting

-- what is written over a shorter front leaves nothing of it
placed-longer : (l m room : List ℕ) → length l ≤ length m → placed m (placed l room) ≡ placed m room
placed-longer l m room h =
    let k = length m - length l in
    let e : length m ≡ length l + k = omega arith in
    ap (λ (r : List ℕ). m ++ r)
    (rw e (drop-append-add l (drop (length l) room) k ∙ drop-drop k (length l) room))

more_bytes : (s t : List ℕ) → length (take card_bytes s) ≤ length (take card_bytes (s ++ t))
more_bytes s t = rw (length-take card_bytes s, length-take card_bytes (s ++ t), length-append s t) (omega arith)

-- behind the pieces that are still to come
abbrev Behind : List (List ℕ) → List ℕ → Feed → List ℕ → List ℕ → Type 0
Behind pieces l f held room =
    Run l (poured pieces f held).feed (poured pieces f held).held
    × ((poured pieces f held).held ≡ placed (take card_bytes l) room)

pour : (pieces : List (List ℕ)) (s : List ℕ) (f : Feed) (held room : List ℕ) → Run s f held
    → held ≡ placed (take card_bytes s) room → card_bytes ≤ length room → Behind pieces (s ++ joined pieces) f held room
unfolding joined poured
pour [] s f held room run e enough =
    subst (λ (l : List ℕ). Behind [] l f held room) (sym (append-nil s)) (run, e)
pour (piece ∷ more) s f held room run e enough =
    let large : card_bytes ≤ length held = rw e (le_trans enough (placed_grows (take card_bytes s) room)) in
    let intact : Intact f held held = record { enough = large; same = refl } in
    let next = holds (state run) held piece intact in
    let long = more_bytes s piece in
    subst (λ (l : List ℕ). Behind (piece ∷ more) l f held room) (append_assoc s piece (joined more))
    (pour more (s ++ piece) (add_of f held piece).feed (add_of f held piece).held room (adds run held piece intact)
    (next.1 ∙ ap (placed (take card_bytes (s ++ piece))) e
    ∙ placed-longer (take card_bytes s) (take card_bytes (s ++ piece)) room long) enough)

any_cut : (pieces : List (List ℕ)) (held : List ℕ) → card_bytes ≤ length held → AnyCut pieces held
any_cut pieces held enough =
    let p = pour pieces [] begun held held (begins held) refl enough in
    let after = poured pieces begun held in
    let large : card_bytes ≤ length after.held =
    rw p.1 (le_trans enough (placed_grows (take card_bytes (joined pieces)) held)) in
    record {
      runs = p.0;
      holds = p.1;
      end = λ room table. ap (λ (a : Reply). a.left)
          (end (state p.0) after.held room table (record { enough = large; same = refl }));
    }

-- ---- the refusals

of_pieces : (f : Feed) (held piece : List ℕ) → OfPieces f held piece
of_pieces f held piece = record {
  late = add_late f held piece;
  small = add_small f held piece;
  none = add_none f held piece;
  taken = λ e h. ap (λ (a : Stored). a.answer) (add-taken f held piece e h);
}

of_asking : (f : Feed) (held room : List ℕ) (table : List Float) → OfAsking f held room table
of_asking f held room table = record {
  small = ask_small f held room table;
  end = λ h. ap (λ (a : Reply). a.feed) (ask_end f held room table h);
}

closed : (f : Feed) → Closed f
closed f = record {
  pieces = λ held piece. ap (λ (a : Stored). a.feed) (add_late (ended f) held piece refl);
  askings = ask-ended f;
}

pub claim : Claim
claim = (of_pieces, of_asking, closed, whole, any_cut)
