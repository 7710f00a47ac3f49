-- What a piece and an asking come to, case by case. Assumes nothing.
use Rattle.std.specs.Prelude.{Err, Ok}
use mathlib.Core.Path.{◌≡◌, refl, sym, ap, ◌∙◌}
use mathlib.Core.Bool.{Bool, true, false, ◌&&◌, ◌||◌, and-false, or-false}
use mathlib.Core.List.{List, [], ◌∷◌, ◌++◌}
use Prim.Native.Nat.{ℕ, ◌+◌, ◌≤◌, ◌<◌, min}
use native.Mathlib.Nat.{add-zero}
use native.Mathlib.Omega.{arith}
use borrow.Author.Tests.{lt-ltb, le-ltb, ltb-true, ltb-false}
use lib.Dec.{ltb}
use lib.Ieee.{Float}
use lib.ListN.{length, take, drop}
use lib.Seq.{paste-zero, take_all}
use Rattle.answer.specs.Answer.{Check}
use Rattle.answer.specs.Stage.{first_refusal}
use Rattle.answer.specs.Lowest.{refuse_if}
use Rattle.fields.specs.Limits.{card_bytes}
use Rattle.tour.specs.Tour.{toured_unless, tour_of}
use Rattle.feed.specs.declared.Feed.{Feed}
use Rattle.feed.specs.Feed.{taken_of, piece_check, fed, filled, unchanged, stored_unless, add_of}
use Rattle.feed.specs.Feed.{ask_check, ended, end_of, unasked, reply_unless, ask_of}

-- as many as there are, at most
pub take_cut : (n : ℕ) (l : List ℕ) → take (min (length l) n) l ≡ take n l
take_cut n l = cut (ltb n (length l)) refl
  where
    cut : (b : Bool) → ltb n (length l) ≡ b → take (min (length l) n) l ≡ take n l
    cut true e =
        let h = ltb-true n (length l) e in
        let m : min (length l) n ≡ n = omega arith in
        rw m
    cut false e =
        let h = ltb-false n (length l) e in
        let m : min (length l) n ≡ length l = omega arith in
        rw m (take_all (length l) l (omega arith) ∙ sym (take_all n l h))

-- ---- a piece

tests : Bool → Bool → Check
tests e b = first_refusal (refuse_if e 17 0 ∷ refuse_if b 13 card_bytes ∷ [])

module _ (f : Feed) (held piece : List ℕ) where
  abbrev small : Bool
  small = ltb 0 (length piece) && ltb (length held) card_bytes

  by_tests : (e b : Bool) → f.ended ≡ e → small ≡ b → add_of f held piece ≡ stored_unless (tests e b) f held piece
  unfolding add_of piece_check tests
  by_tests e b p q = λ i. stored_unless (tests (p i) (q i)) f held piece

  pub add_late : f.ended ≡ true → add_of f held piece ≡ unchanged f (record { number = 17; place = 0 }) held
  unfolding tests first_refusal
  add_late e = by_tests true small e refl

  pub add_small : f.ended ≡ false → 0 < length piece → length held < card_bytes
      → add_of f held piece ≡ unchanged f (record { number = 13; place = card_bytes }) held
  unfolding tests first_refusal
  add_small e h g = by_tests false true e (rw (lt-ltb 0 (length piece) h, lt-ltb (length held) card_bytes g))

  pub add-taken : f.ended ≡ false → card_bytes ≤ length held → add_of f held piece ≡ stored_unless (Ok tt) f held piece
  unfolding tests first_refusal
  add-taken e h =
      by_tests false false e (rw (le-ltb (length held) card_bytes h, and-false (ltb 0 (length piece))))

-- nothing is kept of no bytes, and nothing forgotten
nothing_taken : (kept : ℕ) → taken_of kept 0 ≡ 0
nothing_taken kept = omega arith

nothing_fed : (f : Feed) → f.ended ≡ false → fed f 0 ≡ f
nothing_fed f e =
    (λ i. record {
      kept = f.kept + nothing_taken f.kept i;
      over = f.over || ltb (nothing_taken f.kept i) 0;
      ended = false;
    })
    ∙ (λ i. record { kept = add-zero f.kept i; over = or-false f.over i; ended = sym e i })

-- where nothing is taken, nothing is written
filled_none : (kept : ℕ) (held piece : List ℕ) → taken_of kept (length piece) ≡ 0 → filled kept held piece ≡ held
filled_none kept held piece e =
    ap (λ (n : ℕ). take kept held ++ take n piece ++ drop (kept + n) held) e ∙ sym (paste-zero held kept piece)

pub add_none : (f : Feed) (held piece : List ℕ) → f.ended ≡ false → length piece ≡ 0
    → add_of f held piece ≡ record { feed = f; answer = Ok f.kept; held = held }
unfolding tests first_refusal
add_none f held [] e z =
    let same = nothing_fed f e in
    by_tests f held [] false false e refl
    ∙ (λ i. record {
      feed = same i;
      answer = Ok (same i).kept;
      held = filled_none f.kept held [] (nothing_taken f.kept) i;
    })
add_none f held (x ∷ piece) e z = absurd (omega arith)

-- ---- an asking

module _ (f : Feed) (held room : List ℕ) (table : List Float) where
  pub ask_small : length held < card_bytes
      → ask_of f held room table ≡ unasked f (record { number = 13; place = card_bytes }) room table
  unfolding ask_of ask_check
  ask_small h = rw (lt-ltb (length held) card_bytes h)

  pub ask_end : card_bytes ≤ length held
      → ask_of f held room table ≡ record { feed = ended f; left = end_of f held room table }
  unfolding ask_of ask_check
  ask_end h = rw (le-ltb (length held) card_bytes h)

  -- by whether there were more bytes than are kept
  pub by_over : (o : Bool) → f.over ≡ o
      → end_of f held room table
      ≡ toured_unless (refuse_if o 1 (card_bytes + 1)) (tour_of (take f.kept held) room table) room table
  by_over o e =
      ap (λ (b : Bool).
      toured_unless (refuse_if b 1 (card_bytes + 1)) (tour_of (take f.kept held) room table) room table) e

-- no asking after the end leads out of it
pub ask-ended : (f : Feed) (held room : List ℕ) (table : List Float) → (ask_of (ended f) held room table).feed ≡ ended f
unfolding ask_of
ask-ended f held room table = go (ask_check (length held))
  where
    go : (c : Check) → (reply_unless c (ended f) held room table).feed ≡ ended f
    go (Ok _) = refl
    go (Err r) = refl
