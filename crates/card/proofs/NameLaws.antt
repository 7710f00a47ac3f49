-- What a lookup of an id tells of pairs, and the pairs' positions one pair at a time. Assumes nothing.
use Rattle.std.specs.Prelude.{None, Some, is_some}
use mathlib.Core.Path.{◌≡◌, refl, sym, ap, ◌∙◌}
use mathlib.Core.Logic.{⊎_elim}
use mathlib.Core.Bool.{true, false, not, ◌||◌, or-true}
use mathlib.Core.List.{List, [], ◌∷◌, ◌++◌}
use Prim.Native.Nat.{ℕ, zero, suc, ◌+◌, ◌*◌, ◌≤◌, ◌<◌}
use native.Mathlib.Nat.{eq-or-lt_of_le, not-suc-le-zero, le_of_suc-le-suc}
use native.Mathlib.Numerals.{add-one}
use native.Mathlib.Omega.{arith}
use lib.Dec.{eqb, ltb}
use borrow.Author.Tests.{lt-ltb, le-ltb}
use lib.ListN.{length, take, get_or, set, replicate, length-append, length-take, get_or-append}
use lib.Seq.{get_or_at, get_or-append-add}
use Rattle.answer.specs.Answer.{Found}
use Rattle.answer.specs.Room.{padded}
use Rattle.answer.proofs.LowestLaws.{Nowhere, is_at_lem}
use Rattle.answer.proofs.RoomLaws.{padded-two, padded_front}
use Rattle.card.specs.declared.Named.{Named}
use Rattle.closure.specs.Limits.{contour_limit, pair_limit}
use Rattle.fields.specs.Layout.{tag_of, contours_of, pairs_of, before_id_of, before_tag_of, after_id_of, after_tag_of}
use Rattle.card.specs.Stages.{seek_of, position_of, unnamed, name_fault, before_of, after_of, other_tag}
use Rattle.card.specs.Names.{seats_of, pairs_on, seat_limit, named_as, named_pairs, AllNamed, named_of, named_within}
use Rattle.card.proofs.LoopLaws.{found_here, none_found}

-- ---- the two contours of a pair

-- a position that was found is a contour's
pub position_below : (s : List ℕ) (id k : ℕ) (f : Found) → f ≡ position_of s id → f ≡ Some k → k < contours_of s
unfolding seek_of
position_below s id k f e h = (is_at_lem _ (contours_of s) k (sym e ∙ h)).within

module _ (s : List ℕ) (q : ℕ) where
  pub first_unknown : (id : ℕ) (f : Found) → id ≡ before_id_of s q → f ≡ position_of s id → f ≡ None → unnamed s q ≡ true
  first_unknown id f own sought e = rw (← own, ← sought, e)

  pub second_unknown : (id : ℕ) (f : Found) → id ≡ after_id_of s q → f ≡ position_of s id → f ≡ None → unnamed s q ≡ true
  second_unknown id f own sought e = rw (← own, ← sought, e, or-true (not (is_some (position_of s (before_id_of s q)))))

  module _ (b a : ℕ) (f g : Found) (x y : ℕ)
      (own : x ≡ before_id_of s q) (found : f ≡ position_of s x) (is : f ≡ Some b)
      (own' : y ≡ after_id_of s q) (found' : g ≡ position_of s y) (is' : g ≡ Some a) where
    pub both_known : unnamed s q ≡ false
    both_known = rw (← own, ← found, is, ← own', ← found', is')

    pub before_is : b ≡ before_of s q
    before_is = rw (← own, ← found, is)

    pub after_is : a ≡ after_of s q
    after_is = rw (← own', ← found', is')

-- ---- the positions of the first q pairs

pub seats_length : (s : List ℕ) (q : ℕ) → length (seats_of s q) ≡ 2 * q
unfolding seats_of
seats_length s zero = refl
seats_length s (suc q) =
    omega (arith, length-append (seats_of s q) (before_of s q ∷ after_of s q ∷ []), seats_length s q)

-- before any pair the places are zero
pub places_none : (s : List ℕ) → replicate seat_limit 0 ≡ padded seat_limit 0 (seats_of s 0)
unfolding seats_of
places_none s = refl

seats_more : (s : List ℕ) (q : ℕ) → seats_of s (q + 1) ≡ seats_of s q ++ (before_of s q ∷ after_of s q ∷ [])
unfolding seats_of
seats_more s q = rw (add-one q)

-- two more places are filled
pub places_more : (s p : List ℕ) (q b a : ℕ) → q < pair_limit → p ≡ padded seat_limit 0 (seats_of s q)
    → b ≡ before_of s q
    → a ≡ after_of s q
    → set (set p (2 * q) b) (2 * q + 1) a ≡ padded seat_limit 0 (seats_of s (q + 1))
places_more s p q b a h e f g =
    rw (e, f, g, seats_more s q)
    (padded-two seat_limit 0 (seats_of s q) (before_of s q) (after_of s q) (2 * q) (seats_length s q) (omega arith))

-- ---- what the loop hands out

module _ (s p : List ℕ) (q : ℕ) (before : Nowhere (unnamed s) q)
    (filled : p ≡ padded seat_limit 0 (seats_of s q)) where
  -- so many positions are used
  counted : (stop : Found) → ◌≡◌ {A = Named} (record { stopped = stop; positions = p; count = 2 * q })
      (named_as stop (seats_of s q))
  counted stop = rw (filled, seats_length s q)

  pub named_until : q < pairs_of s → unnamed s q ≡ true
      → ◌≡◌ {A = Named} (record { stopped = Some q; positions = p; count = 2 * q }) (named_pairs s)
  unfolding named_pairs name_fault
  named_until h e = counted (Some q) ∙ rw (← found_here (unnamed s) (pairs_of s) q h before e)

  pub named_all : pairs_of s ≤ q → q ≤ pairs_of s
      → ◌≡◌ {A = Named} (record { stopped = None; positions = p; count = 2 * q }) (named_pairs s)
  unfolding named_pairs name_fault
  named_all h g =
      let e : pairs_of s ≡ q = omega arith in
      counted None ∙ rw (← none_found (unnamed s) (pairs_of s) q h before, e)

-- ---- a pair's two places

-- a pair more, behind c pairs: what stands before it stays, and its two positions follow
module _ (l : List ℕ) (c b a : ℕ) (whole : length l ≡ 2 * c) where
  pub pair_earlier : (i : ℕ) → i < 2 * c → get_or (l ++ (b ∷ a ∷ [])) i 0 ≡ get_or l i 0
  pair_earlier i h = get_or-append l (b ∷ a ∷ []) 0 i (omega (arith, whole))

  pub pair_first : get_or (l ++ (b ∷ a ∷ [])) (2 * c) 0 ≡ b
  pair_first = get_or_at l b (a ∷ []) 0 (2 * c) whole

  pub pair_second : get_or (l ++ (b ∷ a ∷ [])) (2 * c + 1) 0 ≡ a
  pair_second = rw (← whole) (get_or-append-add l (b ∷ a ∷ []) 1 0)

pub seat-before : (s : List ℕ) (m q : ℕ) → q < m → get_or (seats_of s m) (2 * q) 0 ≡ before_of s q
unfolding seats_of
seat-before s zero q h = absurd (not-suc-le-zero h)
seat-before s (suc m) q h =
    let more = pair_earlier (seats_of s m) m (before_of s m) (after_of s m) (seats_length s m) in
    ⊎_elim (λ e. rw e (pair_first (seats_of s m) m (before_of s m) (after_of s m) (seats_length s m)))
    (λ g. more (2 * q) (omega arith) ∙ seat-before s m q g) (eq-or-lt_of_le (le_of_suc-le-suc h))

pub seat_after : (s : List ℕ) (m q : ℕ) → q < m → get_or (seats_of s m) (2 * q + 1) 0 ≡ after_of s q
unfolding seats_of
seat_after s zero q h = absurd (not-suc-le-zero h)
seat_after s (suc m) q h =
    let more = pair_earlier (seats_of s m) m (before_of s m) (after_of s m) (seats_length s m) in
    ⊎_elim (λ e. rw e (pair_second (seats_of s m) m (before_of s m) (after_of s m) (seats_length s m)))
    (λ g. more (2 * q + 1) (omega arith) ∙ seat_after s m q g) (eq-or-lt_of_le (le_of_suc-le-suc h))

-- ---- the two tags of a pair, looked up at its two places

pub tags_compared : (s p : List ℕ) (m q b a tb pb ta pa : ℕ) → p ≡ seats_of s m → q < m
    → b ≡ get_or p (2 * q) 0 → a ≡ get_or p (2 * q + 1) 0
    → tb ≡ tag_of s b → pb ≡ before_tag_of s q → ta ≡ tag_of s a → pa ≡ after_tag_of s q
    → other_tag s q ≡ (not (eqb tb pb) || not (eqb ta pa))
tags_compared s p m q b a tb pb ta pa e h eb ea etb epb eta epa =
    let x : b ≡ before_of s q = eb ∙ ap (λ (l : List ℕ). get_or l (2 * q) 0) e ∙ seat-before s m q h in
    let y : a ≡ after_of s q = ea ∙ ap (λ (l : List ℕ). get_or l (2 * q + 1) 0) e ∙ seat_after s m q h in
    rw (etb, epb, eta, epa, x, y)

pub seats_handed : (s p : List ℕ) (m : ℕ) → p ≡ seats_of s m → length p ≡ 2 * m
seats_handed s p m e = ap length e ∙ seats_length s m

-- ---- the record that holds them

pub named_stopped : (s : List ℕ) (r : Named) → r ≡ named_pairs s → r.stopped ≡ name_fault s
unfolding named_pairs
named_stopped s r is = rw is

-- every written pair, where every id is known
pub all_named : (s : List ℕ) (r : Named) → contours_of s ≤ contour_limit → pairs_of s ≤ pair_limit → r ≡ named_pairs s
    → r.stopped ≡ None
    → AllNamed s r
unfolding named_pairs
all_named s r n m is stop =
    let known : name_fault s ≡ None = sym (named_stopped s r is) ∙ stop in
    record { few_contours = n; few_pairs = m; are = is ∙ rw known }

-- the positions that are used are the pairs'
module _ (stop : Found) (known : List ℕ) {r : Named} (is : r ≡ named_as stop known) where
  pub named_front : take r.count r.positions ≡ known
  named_front = rw is (padded_front seat_limit 0 known (length known) refl)

  pub named_whole : r.count ≡ length (take r.count r.positions)
  named_whole = ap (λ (n : Named). n.count) is ∙ sym (ap length named_front)

  pub named_within_lem : r.count ≤ length r.positions
  named_within_lem = omega (arith, length-take r.count r.positions, named_whole)

-- ---- more contours or pairs than a card takes

module _ (s : List ℕ) where
  -- the record of a card whose pairs are not looked at
  abbrev unread : Named
  unread = record { stopped = Some 0; positions = replicate seat_limit 0; count = 0 }

  pub too_many_contours : contour_limit < contours_of s → unread ≡ named_of s
  unfolding named_within seats_of
  too_many_contours h = rw (lt-ltb contour_limit (contours_of s) h)

  pub too_many_pairs : pair_limit < pairs_of s → unread ≡ named_of s
  unfolding named_within seats_of
  too_many_pairs h = rw (lt-ltb pair_limit (pairs_of s) h, or-true (ltb contour_limit (contours_of s)))

  module _ (few : contours_of s ≤ contour_limit) (fewer : pairs_of s ≤ pair_limit) (r : Named)
      (e : r ≡ named_pairs s) where
    -- with an id unknown, the pairs before its pair; else those by rule join the written ones
    pub stopped_named : (q : ℕ) → r.stopped ≡ Some q → r ≡ named_of s
    unfolding named_within named_pairs
    stopped_named q stop =
        let known : name_fault s ≡ Some q = sym (named_stopped s r e) ∙ stop in
        e ∙ rw (le-ltb contour_limit (contours_of s) few, le-ltb pair_limit (pairs_of s) fewer, known)

    pub joined_named : (joined : Named) → r.stopped ≡ None → joined ≡ named_as None (pairs_on s) → joined ≡ named_of s
    unfolding named_within
    joined_named joined stop is =
        let known : name_fault s ≡ None = sym (named_stopped s r e) ∙ stop in
        is ∙ rw (le-ltb contour_limit (contours_of s) few, le-ltb pair_limit (pairs_of s) fewer, known)
