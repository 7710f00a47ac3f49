-- A start over pairs without a cycle visits every contour once, and no contour before one that must come first. Assumes
-- nothing.
use mathlib.Core.Bool.{Bool, true, false, not, true≢false, ◌&&◌, ◌||◌}
use mathlib.Core.List.{List, [], ◌∷◌, ◌++◌, map}
use mathlib.Core.Logic.{◌⊎◌, ⊎_elim}
use mathlib.Mathlib.Data.Bool.Basic.{and_elim_left}
use mathlib.Core.Path.{◌≡◌, refl, sym, ap, subst, ◌∙◌}
use Prim.Native.Nat.{ℕ, zero, suc, ◌+◌, ◌-◌, ◌≤◌, ◌<◌}
use native.Mathlib.Nat.{eq-or-lt_of_le, le_of_suc-le-suc, add-zero, zero-add, add-suc, suc-add}
use native.Mathlib.Omega.{arith}
use borrow.Author.Tests.{eq-eqb, ne_eqb, eqb-true, le-leb}
use lib.Dec.{eqb}
use lib.Ieee.{lt}
use lib.ListN.{length, get_or, set, replicate, length-append, length-map, length-set, length-replicate, get_or-append}
use lib.Seq.{get_or_at, get_or-set_same, get_or-set_other, ext_get_or}
use Rattle.closure.proofs.PairLaws.{same_or}
use Rattle.closure.proofs.PathLaws.{every-at, pair_linked}
use Rattle.closure.specs.Cycle.{linked, Acyclic}
use Rattle.closure.specs.Limits.{contour_limit}
use Rattle.closure.specs.Pairs.{paired, every, both}
use Rattle.keep.proofs.OrderLaws.{ReadyNext, one_ready, legal_keeps}
use Rattle.keep.specs.Keep.{ready_in, ready_by, keeps_pairs}
use Rattle.keep.specs.Legal.{Legal}
use Rattle.table.specs.Each.{each}
use Rattle.table.specs.Evaluate.{home_at, distance_at}
use Rattle.points.specs.Numbers.{huge}
use Rattle.start.specs.Code.{flag_count, Flags}
use Rattle.start.specs.Nearest.{Ground, Way, reach_of, is_open, chosen, visit, step, set_out, walked, nearest}
use Rattle.start.specs.Nearest.{nearest_within}
use Rattle.start.specs.Nearest.{Choice}
use Rattle.start.proofs.ChoiceLaws.{InContour, Fair, chosen_fair, chosen_found}
use Rattle.start.proofs.FlagLaws.{none_marked, flags_none, flags_more, open_is}
use Rattle.start.proofs.FreeLaws.{left, left_all_lem, some_left, one_less}
use Rattle.start.proofs.StepLaws.{last_at}

-- ---- what is asked of the ground

-- every contour has a candidate; home is within reach of each, and so is each candidate of another contour
pub record Within (g : Ground) (n : ℕ) : Type 0 where
  pub some : (k : ℕ) → k < n → get_or g.first k 0 < get_or g.first (suc k) 0
  pub home : (k a : ℕ) → k < n → InContour g.first k a → lt (home_at g.home a) huge ≡ true
  pub apart : (k l a b : ℕ) → k < n → l < n → (k ≡ l → ⊥) → InContour g.first k a → InContour g.first l b
      → lt (distance_at g.table g.t b a) huge ≡ true

-- ---- how far a start has come after i steps

pub record Come (g : Ground) (n i : ℕ) (w : Way) : Type 0 where
  pub order : List ℕ
  pub size : length order ≡ i
  pub long : length w.tour ≡ i
  pub flags : List ℕ
  pub flagged : Flags flags w.visited
  pub all_flags : length flags ≡ flag_count
  pub rest : left n flags + i ≡ n
  pub within : (q : ℕ) → q < i → get_or order q 0 < n
  pub marked : (q : ℕ) → q < i → get_or flags (get_or order q 0) 0 ≡ 1
  pub candidate : (q : ℕ) → q < i → InContour g.first (get_or order q 0) (get_or w.tour q 0)
  pub met : (k : ℕ) → (get_or flags k 0 ≡ 0 → ⊥) → (q : ℕ) × (q < i) × (get_or order q 0 ≡ k)
  pub once : (p q : ℕ) → p < i → q < i → get_or order p 0 ≡ get_or order q 0 → p ≡ q
  pub after : (q b : ℕ) → q < i → linked n g.pairs b (get_or order q 0) ≡ true
      → (p : ℕ) × (p < q) × (get_or order p 0 ≡ b)

-- an entry before the last one, and the last one
earlier : (l : List ℕ) (a q : ℕ) → q < length l → get_or (l ++ (a ∷ [])) q 0 ≡ get_or l q 0
earlier l a q h = get_or-append l (a ∷ []) 0 q h

newest : (l : List ℕ) (a i : ℕ) → length l ≡ i → get_or (l ++ (a ∷ [])) i 0 ≡ a
newest l a i e = get_or_at l a [] 0 i e

or_else : (p q : Bool) → (p || q) ≡ true → p ≡ false → q ≡ true
or_else true q e h = absurd (true≢false h)
or_else false q e h = e

not-zero : (a : ℕ) → not (eqb a 0) ≡ true → a ≡ 0 → ⊥
not-zero a e z = true≢false (sym e ∙ ap not (eq-eqb a 0 z))

-- before a contour that is ready, whatever a pair puts there is visited
ready_visited : (n : ℕ) (visited pairs : List ℕ) (b k : ℕ) → ready_in visited pairs k ≡ true
    → linked n pairs b k ≡ true → get_or visited b 0 ≡ 0 → ⊥
unfolding ready_in ready_by
ready_visited n visited pairs b k r l =
    let e : ready_by visited k (record { before = b; after = k }) ≡ true =
    every-at (ready_by visited k) (paired pairs) b k r (pair_linked n pairs b k l) in
    not-zero (get_or visited b 0) (or_else (not (eqb k k)) (not (eqb (get_or visited b 0) 0)) e (ap not (eq-eqb k k refl)))

-- an open contour: not visited, and ready
module _ (flags : List ℕ) (g : Ground) (w : Way) (f : Flags flags w.visited) (k : ℕ) where
  open_unvisited : is_open g w k ≡ true → get_or flags k 0 ≡ 0
  open_unvisited e =
      eqb-true (get_or flags k 0) 0
      (and_elim_left (eqb (get_or flags k 0) 0) (ready_in flags g.pairs k) (sym (open_is flags w f k g) ∙ e))

  open_ready : is_open g w k ≡ true → ready_in flags g.pairs k ≡ true
  open_ready e = go (eqb (get_or flags k 0) 0) (sym (open_is flags w f k g) ∙ e)
    where
      go : (b : Bool) → (b && ready_in flags g.pairs k) ≡ true → ready_in flags g.pairs k ≡ true
      go true h = h
      go false h = absurd (true≢false (sym h))

  ready_open : get_or flags k 0 ≡ 0 → ready_in flags g.pairs k ≡ true → is_open g w k ≡ true
  ready_open e r = open_is flags w f k g ∙ rw (eq-eqb (get_or flags k 0) 0 e, r)

-- ---- one contour more

module _ (g : Ground) (n i : ℕ) (w : Way) (c : Come g n i w) (small : n ≤ flag_count) (k a : ℕ) (h : k < n)
    (o : is_open g w k ≡ true) (m : InContour g.first k a) where
  not_yet : (q : ℕ) → q < i → get_or c.order q 0 ≡ k → ⊥
  not_yet q l e =
      let one : get_or c.flags k 0 ≡ 1 = ap (λ (x : ℕ). get_or c.flags x 0) (sym e) ∙ c.marked q l in
      let none : get_or c.flags k 0 ≡ 0 = open_unvisited c.flags g w c.flagged k o in
      let z : ◌≡◌ {A = ℕ} 0 1 = sym none ∙ one in
      omega arith

  room : k < length c.flags
  room = rw c.all_flags (omega arith)

  split : (q : ℕ) → q < suc i → (q ≡ i) ⊎ (q < i)
  split q l = eq-or-lt_of_le (le_of_suc-le-suc l)

  old : (q : ℕ) → q < i → get_or (c.order ++ (k ∷ [])) q 0 ≡ get_or c.order q 0
  old q l = earlier c.order k q (rw c.size l)

  new : get_or (c.order ++ (k ∷ [])) i 0 ≡ k
  new = newest c.order k i c.size

  pub come_more : Come g n (suc i) (record { tour = w.tour ++ (a ∷ []); visited = w.visited ++ (k ∷ []) })
  come_more = record {
    order = c.order ++ (k ∷ []);
    size = length-append c.order (k ∷ []) ∙ omega (arith, c.size);
    long = length-append w.tour (a ∷ []) ∙ omega (arith, c.long);
    flags = set c.flags k 1;
    flagged = flags_more c.flags w.visited k room c.flagged;
    all_flags = length-set c.flags k 1 ∙ c.all_flags;
    rest = omega (arith, one_less n k c.flags h room (open_unvisited c.flags g w c.flagged k o), c.rest);
    within = λ q l. ⊎_elim (λ (e : q ≡ i). rw (e, new) h) (λ (s : q < i). rw (old q s) (c.within q s)) (split q l);
    marked = λ q l. ⊎_elim
        (λ (e : q ≡ i). rw (e, new) (get_or-set_same c.flags k 1 0 room))
        (λ (s : q < i). rw (old q s) (get_or-set_other c.flags k (get_or c.order q 0) 1 0 (not_yet q s)
        ∙ c.marked q s)) (split q l);
    candidate = λ q l. ⊎_elim
        (λ (e : q ≡ i). rw (e, new, newest w.tour a i c.long) m)
        (λ (s : q < i). rw (old q s, earlier w.tour a q (rw c.long s)) (c.candidate q s)) (split q l);
    met = λ x v. ⊎_elim
        (λ (e : x ≡ k). (i, omega arith, new ∙ sym e))
        (λ (d : x ≡ k → ⊥).
        let f = c.met x (λ z. v (get_or-set_other c.flags k x 1 0 d ∙ z)) in
        (f.0, omega (arith, f.1), old f.0 f.1 ∙ f.2)) (same_or x k);
    once = λ p q l r e. ⊎_elim
        (λ (x : p ≡ i). ⊎_elim (λ (y : q ≡ i). x ∙ sym y)
        (λ (y : q < i). absurd (not_yet q y (sym (old q y) ∙ sym e ∙ ap (λ (z : ℕ). get_or (c.order ++ (k ∷ [])) z 0) x
        ∙ new))) (split q r))
        (λ (x : p < i). ⊎_elim
        (λ (y : q ≡ i). absurd (not_yet p x (sym (old p x) ∙ e ∙ ap (λ (z : ℕ). get_or (c.order ++ (k ∷ [])) z 0) y
        ∙ new)))
        (λ (y : q < i). c.once p q x y (sym (old p x) ∙ e ∙ old q y)) (split q r)) (split p l);
    after = λ q b l t. ⊎_elim
        (λ (e : q ≡ i).
        let link : linked n g.pairs b k ≡ true =
        ap (linked n g.pairs b) (sym (ap (λ (z : ℕ). get_or (c.order ++ (k ∷ [])) z 0) e ∙ new)) ∙ t in
        let f = c.met b (ready_visited n c.flags g.pairs b k
        (open_ready c.flags g w c.flagged k o) link) in
        (f.0, omega (arith, f.1), old f.0 f.1 ∙ f.2))
        (λ (s : q < i).
        let f = c.after q b s (ap (linked n g.pairs b) (sym (old q s)) ∙ t) in
        (f.0, f.1, old f.0 (omega (arith, f.1)) ∙ f.2)) (split q l);
  }

-- ---- each step finds one

suc-sub-one : (i : ℕ) → suc i - 1 ≡ i
suc-sub-one i = omega arith

module _ (g : Ground) (n : ℕ) (near : Within g n) (free : Acyclic n g.pairs)
    (low : every (both n) (paired g.pairs) ≡ true) (small : n ≤ flag_count) where
  -- the first candidate of a contour not yet visited is within reach
  in_reach : (i : ℕ) (w : Way) (c : Come g n i w) (k a : ℕ) → k < n → get_or c.flags k 0 ≡ 0 → InContour g.first k a
      → lt (reach_of g w a) huge ≡ true
  unfolding reach_of
  in_reach zero w c k a h e m = rw c.long (near.home k a h m)
  in_reach (suc i) w c k a h e m =
      rw (last_at w.tour, c.long, ne_eqb (suc i) 0 (omega arith), suc-sub-one i)
      (near.apart k (get_or c.order i 0) a (get_or w.tour i 0) h (c.within i (omega arith)) other m
      (c.candidate i (omega arith)))
    where
      other : k ≡ get_or c.order i 0 → ⊥
      other q =
          let z : ◌≡◌ {A = ℕ} 0 1 = sym e ∙ ap (λ (x : ℕ). get_or c.flags x 0) q ∙ c.marked i (omega arith) in
          omega arith

  -- one step: something is found, and it is a contour more
  come_step : (i j : ℕ) (w : Way) → i < n → Come g n i w → Come g n (suc i) (step g n j w)
  unfolding step visit
  come_step i j w l c = go (one_ready n c.flags g.pairs free low one.0 one.1 one.2)
    where
      one : (k : ℕ) × (k < n) × (get_or c.flags k 0 ≡ 0)
      one = some_left n c.flags (omega (arith, c.rest))

      choice : Choice
      choice = chosen g w n

      taken : choice.found ≡ true → Fair g w n choice → Come g n (suc i) (visit choice w)
      taken e f =
          rw e (come_more g n i w c small choice.contour choice.candidate f.within f.«open» f.candidate)

      go : (m : ℕ) × ReadyNext n c.flags g.pairs m → Come g n (suc i) (visit choice w)
      go (m, r) =
          let first : InContour g.first m (get_or g.first m 0) =
          record { from = omega arith; to = near.some m r.within } in
          let e : choice.found ≡ true =
          chosen_found g w n m (get_or g.first m 0) r.within
          (ready_open c.flags g w c.flagged m r.unvisited r.ready) first
          (in_reach i w c m (get_or g.first m 0) r.within r.unvisited first) in
          taken e (chosen_fair g w n e)

  come_all : (k a i : ℕ) (w : Way) → i + k ≤ n → Come g n i w → Come g n (i + k) (each (step g n) k a w)
  unfolding each
  come_all zero a i w l c = rw (add-zero i) c
  come_all (suc k) a i w l c =
      rw (add-suc i k, ← suc-add i k) (come_all k (suc a) (suc i) (step g n a w) (omega arith)
      (come_step i a w (omega arith) c))

come_none : (g : Ground) (n size : ℕ) → size ≡ flag_count → n ≤ size → Come g n 0 set_out
come_none g n size s h = record {
  order = [];
  size = refl;
  long = refl;
  flags = replicate size 0;
  flagged = flags_none size;
  all_flags = length-replicate size 0 ∙ s;
  rest = omega (arith, left_all_lem n size h);
  within = λ q l. absurd (omega arith);
  marked = λ q l. absurd (omega arith);
  candidate = λ q l. absurd (omega arith);
  met = λ k v. absurd (v (none_marked size k));
  once = λ p q l r e. absurd (omega arith);
  after = λ q b l t. absurd (omega arith);
}

-- ---- the start

-- the contour of each candidate of a tour
abbrev pub stops_of : List ℕ → List ℕ → List ℕ
stops_of owner tour = map (λ a. get_or owner a 0) tour

-- the candidates numbered from a contour's first to the next one's are that contour's
abbrev pub OwnedBy : List ℕ → List ℕ → Type 0
OwnedBy owner first = (k a : ℕ) → get_or first k 0 ≤ a → a < get_or first (suc k) 0 → get_or owner a 0 ≡ k

module _ (g : Ground) (n : ℕ) (near : Within g n) (free : Acyclic n g.pairs)
    (low : every (both n) (paired g.pairs) ≡ true) (most : n ≤ contour_limit) where
  come : Come g n n (walked g n)
  unfolding walked
  come =
      let all = come_all g n near free low (omega arith) n 0 0 set_out (omega arith)
      (come_none g n flag_count refl (omega arith)) in
      subst (λ (x : ℕ). Come g n x (each (step g n) n 0 set_out)) (zero-add n) all

  nearest_is : nearest g n ≡ (walked g n).tour
  unfolding nearest_within
  nearest_is = rw (le-leb n contour_limit most)

  -- over pairs without a cycle the start has a stop for every contour
  pub start_finishes : length (nearest g n) ≡ n
  start_finishes = ap length nearest_is ∙ come.long

  -- the contours in the order of the tour
  stops_are : (owner : List ℕ) → OwnedBy owner g.first → stops_of owner (walked g n).tour ≡ come.order
  stops_are owner owned =
      let size : length (stops_of owner (walked g n).tour) ≡ n =
      length-map (walked g n).tour (λ a. get_or owner a 0) ∙ come.long in
      ext_get_or 0 (stops_of owner (walked g n).tour) come.order (size ∙ sym come.size)
      (λ q l. same q (rw (sym size) l))
    where
      same : (q : ℕ) → q < n → get_or (stops_of owner (walked g n).tour) q 0 ≡ get_or come.order q 0
      same q l = at (walked g n).tour q (rw come.long l)
          ∙ owned (get_or come.order q 0) (get_or (walked g n).tour q 0) (come.candidate q l).from
          (come.candidate q l).to
        where
          at : (l : List ℕ) (q : ℕ) → q < length l → get_or (stops_of owner l) q 0 ≡ get_or owner (get_or l q 0) 0
          at [] q h = absurd (omega arith)
          at (x ∷ l) zero h = refl
          at (x ∷ l) (suc q) h = at l q (le_of_suc-le-suc h)

  legal : Legal n g.pairs come.order
  legal = record {
    each = record { size = come.size; within = come.within; once = come.once };
    before = λ p q hp hq t. (
        let f = come.after q (get_or come.order p 0) hq t in
        let e : f.0 ≡ p = come.once f.0 p (omega (arith, f.1)) hp f.2 in
        omega (arith, f.1));
  }

  -- each contour once, and none before one that must come first
  pub start_legal : (owner : List ℕ) → OwnedBy owner g.first → Legal n g.pairs (stops_of owner (nearest g n))
  start_legal owner owned = rw (nearest_is, stops_are owner owned) legal

  -- so the start keeps the pairs
  pub start_keeps : (owner : List ℕ) → OwnedBy owner g.first
      → keeps_pairs (stops_of owner (nearest g n)) g.pairs ≡ true
  start_keeps owner owned =
      legal_keeps n (stops_of owner (nearest g n)) (start_legal owner owned).each g.pairs (start_legal owner owned)
