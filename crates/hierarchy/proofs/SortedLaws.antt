-- The topological order is legal: what holds while its positions are taken. Assumes nothing.
use Rattle.std.specs.Prelude.{Err, Ok}
use mathlib.Core.Bool.{Bool, true, false, cond, not, ◌&&◌, ◌||◌, or-true, or-false, and-false}
use mathlib.Mathlib.Data.Bool.Basic.{or_inl, or_inr, and_elim_left, and_elim_right, and_intro}
use mathlib.Core.Path.{◌≡◌, refl, sym, ap, ◌∙◌, subst, fun_ext}
use mathlib.Core.Logic.{◌⊎◌, inl, inr, ⊎_elim, ◌↔◌}
use mathlib.Core.List.{List, [], ◌∷◌, ◌++◌, append-nil}
use Prim.Native.Nat.{ℕ, zero, suc, ◌+◌, ◌-◌, ◌≤◌, ◌<◌, min}
use native.Mathlib.Nat.{not-suc-le-zero, eq-or-lt_of_le, le_of_suc-le-suc}
use native.Mathlib.Omega.{arith}
use lib.Dec.{eqb, ltb}
use borrow.Author.Tests.{eq-eqb, ne_eqb, eqb-true, eqb-false, not-true, lt-ltb, le-ltb, ltb-true}
use lib.ListN.{length, get_or, set, replicate, length-set, length-append, length-replicate, get_or-append}
use lib.Seq.{get_or-set_same, get_or-set_other, get_or-append_seam, take_all}
use Rattle.closure.specs.Limits.{contour_limit}
use Rattle.closure.specs.Pairs.{Pair, paired, every, some_of, is_pair, both}
use Rattle.closure.specs.Cycle.{linked, on_cycle, Acyclic, first_on_cycle}
use Rattle.answer.specs.Lowest.{lowest}
use Rattle.answer.proofs.LowestLaws.{LowestAt, Nowhere, at_is, absent_is, search_through}
use Rattle.closure.proofs.PairLaws.{same_or, lt-or, is_pair_lem}
use Rattle.answer.proofs.Truth.{yes_or_no, true_false}
use Rattle.closure.proofs.PathLaws.{linked_within, absent_exactly, linked_pair, pair_linked, every-at}
use Rattle.hierarchy.specs.Sort.{Kahn, held_back, tallied, free_below, untaken, loosened, released, queue_taken}
use Rattle.hierarchy.specs.Sort.{sorted_by}
use Rattle.hierarchy.specs.Code.{first_taken}
use Rattle.answer.specs.Room.{listed}
use Rattle.hierarchy.specs.Questions.{pairs_check, topological_sort}
use Rattle.keep.specs.Legal.{Legal}
use Rattle.hierarchy.proofs.CheckLaws.{fine_small}
use Rattle.hierarchy.proofs.SortLaws.{both_yes, both_low, zeros, tallied-length, queue_step, queue_end}
use Rattle.closure.proofs.CountLaws.{any_below, met, met_is, met_at, Different, met_not, different_few, all_many, Least}
use Rattle.closure.proofs.CountLaws.{least}
use Rattle.keep.proofs.OrderLaws.{legal_acyclic}

-- ---- how many pairs pass a test

pair_count : (Pair → Bool) → List Pair → ℕ
pair_count test [] = 0
pair_count test (p ∷ more) = pair_count test more + cond (test p) 1 0

-- where none passes, each fails
count_zero : (test : Pair → Bool) (ps : List Pair) → pair_count test ps ≡ 0 → every (λ p. not (test p)) ps ≡ true
unfolding pair_count every
count_zero test [] e = refl
count_zero test (p ∷ more) e = ⊎_elim
    (λ (y : test p ≡ true). let f : pair_count test more + 1 ≡ 0 = rw y at e in absurd (omega arith))
    (λ (y : test p ≡ false). let f : pair_count test more + 0 ≡ 0 = rw y at e in
    rw y (count_zero test more (omega arith)))
    (yes_or_no (test p))

-- where some pass, one can be named
count_some : (test : Pair → Bool) (ps : List Pair) → (pair_count test ps ≡ 0 → ⊥)
    → (p : Pair) × (some_of (is_pair p.before p.after) ps ≡ true) × (test p ≡ true)
unfolding pair_count some_of
count_some test [] d = absurd (d refl)
count_some test (p ∷ more) d = go (yes_or_no (test p)) (count_some test more)
  where
    go : (test p ≡ true) ⊎ (test p ≡ false)
        → ((pair_count test more ≡ 0 → ⊥)
        → (q : Pair) × (some_of (is_pair q.before q.after) more ≡ true) × (test q ≡ true)) →
        (q : Pair) × ((is_pair q.before q.after p || some_of (is_pair q.before q.after) more) ≡ true) ×
        (test q ≡ true)
    go (inl y) rec = (
      p,
      or_inl (is_pair p.before p.after p) (some_of (is_pair p.before p.after) more)
          (is_pair_lem p.before p.after p.before p.after refl refl),
      y,
    )
    go (inr y) rec =
        let f = rec (λ e. d (rw y (omega arith))) in (
          f.0,
          or_inr (is_pair f.0.before f.0.after p) (some_of (is_pair f.0.before f.0.after) more)
              f.1,
          f.2,
        )

-- a pair holds a back while its first is not done
abbrev holds : ℕ → (ℕ → Bool) → ℕ → Pair → Bool
holds n done a p = both n p && (eqb p.after a && not (done p.before))

-- where none does, all that is linked to a is done
all_done : (n : ℕ) (pairs : List ℕ) (done : ℕ → Bool) (b a : ℕ) → pair_count (holds n done a) (paired pairs) ≡ 0
    → linked n pairs b a ≡ true → done b ≡ true
all_done n pairs done b a e l =
    ⊎_elim (λ (y : done b ≡ true). y) (λ (y : done b ≡ false). absurd (true_false (still y) none)) (yes_or_no (done b))
  where
    none : holds n done a (record { before = b; after = a }) ≡ false
    none = not-true _ (every-at (λ p. not (holds n done a p)) (paired pairs) b a
        (count_zero (holds n done a) (paired pairs) e) (pair_linked n pairs b a l))

    still : done b ≡ false → holds n done a (record { before = b; after = a }) ≡ true
    still y = let r = linked_within n pairs b a l in
        and_intro {a = both n (record { before = b; after = a })} {b = eqb a a && not (done b)}
        (both_yes n (record { before = b; after = a }) r.0 r.1) (rw (eq-eqb a a refl, y))

-- a pair is from x to a
abbrev goes : ℕ → ℕ → ℕ → Pair → Bool
goes n x a p = both n p && (eqb p.after a && eqb p.before x)

-- once x is done too, its pairs hold nothing back
count_split : (n a x : ℕ) (old new : ℕ → Bool) → old x ≡ false → ((b : ℕ) → new b ≡ (old b || eqb x b))
    → (ps : List Pair) →
    pair_count (holds n old a) ps ≡ pair_count (holds n new a) ps + pair_count (goes n x a) ps
unfolding pair_count
count_split n a x old new e is [] = omega arith
count_split n a x old new e is (p ∷ more) =
    let rec : pair_count (holds n old a) more ≡ pair_count (holds n new a) more + pair_count (goes n x a) more =
    count_split n a x old new e is more in
    let one : cond (holds n old a p) 1 0 ≡ cond (holds n new a p) 1 0 + cond (goes n x a p) 1 0 = ⊎_elim
    (λ (s : p.before ≡ x). same (both n p) (eqb p.after a) (old p.before) (new p.before) (eqb p.before x)
    (rw s e) (is p.before ∙ rw (eq-eqb x p.before (sym s)) (or-true (old p.before)))
    (eq-eqb p.before x s))
    (λ (d : p.before ≡ x → ⊥). other (both n p) (eqb p.after a) (old p.before) (new p.before)
    (eqb p.before x) (is p.before ∙ rw (ne_eqb x p.before (λ z. d (sym z))) (or-false (old p.before)))
    (ne_eqb p.before x d))
    (same_or p.before x) in
    omega arith
  where
    same : (c y o m g : Bool) → o ≡ false → m ≡ true → g ≡ true
        → cond (c && (y && not o)) 1 0 ≡ cond (c && (y && not m)) 1 0 + cond (c && (y && g)) 1 0
    same true true o m g p q r = rw (p, q, r) (omega arith)
    same true false o m g p q r = omega arith
    same false y o m g p q r = omega arith

    other : (c y o m g : Bool) → m ≡ o → g ≡ false
        → cond (c && (y && not o)) 1 0 ≡ cond (c && (y && not m)) 1 0 + cond (c && (y && g)) 1 0
    other true true o m g p q = rw (p, q) (omega arith)
    other true false o m g p q = omega arith
    other false y o m g p q = omega arith

-- ---- one more in the order

push_old : (o : List ℕ) (x q : ℕ) → q < length o → get_or (o ++ (x ∷ [])) q 0 ≡ get_or o q 0
push_old o x q h = get_or-append o (x ∷ []) 0 q h

push_new : (o : List ℕ) (x : ℕ) → get_or (o ++ (x ∷ [])) (length o) 0 ≡ x
push_new o x = get_or-append_seam o x [] 0

push_length : (o : List ℕ) (x : ℕ) → length (o ++ (x ∷ [])) ≡ suc (length o)
push_length o x = let e : length (o ++ (x ∷ [])) ≡ length o + 1 = length-append o (x ∷ []) in omega arith

-- the first m entries decide what is among them
met_same : (l k : List ℕ) (m x : ℕ) → ((q : ℕ) → q < m → get_or l q 0 ≡ get_or k q 0) → met l m x ≡ met k m x
unfolding any_below
met_same l k zero x h = refl
met_same l k (suc m) x h = rw (met_same l k m x (λ q i. h q (omega arith)), h m (omega arith))

push_met : (o : List ℕ) (x a : ℕ) → met (o ++ (x ∷ [])) (length (o ++ (x ∷ []))) a ≡ (met o (length o) a || eqb x a)
unfolding any_below
push_met o x a = rw (push_length o x, push_new o x, met_same (o ++ (x ∷ [])) o (length o) a (push_old o x))

push_different : (n : ℕ) (o : List ℕ) (x : ℕ) → Different n o (length o) → x < n → met o (length o) x ≡ false
    → Different n (o ++ (x ∷ [])) (length (o ++ (x ∷ [])))
push_different n o x d h f = rw (push_length o x) (record { within = within; once = once })
  where
    split : (p : ℕ) → p < suc (length o) → (p ≡ length o) ⊎ (p < length o)
    split p i = eq-or-lt_of_le (le_of_suc-le-suc i)

    within : (p : ℕ) → p < suc (length o) → get_or (o ++ (x ∷ [])) p 0 < n
    within p i =
        ⊎_elim (λ (e : p ≡ length o). rw (e, push_new o x) h)
        (λ (l : p < length o). rw (push_old o x p l) (d.within p l)) (split p i)

    never : (p : ℕ) → p < length o → get_or o p 0 ≡ x → ⊥
    never p l e = true_false (met_is o (length o) x p l e) f

    once : (p q : ℕ) → p < suc (length o) → q < suc (length o) → get_or (o ++ (x ∷ [])) p 0 ≡ get_or (o ++ (x ∷ [])) q 0
        → p ≡ q
    once p q i j e = ⊎_elim
        (λ (u : p ≡ length o). ⊎_elim (λ (v : q ≡ length o). u ∙ sym v)
        (λ (v : q < length o). absurd (never q v (sym (push_old o x q v) ∙ sym e
        ∙ ap (λ (z : ℕ). get_or (o ++ (x ∷ [])) z 0) u ∙ push_new o x))) (split q j))
        (λ (u : p < length o). ⊎_elim (λ (v : q ≡ length o). absurd
        (never p u (sym (push_old o x p u) ∙ e ∙ ap (λ (z : ℕ). get_or (o ++ (x ∷ [])) z 0) v ∙ push_new o x)))
        (λ (v : q < length o). d.once p q u v (sym (push_old o x p u) ∙ e ∙ push_old o x q v)) (split q j)) (split p i)

-- ---- the positions that are free at first

record Free (w : List ℕ) (k : ℕ) (o : List ℕ) : Type 0 where
  listed : (a : ℕ) → met o (length o) a ≡ (ltb a k && eqb (get_or w a 0) 0)
  different : Different k o (length o)

below_next : (a k : ℕ) → (a ≡ k → ⊥) → ltb a (suc k) ≡ ltb a k
below_next a k d =
    ⊎_elim (λ (h : a < k). lt-ltb a (suc k) (omega arith) ∙ sym (lt-ltb a k h))
    (λ (h : k ≤ a). le-ltb a (suc k) (omega arith) ∙ sym (le-ltb a k h)) (lt-or a k)

wider : (k : ℕ) (o : List ℕ) (m : ℕ) → Different k o m → Different (suc k) o m
wider k o m d = record { within = λ p h. let l : get_or o p 0 < k = d.within p h in omega arith; once = d.once }

free-first : (w : List ℕ) (k : ℕ) → Free w k (free_below w k)
unfolding free_below any_below
free-first w zero = record {
  listed = λ a. rw (le-ltb a 0 (omega arith));
  different = record { within = λ p h. absurd (not-suc-le-zero h); once = λ p q h i e. absurd (not-suc-le-zero h) };
}
free-first w (suc k) = ⊎_elim
    (λ (z : get_or w k 0 ≡ 0). rw (eq-eqb (get_or w k 0) 0 z) (record {
      listed = λ a. push_met (free_below w k) k a ∙ rw ((free-first w k).listed a) (⊎_elim
          (λ (e : a ≡ k). rw (e, eq-eqb (get_or w k 0) 0 z, eq-eqb k k refl, lt-ltb k (suc k) (omega arith))
          (or-true (ltb k k && true)))
          (λ (d : a ≡ k → ⊥). rw (ne_eqb k a (λ s. d (sym s)), below_next a k d)
          (or-false (ltb a k && eqb (get_or w a 0) 0))) (same_or a k));
      different =
          push_different (suc k) (free_below w k) k
          (wider k (free_below w k) (length (free_below w k)) (free-first w k).different) (omega arith)
          ((free-first w k).listed k ∙ rw (le-ltb k k (omega arith)));
    }))
    (λ (z : get_or w k 0 ≡ 0 → ⊥). rw (ne_eqb (get_or w k 0) 0 z, append-nil (free_below w k)) (record {
      listed = λ a. (free-first w k).listed a ∙ ⊎_elim
          (λ (e : a ≡ k). rw (e, ne_eqb (get_or w k 0) 0 z)
          (and-false (ltb k k) ∙ sym (and-false (ltb k (suc k)))))
          (λ (d : a ≡ k → ⊥). rw (below_next a k d)) (same_or a k);
      different = wider k (free_below w k) (length (free_below w k)) (free-first w k).different;
    })) (same_or (get_or w k 0) 0)

-- ---- what holds while the pairs of one position are walked

-- every pair into a holds it back while its first is not done, and those from x that are still to be walked do so too;
-- the order has the positions that nothing holds back, each once, and each after all that is linked to it
record Mid (n : ℕ) (pairs : List ℕ) (done : ℕ → Bool) (x : ℕ) (rest : List Pair) (w o : List ℕ) : Type 0 where
  size : length w ≡ contour_limit
  counts : (a : ℕ) → a < n → get_or w a 0 ≡ pair_count (holds n done a) (paired pairs) + pair_count (goes n x a) rest
  listed : (a : ℕ) → a < n → met o (length o) a ≡ eqb (get_or w a 0) 0
  different : Different n o (length o)
  early : (p : ℕ) → p < length o → (b : ℕ) → linked n pairs b (get_or o p 0) ≡ true → (q : ℕ) × (q < p) × (get_or o q 0 ≡ b)
  known : (b : ℕ) → done b ≡ true → (q : ℕ) × (q < length o) × (get_or o q 0 ≡ b)

module _ (n : ℕ) (small : n ≤ contour_limit) (pairs : List ℕ) (done : ℕ → Bool) (x : ℕ) (p : Pair) (rest : List Pair)
    (w o : List ℕ) (mid : Mid n pairs done x (p ∷ rest) w o) where
  count_step : (a : ℕ) → a < n
      → get_or w a 0 ≡ pair_count (holds n done a) (paired pairs) + (pair_count (goes n x a) rest + cond (goes n x a p) 1 0)
  unfolding pair_count
  count_step a h = mid.counts a h

  -- a pair that is not one of x's is passed over
  mid_pass : (eqb p.before x && both n p) ≡ false → Mid n pairs done x rest w o
  mid_pass f = record {
    size = mid.size;
    counts = λ a h. count_step a h ∙ rw (no_goes a) (omega arith);
    listed = mid.listed;
    different = mid.different;
    early = mid.early;
    known = mid.known;
  }
    where
      no_goes : (a : ℕ) → goes n x a p ≡ false
      no_goes a = lemma (both n p) (eqb p.after a) (eqb p.before x) f
        where
          lemma : (c y g : Bool) → (g && c) ≡ false → (c && (y && g)) ≡ false
          lemma true true true e = e
          lemma true true false e = refl
          lemma true false g e = refl
          lemma false y g e = refl

  module _ (t : (eqb p.before x && both n p) ≡ true) where
    into : ℕ
    into = p.after

    low : into < n
    unfolding into
    low = both_low n p (and_elim_right (eqb p.before x) (both n p) t)

    this_goes : goes n x into p ≡ true
    unfolding into
    this_goes =
        and_intro {a = both n p} {b = eqb p.after p.after && eqb p.before x}
        (and_elim_right (eqb p.before x) (both n p) t)
        (and_intro {a = eqb p.after p.after} {b = eqb p.before x} (eq-eqb p.after p.after refl)
        (and_elim_left (eqb p.before x) (both n p) t))

    other_goes : (a : ℕ) → (a ≡ into → ⊥) → goes n x a p ≡ false
    unfolding into
    other_goes a d = rw (ne_eqb p.after a (λ e. d (sym e))) (and-false (both n p))

    here : get_or w into 0 ≡ pair_count (holds n done into) (paired pairs) + pair_count (goes n x into) rest + 1
    here = count_step into low ∙ rw this_goes (omega arith)

    in_waits : into < length w
    in_waits = omega (arith, mid.size, low)

    v : ℕ
    v = get_or w into 0 - 1

    counts-on : (a : ℕ) → a < n
        → get_or (set w into v) a 0 ≡ pair_count (holds n done a) (paired pairs) + pair_count (goes n x a) rest
    unfolding v
    counts-on a h = ⊎_elim
        (λ (e : a ≡ into). rw (e, get_or-set_same w into (get_or w into 0 - 1) 0 in_waits) (omega (arith, here)))
        (λ (d : a ≡ into → ⊥). rw (get_or-set_other w into a (get_or w into 0 - 1) 0 d)
        (count_step a h ∙ rw (other_goes a d) (omega arith))) (same_or a into)

    -- held back by others still
    mid_still : (get_or w into 0 ≡ 1 → ⊥) → Mid n pairs done x rest (set w into v) o
    unfolding v
    mid_still d = record {
      size = length-set w into v ∙ mid.size;
      counts = counts-on;
      listed = λ a h. mid.listed a h ∙ ⊎_elim
          (λ (e : a ≡ into). rw (e, get_or-set_same w into (get_or w into 0 - 1) 0 in_waits)
          (ne_eqb (get_or w into 0) 0 (omega (arith, here))
          ∙ sym (ne_eqb (get_or w into 0 - 1) 0 (omega (arith, here)))))
          (λ (c : a ≡ into → ⊥). rw (get_or-set_other w into a (get_or w into 0 - 1) 0 c)) (same_or a into);
      different = mid.different;
      early = mid.early;
      known = mid.known;
    }

    -- free now: it joins the order
    mid_free : get_or w into 0 ≡ 1 → Mid n pairs done x rest (set w into v) (o ++ (into ∷ []))
    unfolding v
    mid_free one = record {
      size = length-set w into v ∙ mid.size;
      counts = counts-on;
      listed = λ a h. push_met o into a ∙ ⊎_elim
          (λ (e : a ≡ into). rw (e, get_or-set_same w into (get_or w into 0 - 1) 0 in_waits, eq-eqb into into refl, one)
          (or-true (met o (length o) into)))
          (λ (c : a ≡ into → ⊥). rw (get_or-set_other w into a (get_or w into 0 - 1) 0 c, ne_eqb into a (λ s. c (sym s)))
          (or-false (met o (length o) a) ∙ mid.listed a h)) (same_or a into);
      different =
          push_different n o into mid.different low (mid.listed into low ∙ ne_eqb (get_or w into 0) 0 (omega arith));
      early = early;
      known = λ b e. let f =
          mid.known b e in (f.0, omega (arith, f.1, push_length o into), push_old o into f.0 f.1 ∙ f.2);
    }
      where
        early : (q : ℕ) → q < length (o ++ (into ∷ [])) → (b : ℕ)
            → linked n pairs b (get_or (o ++ (into ∷ [])) q 0) ≡ true
            → (r : ℕ) × (r < q) × (get_or (o ++ (into ∷ [])) r 0 ≡ b)
        early q h b l = go (eq-or-lt_of_le (le_of_suc-le-suc (rw (push_length o into) at h)))
          where
            go : (q ≡ length o) ⊎ (q < length o) → (r : ℕ) × (r < q) × (get_or (o ++ (into ∷ [])) r 0 ≡ b)
            go (inl e) =
                let f = mid.known b (all_done n pairs done b into (omega (arith, here))
                (rw (e, push_new o into) at l)) in
                (f.0, omega (arith, f.1), push_old o into f.0 f.1 ∙ f.2)
            go (inr i) =
                let f = mid.early q i b (rw (push_old o into q i) at l) in
                (f.0, f.1, push_old o into f.0 (omega (arith, f.1)) ∙ f.2)

-- ---- all pairs of one position

-- the order keeps what it has
record Grown (o k : List ℕ) : Type 0 where
  longer : length o ≤ length k
  kept : (q : ℕ) → q < length o → get_or k q 0 ≡ get_or o q 0

grown_none : (o : List ℕ) → Grown o o
grown_none o = record { longer = omega arith; kept = λ q h. refl }

grown_on : (o k l : List ℕ) → Grown o k → Grown k l → Grown o l
grown_on o k l f g =
    record {
      longer = omega (arith, f.longer, g.longer);
      kept = λ q h. g.kept q (omega (arith, f.longer)) ∙ f.kept q h;
    }

record Walked (n : ℕ) (pairs : List ℕ) (done : ℕ → Bool) (x : ℕ) (rest : List Pair) (o : List ℕ)
    (s : Kahn) : Type 0 where
  mid : Mid n pairs done x rest s.waits s.queue
  grown : Grown o s.queue

walk-one : (n : ℕ) → n ≤ contour_limit → (pairs : List ℕ) (done : ℕ → Bool) (x : ℕ) (p : Pair) (rest : List Pair)
    (s : Kahn) → Mid n pairs done x (p ∷ rest) s.waits s.queue →
    Walked n pairs done x rest s.queue (cond (eqb p.before x && both n p) (loosened s p.after) s)
unfolding loosened into v
walk-one n small pairs done x p rest s mid = ⊎_elim
    (λ (t : (eqb p.before x && both n p) ≡ true). rw t (⊎_elim
    (λ (one : get_or s.waits p.after 0 ≡ 1). rw (eq-eqb (get_or s.waits p.after 0) 1 one) (record {
      mid = mid_free n small pairs done x p rest s.waits s.queue mid t one;
      grown = record {
        longer = omega (arith, push_length s.queue p.after);
        kept = push_old s.queue p.after;
      };
    }))
    (λ (d : get_or s.waits p.after 0 ≡ 1 → ⊥). rw (ne_eqb (get_or s.waits p.after 0) 1 d, append-nil s.queue)
    (record {
      mid = mid_still n small pairs done x p rest s.waits s.queue mid t d;
      grown = grown_none s.queue;
    })) (same_or (get_or s.waits p.after 0) 1)))
    (λ (f : (eqb p.before x && both n p) ≡ false). rw f (record {
      mid = mid_pass n small pairs done x p rest s.waits s.queue mid f;
      grown = grown_none s.queue;
    })) (yes_or_no (eqb p.before x && both n p))

walk_all_lem : (n : ℕ) → n ≤ contour_limit → (pairs : List ℕ) (done : ℕ → Bool) (x : ℕ) (rest : List Pair) (s : Kahn) →
    Mid n pairs done x rest s.waits s.queue →
    Walked n pairs done x [] s.queue (released n x rest s)
unfolding released
walk_all_lem n small pairs done x [] s mid = record { mid = mid; grown = grown_none s.queue }
walk_all_lem n small pairs done x (p ∷ rest) s mid =
    let one = walk-one n small pairs done x p rest s mid in
    let all = walk_all_lem n small pairs done x rest (cond (eqb p.before x && both n p) (loosened s p.after) s)
    one.mid in
    record { mid = all.mid; grown = grown_on _ _ _ one.grown all.grown }

-- ---- one position after the other

-- the first i of the order, seen as the queue, are done
record Outer (n : ℕ) (pairs : List ℕ) (i : ℕ) (s : Kahn) : Type 0 where
  within : i ≤ length s.queue
  mid : Mid n pairs (met s.queue i) 0 [] s.waits s.queue

-- with no pairs left to walk it does not matter whose they were
whose : (n : ℕ) (pairs : List ℕ) (done other : ℕ → Bool) (x y : ℕ) (w o : List ℕ) → ((b : ℕ) → done b ≡ other b)
    → Mid n pairs done x [] w o → Mid n pairs other y [] w o
unfolding pair_count
whose n pairs done other x y w o same mid = subst (λ (d : ℕ → Bool). Mid n pairs d y [] w o) (fun_ext same) (record {
  size = mid.size;
  counts = mid.counts;
  listed = mid.listed;
  different = mid.different;
  early = mid.early;
  known = mid.known;
})

take_next : (n : ℕ) (pairs : List ℕ) (i : ℕ) (s : Kahn) → i < length s.queue → Outer n pairs i s →
    Mid n pairs (met s.queue (suc i)) (get_or s.queue i 0) (paired pairs) s.waits s.queue
unfolding pair_count any_below
take_next n pairs i s h outer = record {
  size = outer.mid.size;
  counts = λ a l.
      let e : get_or s.waits a 0 ≡ pair_count (holds n (met s.queue i) a) (paired pairs) + 0 =
      outer.mid.counts a l in
      let f : pair_count (holds n (met s.queue i) a) (paired pairs)
      ≡ pair_count (holds n (met s.queue (suc i)) a) (paired pairs)
      + pair_count (goes n (get_or s.queue i 0) a) (paired pairs) =
      count_split n a (get_or s.queue i 0) (met s.queue i) (met s.queue (suc i))
      (met_not n s.queue (length s.queue) i h outer.mid.different) (λ b. refl) (paired pairs) in
      omega arith;
  listed = outer.mid.listed;
  different = outer.mid.different;
  early = outer.mid.early;
  known = λ b e. let g = met_at s.queue (suc i) b e in (g.0, omega (arith, g.1), g.2);
}

outer_step : (n : ℕ) → n ≤ contour_limit → (pairs : List ℕ) (i : ℕ) (s : Kahn) → i < length s.queue
    → Outer n pairs i s
    → Outer n pairs (suc i) (released n (get_or s.queue i 0) (paired pairs) s)
outer_step n small pairs i s h outer =
    let all = walk_all_lem n small pairs (met s.queue (suc i)) (get_or s.queue i 0) (paired pairs) s
    (take_next n pairs i s h outer) in
    let s' = released n (get_or s.queue i 0) (paired pairs) s in
    record {
      within = omega (arith, all.grown.longer);
      mid = whose n pairs (met s.queue (suc i)) (met s'.queue (suc i)) (get_or s.queue i 0) 0 s'.waits
          s'.queue
          (λ b. met_same s.queue s'.queue (suc i) b (λ q l. sym (all.grown.kept q (omega arith)))) all.mid;
    }

-- all that is in the order is done
record Ended (n : ℕ) (pairs : List ℕ) (end : Kahn) : Type 0 where
  whole : Kahn
  is : end ≡ first_taken (length whole.queue) whole
  outer : Outer n pairs (length whole.queue) whole

ended_at : (n : ℕ) (pairs : List ℕ) (i : ℕ) (s end : Kahn) → i ≡ length s.queue → end ≡ first_taken i s →
    Outer n pairs i s → Ended n pairs end
ended_at n pairs i s end e is outer = record { whole = s; is = rw (← e) is; outer = rw (← e) outer }

outer_all : (n : ℕ) → n ≤ contour_limit → (pairs : List ℕ) (most i : ℕ) (s : Kahn) → contour_limit ≤ most + i →
    Outer n pairs i s →
    Ended n pairs (queue_taken most n (paired pairs) (first_taken i s))
outer_all n small pairs zero i s h outer =
    let few : length s.queue ≤ n = different_few n s.queue (length s.queue) outer.mid.different in
    ended_at n pairs i s _ (omega (arith, outer.within)) (queue_end zero n i (paired pairs) s (omega arith)) outer
outer_all n small pairs (suc most) i s h outer = ⊎_elim
    (λ (l : i < length s.queue). subst (Ended n pairs) (sym (queue_step most n i (paired pairs) s l))
    (outer_all n small pairs most (suc i) (released n (get_or s.queue i 0) (paired pairs) s) (omega arith)
    (outer_step n small pairs i s l outer)))
    (λ (l : length s.queue ≤ i). ended_at n pairs i s _ (omega (arith, outer.within))
    (queue_end (suc most) n i (paired pairs) s l) outer)
    (lt-or i (length s.queue))

-- ---- how it stands at first

tallied-counts : (n : ℕ) → n ≤ contour_limit → (none : ℕ → Bool) → ((b : ℕ) → none b ≡ false) → (a : ℕ) → a < n
    → (ps : List Pair) (w : List ℕ) → length w ≡ contour_limit →
    get_or (tallied n ps w) a 0 ≡ get_or w a 0 + pair_count (holds n none a) ps
unfolding tallied pair_count
tallied-counts n small none no' a h [] w size = omega arith
tallied-counts n small none no' a h (p ∷ ps) w size = ⊎_elim
    (λ (t : both n p ≡ true). rw (t, no' p.before) (
    let low : p.after < n = both_low n p t in
    let rec : get_or (tallied n ps (held_back w p.after)) a 0
    ≡ get_or (held_back w p.after) a 0 + pair_count (holds n none a) ps =
    tallied-counts n small none no' a h ps (held_back w p.after)
    (length-set w p.after (get_or w p.after 0 + 1) ∙ size) in
    ⊎_elim
    (λ (e : p.after ≡ a). let g : get_or (held_back w p.after) a 0 ≡ get_or w a 0 + 1 =
    rw e (get_or-set_same w a (get_or w a 0 + 1) 0 (omega arith)) in rw (eq-eqb p.after a e) (omega arith))
    (λ (d : p.after ≡ a → ⊥). let g : get_or (held_back w p.after) a 0 ≡ get_or w a 0 =
    get_or-set_other w p.after a (get_or w p.after 0 + 1) 0 (λ s. d (sym s)) in rw (ne_eqb p.after a d)
    (omega arith)) (same_or p.after a)))
    (λ (f : both n p ≡ false). rw f (let rec : get_or (tallied n ps w) a 0
    ≡ get_or w a 0 + pair_count (holds n none a) ps = tallied-counts n small none no' a h ps w size in omega arith))
    (yes_or_no (both n p))

outer_first : (n : ℕ) → n ≤ contour_limit → (pairs : List ℕ) → Outer n pairs 0 (untaken n (paired pairs))
unfolding untaken any_below pair_count
outer_first n small pairs = record {
  within = omega arith;
  mid = record {
    size = tallied-length n (paired pairs) (replicate contour_limit 0);
    counts = λ a h. count a h ∙ omega arith;
    listed = λ a h. free.listed a ∙ rw (lt-ltb a n h);
    different = free.different;
    early = early;
    known = λ b e. absurd (true_false e refl);
  };
}
  where
    w : List ℕ
    w = tallied n (paired pairs) (replicate contour_limit 0)

    o : List ℕ
    o = free_below w n

    free : Free w n o
    free = free-first w n

    count : (a : ℕ) → a < n → get_or w a 0 ≡ pair_count (holds n (λ _. false) a) (paired pairs)
    count a h =
        tallied-counts n small (λ _. false) (λ _. refl) a h (paired pairs) (replicate contour_limit 0)
        (length-replicate {A = ℕ} contour_limit 0) ∙ rw (zeros contour_limit a) (omega arith)

    early : (p : ℕ) → p < length o → (b : ℕ) → linked n pairs b (get_or o p 0) ≡ true
        → (q : ℕ) × (q < p) × (get_or o q 0 ≡ b)
    early p h b l = absurd (true_false (all_done n pairs (λ _. false) b a (sym (count a low) ∙ zero') l) refl)
      where
        a : ℕ
        a = get_or o p 0

        low : a < n
        low = free.different.within p h

        zero' : get_or w a 0 ≡ 0
        zero' = eqb-true (get_or w a 0) 0 (and_elim_right (ltb a n) (eqb (get_or w a 0) 0)
            (sym (free.listed a) ∙ met_is o (length o) a p h refl))

-- ---- the whole order

module _ (n : ℕ) (small : n ≤ contour_limit) (pairs : List ℕ) (free : Acyclic n pairs) where
  ended : Ended n pairs (queue_taken contour_limit n (paired pairs) (first_taken 0 (untaken n (paired pairs))))
  ended = outer_all n small pairs contour_limit 0 (untaken n (paired pairs)) (omega arith) (outer_first n small pairs)

  end : Kahn
  end = ended.whole

  whole : Outer n pairs (length end.queue) end
  unfolding end
  whole = ended.outer

  -- a position that is not in the order would wait for one that is not either, and so on without end
  complete : (k : ℕ) → k < n → met end.queue (length end.queue) k ≡ true
  unfolding pair_count
  complete k h = ⊎_elim (λ (t : met end.queue (length end.queue) k ≡ true). t)
      (λ (f : met end.queue (length end.queue) k ≡ false). absurd
      (never (least n (linked n pairs) (linked_within n pairs) free missing k h (rw f))))
      (yes_or_no (met end.queue (length end.queue) k))
    where
      missing : ℕ → Bool
      missing b = not (met end.queue (length end.queue) b)

      never : (m : ℕ) × Least n (linked n pairs) (linked_within n pairs) free missing m → ⊥
      never (m, l) =
          l.none q.0.before low (and_elim_right (eqb q.0.after m) (missing q.0.before)
          (and_elim_right (both n q.0) (eqb q.0.after m && missing q.0.before) q.2))
          (rw same at (linked_pair n pairs q.0.before q.0.after low (rw same l.within) q.1))
        where
          waits : get_or end.waits m 0 ≡ 0 → ⊥
          waits = eqb-false (get_or end.waits m 0) 0
              (sym (whole.mid.listed m l.within) ∙ not-true (met end.queue (length end.queue) m) l.holds)

          q : (p : Pair) × (some_of (is_pair p.before p.after) (paired pairs) ≡ true) ×
              (holds n (met end.queue (length end.queue)) m p ≡ true)
          q = count_some (holds n (met end.queue (length end.queue)) m) (paired pairs)
              (λ e. waits (whole.mid.counts m l.within ∙ rw e (omega arith)))

          low : q.0.before < n
          low = ltb-true q.0.before n (and_elim_left (ltb q.0.before n) (ltb q.0.after n)
              (and_elim_left (both n q.0) (eqb q.0.after m && missing q.0.before) q.2))

          same : q.0.after ≡ m
          same = eqb-true q.0.after m (and_elim_left (eqb q.0.after m) (missing q.0.before)
              (and_elim_right (both n q.0) (eqb q.0.after m && missing q.0.before) q.2))

  full : length end.queue ≡ n
  full = omega (
    arith,
    different_few n end.queue (length end.queue) whole.mid.different,
    all_many n end.queue (length end.queue) complete,
  )

  end_legal : Legal n pairs end.queue
  end_legal = record {
    each = record {
      size = full;
      within = λ p h. whole.mid.different.within p (omega (arith, full));
      once = λ p q h i e. whole.mid.different.once p q (omega (arith, full)) (omega (arith, full)) e;
    };
    before = λ p q h i l.
        let f = whole.mid.early q (omega (arith, full)) (get_or end.queue p 0) l in
        let e : f.0 ≡ p =
        whole.mid.different.once f.0 p (omega (arith, f.1, full)) (omega (arith, full)) f.2 in
        omega (arith, f.1);
  }

  -- the topological order has each position once, and each pair's first before its second
  pub sorted-legal : Legal n pairs (sorted_by n pairs)
  unfolding sorted_by untaken end
  sorted-legal =
      let e : sorted_by n pairs ≡ end.queue =
      ap (λ (s : Kahn). s.taken) ended.is ∙ take_all (length end.queue) end.queue (omega arith) in
      subst (Legal n pairs) (sym e) end_legal

-- ---- the theorems

-- a legal order exists exactly where no position reaches itself
pub legal_exactly : (n : ℕ) → n ≤ contour_limit → (pairs : List ℕ)
    → ((order : List ℕ) × Legal n pairs order) ↔ Acyclic n pairs
legal_exactly n small pairs =
    ((λ some. legal_acyclic n pairs some.0 some.1), (λ free. (sorted_by n pairs, sorted-legal n small pairs free)))

module _ (contours : ℕ) (pairs : List ℕ) (fine : (Ok tt) ≡ pairs_check contours pairs) where
  limit : contours ≤ contour_limit
  limit = (fine_small contours pairs fine).few

  first_on : first_on_cycle contours pairs ≡ lowest (on_cycle contours pairs) contours
  first_on = let e : min contours contour_limit ≡ contours =
      omega (arith, limit) in ap (λ (m : ℕ). lowest (on_cycle m pairs) m) e

  -- where no position reaches itself, the question is answered with a legal order
  pub sort_answers : Acyclic contours pairs
      → (topological_sort contours pairs ≡ Ok (listed contour_limit 0 (sorted_by contours pairs))) × Legal contours pairs
      (sorted_by contours pairs)
  sort_answers free = (
    rw (← fine, first_on, (absent_exactly contours pairs).1 free),
    sorted-legal contours limit pairs free,
  )

  -- where k is the lowest position that reaches itself, it is refused 12 at k
  pub sort_refuses : (k : ℕ) → LowestAt (on_cycle contours pairs) contours k
      → topological_sort contours pairs ≡ Err (record { number = 12; place = k })
  sort_refuses k at = rw (← fine, first_on, at_is (on_cycle contours pairs) contours k at)

  -- refused 12 exactly where there is no legal order
  pub refused_exactly : ((k : ℕ) × (topological_sort contours pairs
      ≡ Err (record { number = 12; place = k }))) ↔ (((order : List ℕ) × Legal contours pairs order) → ⊥)
  refused_exactly = (to, from)
    where
      to : (k : ℕ) × (topological_sort contours pairs ≡ Err (record { number = 12; place = k }))
          → ((order : List ℕ) × Legal contours pairs order) → ⊥
      to (k, e) (order, legal) =
          let f = (sort_answers (legal_acyclic contours pairs order legal)).0 in
          let z : ◌≡◌ {A = ℕ} 0 1 = cc in
          omega arith

      from : (((order : List ℕ) × Legal contours pairs order) → ⊥)
          → (k : ℕ) × (topological_sort contours pairs ≡ Err (record { number = 12; place = k }))
      from none = go (search_through (on_cycle contours pairs) contours)
        where
          go : ((k : ℕ) × LowestAt (on_cycle contours pairs) contours k) ⊎ Nowhere (on_cycle contours pairs) contours
              → (k : ℕ) × (topological_sort contours pairs ≡ Err (record { number = 12; place = k }))
          go (inl (k, at)) = (k, sort_refuses k at)
          go (inr no') =
              absurd (none (
                sorted_by contours pairs,
                sorted-legal contours limit pairs
                    ((absent_exactly contours pairs).0 (absent_is (on_cycle contours pairs) contours no')),
              ))
