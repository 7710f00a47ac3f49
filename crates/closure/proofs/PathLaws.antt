-- `leads` says yes exactly where a path is: links that lead from one position to another; below n, links are the pairs
-- of the list. Assumes nothing.
use Rattle.std.specs.Prelude.{None}
use mathlib.Core.Bool.{Bool, true, false, ◌&&◌, true≢false}
use mathlib.Mathlib.Data.Bool.Basic.{or_inl, or_inr, and_elim_left, and_elim_right, and_intro}
use mathlib.Core.Path.{◌≡◌, refl, sym, ap, ◌∙◌}
use mathlib.Core.Logic.{◌⊎◌, inl, inr, ⊎_elim, ◌↔◌}
use mathlib.Core.List.{List, [], ◌∷◌}
use Prim.Native.Nat.{ℕ, zero, suc, ◌≤◌, ◌<◌}
use native.Mathlib.Nat.{eq-or-lt_of_le, le_of_suc-le-suc, not-suc-le-zero}
use lib.Dec.{eqb, ltb}
use borrow.Author.Tests.{eqb-true, ltb-true}
use Rattle.answer.specs.Lowest.{lowest}
use Rattle.answer.proofs.LowestLaws.{absent_is, is_absent}
use Rattle.answer.proofs.Truth.{or_cases, yes_or_no, true_false}
use Rattle.closure.specs.Limits.{contour_limit}
use Rattle.closure.specs.Flags.{flag, Noted, Says}
use Rattle.closure.proofs.FlagLaws.{unset, closed_leads, linked_is}
use Rattle.closure.specs.Pairs.{Pair, paired, every, some_of, is_pair}
use Rattle.closure.proofs.PairLaws.{is_pair_lem}
use Rattle.closure.specs.Cycle.{linked, Reaches, step, onward, leads, on_cycle, Acyclic}

-- ---- paths

pub reaches-on : {link : ℕ → ℕ → Bool} {i m j : ℕ} → Reaches link i m → Reaches link m j → Reaches link i j
reaches-on (step e) r = onward e r
reaches-on (onward e q) r = onward e (reaches-on q r)

-- what leads says yes to has a path
pub leads_reaches : (link : ℕ → ℕ → Bool) (k i j : ℕ) → leads link k i j ≡ true → Reaches link i j
unfolding leads
leads_reaches link zero i j e = step e
leads_reaches link (suc k) i j e =
    go (or_cases (leads link k i j) (leads link k i k && leads link k k j) e) (leads_reaches link k i j)
    (leads_reaches link k i k) (leads_reaches link k k j)
  where
    go : (leads link k i j ≡ true) ⊎ ((leads link k i k && leads link k k j) ≡ true)
        → (leads link k i j ≡ true → Reaches link i j) → (leads link k i k ≡ true → Reaches link i k)
        → (leads link k k j ≡ true → Reaches link k j) → Reaches link i j
    go (inl p) direct to from = direct p
    go (inr q) direct to from =
        reaches-on (to (and_elim_left (leads link k i k) (leads link k k j) q))
        (from (and_elim_right (leads link k i k) (leads link k k j) q))

-- a way through fewer positions is a way through more
leads_grows : (link : ℕ → ℕ → Bool) (k i j : ℕ) → leads link k i j ≡ true → leads link (suc k) i j ≡ true
unfolding leads
leads_grows link k i j e = or_inl (leads link k i j) (leads link k i k && leads link k k j) e

leads_link : (link : ℕ → ℕ → Bool) (k i j : ℕ) → link i j ≡ true → leads link k i j ≡ true
unfolding leads
leads_link link zero i j e = e
leads_link link (suc k) i j e = leads_grows link k i j (leads_link link k i j e)

-- to k itself, or from it, k is no help on the way
leads_to : (link : ℕ → ℕ → Bool) (k i : ℕ) → leads link (suc k) i k ≡ true → leads link k i k ≡ true
unfolding leads
leads_to link k i e =
    ⊎_elim (λ (p : leads link k i k ≡ true). p) (λ (q : (leads link k i k && leads link k k k) ≡ true). and_elim_left
    (leads link k i k) (leads link k k k) q) (or_cases (leads link k i k) (leads link k i k && leads link k k k) e)

leads_from : (link : ℕ → ℕ → Bool) (k j : ℕ) → leads link (suc k) k j ≡ true → leads link k k j ≡ true
unfolding leads
leads_from link k j e =
    ⊎_elim (λ (p : leads link k k j ≡ true). p) (λ (q : (leads link k k k && leads link k k j) ≡ true). and_elim_right
    (leads link k k k) (leads link k k j) q) (or_cases (leads link k k j) (leads link k k k && leads link k k j) e)

through : (link : ℕ → ℕ → Bool) (k i j : ℕ) → leads link k i k ≡ true → leads link k k j ≡ true
    → leads link (suc k) i j ≡ true
unfolding leads
through link k i j p q =
    or_inr (leads link k i j) (leads link k i k && leads link k k j)
    (and_intro {a = leads link k i k} {b = leads link k k j} p q)

-- a way through positions up to k goes round k or by way of it
abbrev Ways : (ℕ → ℕ → Bool) → ℕ → ℕ → ℕ → Type 0
Ways link k a b = (leads link k a b ≡ true) ⊎ ((leads link k a k && leads link k k b) ≡ true)

ways : (link : ℕ → ℕ → Bool) (k a b : ℕ) → leads link (suc k) a b ≡ true → Ways link k a b
unfolding leads
ways link k a b e = or_cases (leads link k a b) (leads link k a k && leads link k k b) e

-- what is reached by way of a position below k is reached
pub leads-on : (link : ℕ → ℕ → Bool) (k i m j : ℕ) → m < k → leads link k i m ≡ true → leads link k m j ≡ true
    → leads link k i j ≡ true
leads-on link zero i m j h p q = absurd (not-suc-le-zero h)
leads-on link (suc k) i m j h p q = go (eq-or-lt_of_le (le_of_suc-le-suc h)) (leads-on link k)
  where
    parts : (rec : (i m j : ℕ) → m < k → leads link k i m ≡ true → leads link k m j ≡ true → leads link k i j ≡ true)
        → m < k → Ways link k i m → Ways link k m j → leads link (suc k) i j ≡ true
    parts rec l (inl a) (inl b) = leads_grows link k i j (rec i m j l a b)
    parts rec l (inl a) (inr b) =
        through link k i j (rec i m k l a (and_elim_left (leads link k m k) (leads link k k j) b))
        (and_elim_right (leads link k m k) (leads link k k j) b)
    parts rec l (inr a) (inl b) =
        through link k i j (and_elim_left (leads link k i k) (leads link k k m) a)
        (rec k m j l (and_elim_right (leads link k i k) (leads link k k m) a) b)
    parts rec l (inr a) (inr b) =
        through link k i j (and_elim_left (leads link k i k) (leads link k k m) a)
        (and_elim_right (leads link k m k) (leads link k k j) b)

    go : (m ≡ k) ⊎ (m < k)
        → ((i m j : ℕ) → m < k → leads link k i m ≡ true → leads link k m j ≡ true → leads link k i j ≡ true)
        → leads link (suc k) i j ≡ true
    go (inl e) rec = through link k i j (leads_to link k i (rw e at p)) (leads_from link k j (rw e at q))
    go (inr l) rec = parts rec l (ways link k i m p) (ways link k m j q)

-- links lead to positions below n only
abbrev pub Within : ℕ → (ℕ → ℕ → Bool) → Type 0
Within n link = (i j : ℕ) → link i j ≡ true → (i < n) × (j < n)

-- where there is a path, leads says yes
pub reaches-leads : (n : ℕ) (link : ℕ → ℕ → Bool) → Within n link → {i j : ℕ} → Reaches link i j
    → leads link n i j ≡ true
reaches-leads n link low (step {i} {j} e) = leads_link link n i j e
reaches-leads n link low (onward {i} {m} {j} e r) =
    leads-on link n i m j (low i m e).1 (leads_link link n i m e) (reaches-leads n link low r)

pub linked_within : (n : ℕ) (pairs : List ℕ) → Within n (linked n pairs)
unfolding linked
linked_within n pairs i j e = (
  ltb-true i n (and_elim_left (ltb i n) (ltb j n && some_of (is_pair i j) (paired pairs)) e),
  ltb-true j n
      (and_elim_left (ltb j n) (some_of (is_pair i j) (paired pairs))
      (and_elim_right (ltb i n) (ltb j n && some_of (is_pair i j) (paired pairs)) e)),
)

-- ---- the cycle question

-- a position is on a cycle exactly where pairs lead from it back to it
pub cycle_exactly : (n : ℕ) (pairs : List ℕ) (i : ℕ) → (on_cycle n pairs i ≡ true) ↔ Reaches (linked n pairs) i i
cycle_exactly n pairs i =
    (leads_reaches (linked n pairs) n i i, reaches-leads n (linked n pairs) (linked_within n pairs))

-- none is found exactly where no position reaches itself
pub absent_exactly : (n : ℕ) (pairs : List ℕ) → (lowest (on_cycle n pairs) n ≡ None) ↔ Acyclic n pairs
absent_exactly n pairs = (
  (λ e i h r. true_false (reaches-leads n (linked n pairs) (linked_within n pairs) r)
      (is_absent (on_cycle n pairs) n e i h)),
  (λ free. absent_is (on_cycle n pairs) n
      (λ i h. ⊎_elim (λ (t : on_cycle n pairs i ≡ true). absurd (free i h (leads_reaches (linked n pairs) n i i t)))
      (λ (f : on_cycle n pairs i ≡ false). f) (yes_or_no (on_cycle n pairs i)))),
)

-- in the closed table the flag of i and j says yes exactly where pairs lead from i to j
pub flags_exactly : (n : ℕ) (pairs : List ℕ) (f g : List (List Bool)) → n ≤ contour_limit
    → Noted n (paired pairs) unset f → Says n (leads (flag f) n) g →
    (i j : ℕ) → i < n → j < n → (flag g i j ≡ true) ↔ Reaches (linked n pairs) i j
flags_exactly n pairs f g small noted says i j h l =
    let e : flag g i j ≡ leads (linked n pairs) n i j = closed_leads n pairs f g small noted says i j h l in (
      (λ t. leads_reaches (linked n pairs) n i j (sym e ∙ t)),
      (λ r. e ∙ reaches-leads n (linked n pairs) (linked_within n pairs) r),
    )

-- ---- every pair of a list, one by one

-- what holds of each pair of the list holds of all
pub every_is : (test : Pair → Bool) (ps : List Pair)
    → ((b a : ℕ) → some_of (is_pair b a) ps ≡ true → test (record { before = b; after = a }) ≡ true)
    → every test ps ≡ true
unfolding every some_of
every_is test [] h = refl
every_is test (p ∷ more) h = and_intro {a = test p} {b = every test more}
    (h p.before p.after
    (or_inl (is_pair p.before p.after p) (some_of (is_pair p.before p.after) more)
    (is_pair_lem p.before p.after p.before p.after refl refl)))
    (every_is test more (λ b a t. h b a (or_inr (is_pair b a p) (some_of (is_pair b a) more) t)))

-- and what holds of all holds of each
pub every-at : (test : Pair → Bool) (ps : List Pair) (b a : ℕ) → every test ps ≡ true → some_of (is_pair b a) ps ≡ true
    → test (record { before = b; after = a }) ≡ true
unfolding every some_of
every-at test [] b a e t = absurd (true≢false (sym t))
every-at test (p ∷ more) b a e t =
    go (or_cases (is_pair b a p) (some_of (is_pair b a) more) t)
    (every-at test more b a (and_elim_right (test p) (every test more) e))
  where
    go : (is_pair b a p ≡ true) ⊎ (some_of (is_pair b a) more ≡ true)
        → (some_of (is_pair b a) more ≡ true → test (record { before = b; after = a }) ≡ true)
        → test (record { before = b; after = a }) ≡ true
    go (inl i) rec =
        let x : p.before ≡ b = eqb-true p.before b (and_elim_left (eqb p.before b) (eqb p.after a) i) in
        let y : p.after ≡ a = eqb-true p.after a (and_elim_right (eqb p.before b) (eqb p.after a) i) in
        let q : p ≡ record { before = b; after = a } = λ j. record { before = x j; after = y j } in
        ap test (sym q) ∙ and_elim_left (test p) (every test more) e
    go (inr s) rec = rec s

-- below n a pair of the list is a link
pub linked_pair : (n : ℕ) (pairs : List ℕ) (b a : ℕ) → b < n → a < n → some_of (is_pair b a) (paired pairs) ≡ true
    → linked n pairs b a ≡ true
linked_pair n pairs b a hb ha t = linked_is n pairs b a hb ha ∙ t

-- and a link a pair
pub pair_linked : (n : ℕ) (pairs : List ℕ) (b a : ℕ) → linked n pairs b a ≡ true
    → some_of (is_pair b a) (paired pairs) ≡ true
pair_linked n pairs b a t = let h = linked_within n pairs b a t in sym (linked_is n pairs b a h.0 h.1) ∙ t
