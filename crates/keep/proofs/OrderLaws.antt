-- Legal orders: none where a position reaches itself, one is always ready where none does, and `keeps_pairs` says yes
-- exactly to them. Assumes nothing.
use mathlib.Core.Bool.{Bool, true, false, not, ◌||◌, or-true}
use mathlib.Mathlib.Data.Bool.Basic.{dichotomy, or_inr, and_elim_left}
use mathlib.Core.Path.{◌≡◌, refl, sym, ap, ◌∙◌}
use mathlib.Core.Logic.{⊎_elim, ◌↔◌}
use mathlib.Core.List.{List, [], ◌∷◌}
use Prim.Native.Nat.{ℕ, zero, suc, ◌≤◌, ◌<◌}
use native.Mathlib.Nat.{not-suc-le-zero, le_of_suc-le-suc, zero-lt-suc}
use Prim.Native.Nat.{suc-le-suc}
use native.Mathlib.Omega.{arith}
use lib.Dec.{eqb, ltb}
use borrow.Author.Tests.{eq-eqb, ne_eqb, eqb-true, lt-ltb, ltb-true}
use lib.ListN.{length, get_or}
use Rattle.closure.specs.Pairs.{paired, every, some_of, is_pair, both}
use Rattle.closure.specs.Cycle.{linked, Reaches, step, onward, Acyclic}
use Rattle.closure.proofs.PairLaws.{same_or, lt-or}
use Rattle.closure.proofs.PathLaws.{linked_within, every_is, every-at, linked_pair}
use Rattle.closure.proofs.PathLaws.{pair_linked}
use Rattle.keep.specs.Keep.{last_rank, kept_at, kept_in, keeps_pairs, ready_by, ready_in}
use Rattle.keep.specs.Legal.{EachOnce, Legal}
use Rattle.closure.proofs.CountLaws.{Least, least, met_at, Different, different_all}

-- ---- each position once

pub each_different : (n : ℕ) (order : List ℕ) → EachOnce n order → Different n order n
each_different n order each = record { within = each.within; once = each.once }

-- every position has its place
pub position_of_lem : (n : ℕ) (order : List ℕ) → EachOnce n order → (k : ℕ) → k < n →
    (p : ℕ) × (p < n) × (get_or order p 0 ≡ k)
position_of_lem n order each k h = met_at order n k (different_all n order (each_different n order each) k h)

-- ---- a legal order leaves no cycle

path_forward : (n : ℕ) (pairs order : List ℕ) → Legal n pairs order → {i j : ℕ} → Reaches (linked n pairs) i j →
    (p q : ℕ) → p < n → q < n → get_or order p 0 ≡ i → get_or order q 0 ≡ j → p < q
path_forward n pairs order legal (step {i} {j} e) p q hp hq x y = legal.before p q hp hq (rw (x, y) e)
path_forward n pairs order legal (onward {i} {m} {j} e r) p q hp hq x y =
    let f = position_of_lem n order legal.each m (linked_within n pairs i m e).1 in
    let a : p < f.0 = legal.before p f.0 hp f.1 (rw (x, f.2) e) in
    let b : f.0 < q = path_forward n pairs order legal r f.0 q f.1 hq f.2 y in
    omega arith

pub legal_acyclic : (n : ℕ) (pairs order : List ℕ) → Legal n pairs order → Acyclic n pairs
legal_acyclic n pairs order legal i h r =
    let f = position_of_lem n order legal.each i h in
    let l : f.0 < f.0 = path_forward n pairs order legal r f.0 f.0 f.1 f.1 f.2 f.2 in
    omega arith

-- ---- where nothing reaches itself, one of the positions not yet visited is ready

-- a position that is not visited, and is ready
pub record ReadyNext (n : ℕ) (visited pairs : List ℕ) (k : ℕ) : Type 0 where
  pub within : k < n
  pub unvisited : get_or visited k 0 ≡ 0
  pub ready : ready_in visited pairs k ≡ true

pub one_ready : (n : ℕ) (visited pairs : List ℕ) → Acyclic n pairs → every (both n) (paired pairs) ≡ true → (k : ℕ)
    → k < n → get_or visited k 0 ≡ 0 → (m : ℕ) × ReadyNext n visited pairs m
unfolding ready_in ready_by
one_ready n visited pairs free low k h e =
    go (least n (linked n pairs) (linked_within n pairs) free waiting k h (eq-eqb (get_or visited k 0) 0 e))
  where
    waiting : ℕ → Bool
    waiting b = eqb (get_or visited b 0) 0

    go : (m : ℕ) × Least n (linked n pairs) (linked_within n pairs) free waiting m
        → (m : ℕ) × ReadyNext n visited pairs m
    go (m, l) = (
      m,
      record {
        within = l.within;
        unvisited = eqb-true (get_or visited m 0) 0 l.holds;
        ready = every_is (ready_by visited m) (paired pairs) test;
      },
    )
      where
        test : (b a : ℕ) → some_of (is_pair b a) (paired pairs) ≡ true
            → ready_by visited m (record { before = b; after = a }) ≡ true
        test b a t = ⊎_elim
            (λ (x : a ≡ m). ⊎_elim
            (λ (y : waiting b ≡ false). rw (y) (or-true (not (eqb a m))))
            (λ (y : waiting b ≡ true). absurd (l.none b below y
            (linked_pair n pairs b m below l.within (rw x at t)))) (dichotomy (waiting b)))
            (λ (d : a ≡ m → ⊥). rw (ne_eqb a m d)) (same_or a m)
          where
            below : b < n
            below = ltb-true b n (and_elim_left (ltb b n) (ltb a n) (every-at (both n) (paired pairs) b a low t))

-- ---- the last rank of an id

-- what is not in the order has no last rank
pub last_none : (order : List ℕ) (x : ℕ) → ((q : ℕ) → q < length order → get_or order q 0 ≡ x → ⊥) → last_rank order x ≡ 0
unfolding last_rank
last_none [] x h = refl
last_none (y ∷ l) x h = rw (last_none l x (λ q i. h (suc q) (suc-le-suc i)), ne_eqb y x (h 0 (zero-lt-suc (length l))))

-- the last rank is one at which the id stands, and after which it does not
pub last_at : (order : List ℕ) (x p : ℕ) → p < length order → get_or order p 0 ≡ x →
    ((q : ℕ) → p < q → q < length order → get_or order q 0 ≡ x → ⊥) → last_rank order x ≡ suc p
unfolding last_rank
last_at [] x p h e later = absurd (not-suc-le-zero h)
last_at (y ∷ l) x zero h e later =
    rw (last_none l x (λ q i. later (suc q) (zero-lt-suc q) (suc-le-suc i)), eq-eqb y x e)
last_at (y ∷ l) x (suc p) h e later =
    let e' : last_rank l x ≡ suc p =
    last_at l x p (le_of_suc-le-suc h) e (λ q i j. later (suc q) (suc-le-suc i) (suc-le-suc j)) in
    rw (e', lt-ltb 0 (suc p) (zero-lt-suc p))

-- ---- each position once: its last rank is its rank

module _ (n : ℕ) (order : List ℕ) (each : EachOnce n order) where
  pub rank_last : (p : ℕ) → p < n → last_rank order (get_or order p 0) ≡ suc p
  rank_last p h = last_at order (get_or order p 0) p (omega (arith, each.size)) refl
      (λ q i j e. let s : p ≡ q = each.once p q h (omega (arith, each.size)) (sym e) in omega arith)

  pub rank_none : (x : ℕ) → n ≤ x → last_rank order x ≡ 0
  rank_none x h = last_none order x
      (λ q i e. let l : get_or order q 0 < n = each.within q (omega (arith, each.size)) in omega arith)

  -- an order of each position once is legal exactly where it keeps the pairs
  pub keeps_legal : (pairs : List ℕ) → keeps_pairs order pairs ≡ true → Legal n pairs order
  unfolding keeps_pairs kept_in
  keeps_legal pairs e =
      record {
        each = each;
        before =
            λ p q hp hq t. first p q hp hq (every-at (kept_in order) (paired pairs) (get_or order p 0) (get_or order q 0) e
            (pair_linked n pairs (get_or order p 0) (get_or order q 0) t));
      }
    where
      first : (p q : ℕ) → p < n → q < n →
          kept_at (last_rank order (get_or order p 0)) (last_rank order (get_or order q 0)) ≡ true → p < q
      first p q hp hq t =
          let k : kept_at (suc p) (suc q) ≡ true = rw (rank_last p hp, rank_last q hq) at t in
          let l : ltb (suc p) (suc q) ≡ true =
          rw (ne_eqb (suc p) 0 (omega arith), ne_eqb (suc q) 0 (omega arith)) at k in
          omega (arith, ltb-true (suc p) (suc q) l)

  pub legal_keeps : (pairs : List ℕ) → Legal n pairs order → keeps_pairs order pairs ≡ true
  unfolding keeps_pairs kept_in
  legal_keeps pairs legal = every_is (kept_in order) (paired pairs) test
    where
      test : (b a : ℕ) → some_of (is_pair b a) (paired pairs) ≡ true → kept_at (last_rank order b) (last_rank order a) ≡ true
      test b a t = ⊎_elim
          (λ (hb : b < n). ⊎_elim (λ (ha : a < n). inside hb ha)
          (λ (ha : n ≤ a). rw (rank_none a ha) (or-true (eqb (last_rank order b) 0))) (lt-or a n))
          (λ (hb : n ≤ b). rw (rank_none b hb)) (lt-or b n)
        where
          inside : b < n → a < n → kept_at (last_rank order b) (last_rank order a) ≡ true
          inside hb ha =
              let f = position_of_lem n order each b hb in
              let g = position_of_lem n order each a ha in
              let l : f.0 < g.0 =
              legal.before f.0 g.0 f.1 g.1 (rw (f.2, g.2) (linked_pair n pairs b a hb ha t)) in
              let x : last_rank order b ≡ suc f.0 = ap (last_rank order) (sym f.2) ∙ rank_last f.0 f.1 in
              let y : last_rank order a ≡ suc g.0 = ap (last_rank order) (sym g.2) ∙ rank_last g.0 g.1 in
              rw (x, y) (or_inr (eqb (suc f.0) 0) (eqb (suc g.0) 0 || ltb (suc f.0) (suc g.0))
              (or_inr (eqb (suc g.0) 0) (ltb (suc f.0) (suc g.0))
              (lt-ltb (suc f.0) (suc g.0) (omega arith))))

  pub keeps_exactly : (pairs : List ℕ) → (keeps_pairs order pairs ≡ true) ↔ Legal n pairs order
  keeps_exactly pairs = (keeps_legal pairs, legal_keeps pairs)
