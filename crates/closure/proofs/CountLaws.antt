-- Counting positions: a descent ends, and n different positions below n are all of them. Assumes nothing.
use mathlib.Core.Bool.{Bool, true, false, cond, ◌&&◌, ◌||◌, true≢false}
use mathlib.Mathlib.Data.Bool.Basic.{or_inl, or_inr, and_elim_left, and_elim_right, and_intro}
use mathlib.Core.Path.{◌≡◌, refl, sym, ap, ◌∙◌}
use mathlib.Core.Logic.{◌⊎◌, inl, inr, ⊎_elim}
use mathlib.Core.List.{List}
use Prim.Native.Nat.{ℕ, zero, suc, ◌+◌, ◌≤◌, ◌<◌}
use native.Mathlib.Nat.{eq-or-lt_of_le, le_of_suc-le-suc, not-suc-le-zero}
use native.Mathlib.Omega.{arith}
use lib.Dec.{eqb}
use borrow.Author.Tests.{eq-eqb, ne_eqb, eqb-true}
use lib.ListN.{get_or}
use Rattle.answer.proofs.LowestLaws.{LowestAt, Nowhere, search_through}
use Rattle.answer.proofs.Truth.{or_cases, yes_or_no, true_false}
use Rattle.closure.specs.Cycle.{Reaches, step, leads}
use Rattle.closure.proofs.PairLaws.{same_or}
use Rattle.closure.proofs.PathLaws.{leads-on, leads_reaches, reaches-leads, Within}

-- how many places below n pass the test
bit : Bool → ℕ
bit b = cond b 1 0

pub count : (ℕ → Bool) → ℕ → ℕ
count test zero = 0
count test (suc n) = count test n + bit (test n)

bit_le : (b : Bool) → bit b ≤ 1
unfolding bit
bit_le true = omega arith
bit_le false = omega arith

bit_grows : (a b : Bool) → (a ≡ true → b ≡ true) → bit a ≤ bit b
unfolding bit
bit_grows true b h = rw (h refl) (omega arith)
bit_grows false b h = omega arith

pub count_le : (test : ℕ → Bool) (n : ℕ) → count test n ≤ n
unfolding count
count_le test zero = omega arith
count_le test (suc n) = omega (arith, count_le test n, bit_le (test n))

pub count_grows : (test other : ℕ → Bool) (n : ℕ) → ((j : ℕ) → j < n → test j ≡ true → other j ≡ true)
    → count test n ≤ count other n
unfolding count
count_grows test other zero h = omega arith
count_grows test other (suc n) h =
    omega (arith, count_grows test other n (λ j l. h j (omega arith)), bit_grows (test n) (other n) (h n (omega arith)))

-- one more passes the other test
pub count_more : (test other : ℕ → Bool) (n k : ℕ) → ((j : ℕ) → j < n → test j ≡ true → other j ≡ true) → k < n
    → test k ≡ false → other k ≡ true → count test n < count other n
unfolding count bit
count_more test other zero k h l f t = absurd (not-suc-le-zero l)
count_more test other (suc n) k h l f t =
    go (eq-or-lt_of_le (le_of_suc-le-suc l)) (count_more test other n k (λ j m. h j (omega arith)))
  where
    go : (k ≡ n) ⊎ (k < n) → (k < n → test k ≡ false → other k ≡ true → count test n < count other n)
        → count test n + bit (test n) < count other n + bit (other n)
    go (inl e) rec =
        rw (ap test (sym e) ∙ f, ap other (sym e) ∙ t)
        (omega (arith, count_grows test other n (λ j m. h j (omega arith))))
    go (inr m) rec = omega (arith, rec m f t, bit_grows (test n) (other n) (h n (omega arith)))

-- ---- a descent ends

module _ (n : ℕ) (link : ℕ → ℕ → Bool) (low : Within n link) (free : (i : ℕ) → i < n → Reaches link i i → ⊥)
    (P : ℕ → Bool) where
  -- a position that passes, and no position linked to it does
  pub record Least (k : ℕ) : Type 0 where
    pub within : k < n
    pub holds : P k ≡ true
    pub none : (b : ℕ) → b < n → P b ≡ true → link b k ≡ true → ⊥

  -- how many positions lead to k
  rank : ℕ → ℕ
  rank k = count (λ j. leads link n j k) n

  rank_falls : (b k : ℕ) → b < n → k < n → link b k ≡ true → rank b < rank k
  unfolding rank
  rank_falls b k hb hk e = count_more (λ j. leads link n j b) (λ j. leads link n j k) n b
      (λ j h t. leads-on link n j b k hb t (reaches-leads n link low (step e)))
      hb
      (⊎_elim (λ (t : leads link n b b ≡ true). absurd (free b hb (leads_reaches link n b b t)))
      (λ (f : leads link n b b ≡ false). f) (yes_or_no (leads link n b b)))
      (reaches-leads n link low (step e))

  descend : (most k : ℕ) → rank k < most → k < n → P k ≡ true → (m : ℕ) × Least m
  descend zero k h l t = absurd (not-suc-le-zero h)
  descend (suc most) k h l t = go (descend most) (search_through (λ b. P b && link b k) n)
    where
      go : ((k : ℕ) → rank k < most → k < n → P k ≡ true → (m : ℕ) × Least m)
          → ((b : ℕ) × LowestAt (λ b. P b && link b k) n b) ⊎ Nowhere (λ b. P b && link b k) n → (m : ℕ) × Least m
      go rec (inl (b, w)) =
          rec b (omega (arith, rank_falls b k w.within l (and_elim_right (P b) (link b k) w.holds))) w.within
          (and_elim_left (P b) (link b k) w.holds)
      go rec (inr none) = (
        k,
        record {
          within = l;
          holds = t;
          none = λ b hb p e. true_false (and_intro {a = P b} {b = link b k} p e) (none b hb);
        },
      )

  -- where some position passes, some passing position has none before it that passes
  pub least : (k : ℕ) → k < n → P k ≡ true → (m : ℕ) × Least m
  least k h t = descend (suc (rank k)) k (omega arith) h t

-- ---- n different positions below n are all of them

-- some place below m passes the test
unfoldable pub any_below : (ℕ → Bool) → ℕ → Bool
any_below test zero = false
any_below test (suc m) = any_below test m || test m

pub any_is : (test : ℕ → Bool) (m p : ℕ) → p < m → test p ≡ true → any_below test m ≡ true
unfolding any_below
any_is test zero p h t = absurd (not-suc-le-zero h)
any_is test (suc m) p h t = go (eq-or-lt_of_le (le_of_suc-le-suc h)) (any_is test m p)
  where
    go : (p ≡ m) ⊎ (p < m) → (p < m → test p ≡ true → any_below test m ≡ true) → (any_below test m || test m) ≡ true
    go (inl e) rec = or_inr (any_below test m) (test m) (ap test (sym e) ∙ t)
    go (inr l) rec = or_inl (any_below test m) (test m) (rec l t)

pub any_at : (test : ℕ → Bool) (m : ℕ) → any_below test m ≡ true → (p : ℕ) × (p < m) × (test p ≡ true)
unfolding any_below
any_at test zero e = absurd (true≢false (sym e))
any_at test (suc m) e = go (or_cases (any_below test m) (test m) e) (any_at test m)
  where
    go : (any_below test m ≡ true) ⊎ (test m ≡ true) → (any_below test m ≡ true → (p : ℕ) × (p < m) × (test p ≡ true))
        → (p : ℕ) × (p < suc m) × (test p ≡ true)
    go (inl a) rec = let f = rec a in (f.0, omega (arith, f.1), f.2)
    go (inr t) rec = (m, omega arith, t)

-- x is among the first m of the list
abbrev pub met : List ℕ → ℕ → ℕ → Bool
met l m x = any_below (λ p. eqb (get_or l p 0) x) m

pub met_is : (l : List ℕ) (m x p : ℕ) → p < m → get_or l p 0 ≡ x → met l m x ≡ true
met_is l m x p h e = any_is (λ q. eqb (get_or l q 0) x) m p h (eq-eqb (get_or l p 0) x e)

pub met_at : (l : List ℕ) (m x : ℕ) → met l m x ≡ true → (p : ℕ) × (p < m) × (get_or l p 0 ≡ x)
met_at l m x e = let f = any_at (λ q. eqb (get_or l q 0) x) m e in (f.0, f.1, eqb-true (get_or l f.0 0) x f.2)

-- the first m of the list are different positions below n
pub record Different (n : ℕ) (l : List ℕ) (m : ℕ) : Type 0 where
  pub within : (p : ℕ) → p < m → get_or l p 0 < n
  pub once : (p q : ℕ) → p < m → q < m → get_or l p 0 ≡ get_or l q 0 → p ≡ q

pub fewer : (n : ℕ) (l : List ℕ) (m k : ℕ) → k ≤ m → Different n l m → Different n l k
fewer n l m k h d =
    record { within = λ p i. d.within p (omega arith); once = λ p q i j e. d.once p q (omega arith) (omega arith) e }

-- the next of different positions has not been met
pub met_not : (n : ℕ) (l : List ℕ) (m k : ℕ) → k < m → Different n l m → met l k (get_or l k 0) ≡ false
met_not n l m k h d = ⊎_elim
    (λ (t : met l k (get_or l k 0) ≡ true). let f = met_at l k (get_or l k 0) t in let e : f.0 ≡ k =
    d.once f.0 k (omega (arith, f.1)) h f.2 in absurd (omega (arith, f.1)))
    (λ (f : met l k (get_or l k 0) ≡ false). f) (yes_or_no (met l k (get_or l k 0)))

different_count : (n : ℕ) (l : List ℕ) (m : ℕ) → Different n l m → m ≤ count (met l m) n
different_count n l zero d = omega arith
different_count n l (suc m) d =
    let rec : m ≤ count (met l m) n = different_count n l m (fewer n l (suc m) m (omega arith) d) in
    omega (
      arith,
      count_more (met l m) (met l (suc m)) n (get_or l m 0)
          (λ j h t. let f = met_at l m j t in met_is l (suc m) j f.0 (omega (arith, f.1)) f.2)
          (d.within m (omega arith)) (met_not n l (suc m) m (omega arith) d)
          (met_is l (suc m) (get_or l m 0) m (omega arith) refl),
    )

-- there are at most n of them
pub different_few : (n : ℕ) (l : List ℕ) (m : ℕ) → Different n l m → m ≤ n
different_few n l m d = omega (arith, different_count n l m d, count_le (met l m) n)

-- n of them are all
pub different_all : (n : ℕ) (l : List ℕ) → Different n l n → (k : ℕ) → k < n → met l n k ≡ true
different_all n l d k h = ⊎_elim
    (λ (t : met l n k ≡ true). t)
    (λ (f : met l n k ≡ false). absurd (let m : count (met l n) n < count (λ _. true) n =
    count_more (met l n) (λ _. true) n k (λ j i t. refl) h f refl in omega
    (arith, different_count n l n d, count_le (λ _. true) n)))
    (yes_or_no (met l n k))

-- ---- a list that has all n positions has at least n entries

bit_or : (a b : Bool) → bit (a || b) ≤ bit a + bit b
unfolding bit
bit_or true b = omega arith
bit_or false b = omega arith

count_or_lem : (test other : ℕ → Bool) (n : ℕ) → count (λ j. test j || other j) n ≤ count test n + count other n
unfolding count
count_or_lem test other zero = omega arith
count_or_lem test other (suc n) = omega (arith, count_or_lem test other n, bit_or (test n) (other n))

count_none : (x n : ℕ) → n ≤ x → count (λ j. eqb x j) n ≡ 0
unfolding count bit
count_none x zero h = refl
count_none x (suc n) h = rw (count_none x n (omega arith), ne_eqb x n (omega arith)) (omega arith)

count_one : (x n : ℕ) → count (λ j. eqb x j) n ≤ 1
unfolding count bit
count_one x zero = omega arith
count_one x (suc n) = ⊎_elim
    (λ (e : x ≡ n). rw (count_none x n (omega arith)) (omega (arith, bit_le (eqb x n))))
    (λ (d : x ≡ n → ⊥). rw (ne_eqb x n d) (omega (arith, count_one x n))) (same_or x n)

count_false : (n : ℕ) → count (λ _. false) n ≤ 0
unfolding count bit
count_false zero = omega arith
count_false (suc n) = omega (arith, count_false n)

count_met : (l : List ℕ) (m n : ℕ) → count (met l m) n ≤ m
unfolding any_below
count_met l zero n = count_false n
count_met l (suc m) n =
    omega (arith, count_or_lem (met l m) (λ j. eqb (get_or l m 0) j) n, count_met l m n, count_one (get_or l m 0) n)

count_all : (test : ℕ → Bool) (n : ℕ) → ((j : ℕ) → j < n → test j ≡ true) → n ≤ count test n
unfolding count bit
count_all test zero h = omega arith
count_all test (suc n) h = rw (h n (omega arith)) (omega (arith, count_all test n (λ j l. h j (omega arith))))

pub all_many : (n : ℕ) (l : List ℕ) (m : ℕ) → ((k : ℕ) → k < n → met l m k ≡ true) → n ≤ m
all_many n l m h = omega (arith, count_all (met l m) n h, count_met l m n)
