-- When and where `lowest` finds something: exactly the lowest place below n at which the test holds. Assumes nothing.
use Rattle.std.specs.Prelude.{None, Some, MatchOption, ◌≤◌}
use mathlib.Core.Path.{◌≡◌, refl, sym, ap, ◌∙◌, subst}
use mathlib.Core.Logic.{◌⊎◌, inl, inr, ⊎_elim}
use mathlib.Core.Bool.{Bool, true, false}
use Prim.Native.Nat.{ℕ, zero, suc, ◌+◌, ◌<◌}
use native.Mathlib.Nat.{add-zero, zero-add, add-suc, suc-add, zero-lt-suc, not-suc-le-zero, le_of_suc-le-suc}
use native.Mathlib.Omega.{arith}
use Rattle.answer.specs.Answer.{Found}
use Rattle.answer.specs.Lowest.{lowest_from, lowest}

-- k is the lowest place below n at which the test holds
pub record LowestAt (test : ℕ → Bool) (n k : ℕ) : Type 0 where
  pub within : k < n
  pub holds : test k ≡ true
  pub before : (j : ℕ) → j < k → test j ≡ false

-- the test holds at no place below n
abbrev pub Nowhere : (ℕ → Bool) → ℕ → Type 0
Nowhere test n = (j : ℕ) → j < n → test j ≡ false

from_at : (test : ℕ → Bool) (k n j : ℕ) → j < n → test (k + j) ≡ true → ((i : ℕ) → i < j → test (k + i) ≡ false)
    → lowest_from test k n ≡ Some (k + j)
unfolding lowest_from
from_at test k zero j h t b = absurd (not-suc-le-zero h)
from_at test k (suc n) zero h t b = rw (ap test (sym (add-zero k)) ∙ t) (ap Some (sym (add-zero k)))
from_at test k (suc n) (suc j) h t b =
    let e : test k ≡ false = ap test (sym (add-zero k)) ∙ b 0 (zero-lt-suc j) in
    rw (e, add-suc k j, ← suc-add k j)
    (from_at test (suc k) n j (le_of_suc-le-suc h) (ap test (suc-add k j ∙ sym (add-suc k j)) ∙ t)
    (λ i g. ap test (suc-add k i ∙ sym (add-suc k i)) ∙ b (suc i) (omega arith)))

from_none : (test : ℕ → Bool) (k n : ℕ) → ((i : ℕ) → i < n → test (k + i) ≡ false) → lowest_from test k n ≡ None
unfolding lowest_from
from_none test k zero b = refl
from_none test k (suc n) b =
    let e : test k ≡ false = ap test (sym (add-zero k)) ∙ b 0 (zero-lt-suc n) in
    rw e (from_none test (suc k) n (λ i g. ap test (suc-add k i ∙ sym (add-suc k i)) ∙ b (suc i) (omega arith)))

-- ---- where the test first holds, it is found; where it holds nowhere, nothing is

pub at_is : (test : ℕ → Bool) (n k : ℕ) → LowestAt test n k → lowest test n ≡ Some k
unfolding lowest
at_is test n k h =
    from_at test 0 n k h.within (ap test (zero-add k) ∙ h.holds) (λ i g. ap test (zero-add i) ∙ h.before i g)
    ∙ ap Some (zero-add k)

pub absent_is : (test : ℕ → Bool) (n : ℕ) → Nowhere test n → lowest test n ≡ None
unfolding lowest
absent_is test n h = from_none test 0 n (λ i g. ap test (zero-add i) ∙ h i g)

-- ---- one of the two holds, so what is found says which

pub search_through : (test : ℕ → Bool) (n : ℕ) → ((k : ℕ) × LowestAt test n k) ⊎ Nowhere test n
search_through test zero = inr (λ j h. absurd (not-suc-le-zero h))
search_through test (suc n) = go (search_through test n) (test n) refl
  where
    go : ((k : ℕ) × LowestAt test n k) ⊎ Nowhere test n → (b : Bool) → test n ≡ b
        → ((k : ℕ) × LowestAt test (suc n) k) ⊎ Nowhere test (suc n)
    go (inl (k, w)) b e = inl (k, record { within = omega (arith, w.within); holds = w.holds; before = w.before })
    go (inr none) true e = inl (n, record { within = omega arith; holds = e; before = none })
    go (inr none) false e = inr (λ j h. ⊎_elim (λ (q : j ≡ n). ap test q ∙ e) (λ (q : j < n). none j q) (split j h))
      where
        split : (j : ℕ) → j < suc n → (j ≡ n) ⊎ (j < n)
        split j h = native.Mathlib.Nat.eq-or-lt_of_le (le_of_suc-le-suc h)

pub is_at_lem : (test : ℕ → Bool) (n k : ℕ) → lowest test n ≡ Some k → LowestAt test n k
is_at_lem test n k e = go (search_through test n)
  where
    go : ((j : ℕ) × LowestAt test n j) ⊎ Nowhere test n → LowestAt test n k
    go (inl (j, w)) = let q : j ≡ k = cc (at_is test n j w) in subst (λ (z : ℕ). LowestAt test n z) q w
    go (inr none) = let z : ◌≡◌ {A = ℕ} 0 1 = cc (absent_is test n none) in absurd (omega arith)

pub is_absent : (test : ℕ → Bool) (n : ℕ) → lowest test n ≡ None → Nowhere test n
is_absent test n e = go (search_through test n)
  where
    go : ((j : ℕ) × LowestAt test n j) ⊎ Nowhere test n → Nowhere test n
    go (inl (j, w)) = let z : ◌≡◌ {A = ℕ} 0 1 = cc (at_is test n j w) in absurd (omega arith)
    go (inr none) = none

-- ---- two tests

-- two that agree below n find the same
pub lowest_same : (n : ℕ) (test other : ℕ → Bool) → ((i : ℕ) → i < n → test i ≡ other i)
    → lowest test n ≡ lowest other n
lowest_same n test other same = go (search_through test n)
  where
    go : ((k : ℕ) × LowestAt test n k) ⊎ Nowhere test n → lowest test n ≡ lowest other n
    go (inl (k, w)) = at_is test n k w ∙ sym (at_is other n k (record {
      within = w.within;
      holds = sym (same k w.within) ∙ w.holds;
      before = λ j h. sym (same j (omega (arith, w.within))) ∙ w.before j h;
    }))
    go (inr none) = absent_is test n none ∙ sym (absent_is other n (λ j h. sym (same j h) ∙ none j h))

-- ---- as `find` says it over the places below n

pub found_is : (test : ℕ → Bool) (n : ℕ) (f : Found)
    → MatchOption f ((k : ℕ) → 0 ≤ k → k < n → test k ≡ false)
    (λ i. (0 ≤ i) × (i < n) × (test i ≡ true) × ((k : ℕ) → 0 ≤ k → k < i → test k ≡ false)) → f ≡ lowest test n
found_is test n (Some i) h =
    sym (at_is test n i (record { within = h.1; holds = h.2; before = λ k g. h.3 k (omega arith) g }))
found_is test n None h = sym (absent_is test n (λ k g. h k (omega arith) g))
