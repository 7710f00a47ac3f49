-- Candidates from a contour's first number up to the next contour's are that contour's. Assumes nothing.
use mathlib.Core.Path.{◌≡◌, refl, sym, ap, ◌∙◌}
use mathlib.Core.Logic.{◌⊎◌, inl, inr}
use mathlib.Core.Bool.{Bool, true, false}
use mathlib.Core.List.{List, [], ◌∷◌, ◌++◌}
use Prim.Native.Nat.{ℕ, zero, suc, ◌+◌, ◌-◌, ◌≤◌, ◌<◌}
use native.Mathlib.Nat.{eq-or-lt_of_le, le_of_suc-le-suc, not-suc-le-zero}
use native.Mathlib.Omega.{arith}
use borrow.Author.Tests.{leb-true, leb-false, ltb-true, ltb-false}
use lib.Dec.{leb, ltb}
use lib.ListN.{length, get_or, replicate, length-append, get_or-append, get_or-eq_default, get_or-replicate}
use lib.Seq.{get_or_at, get_or-append-add}
use Rattle.instance.specs.Gather.{offers_of, gathered, owners, firsts}
use Rattle.instance.proofs.GatherLaws.{owners-length, firsts-length}

module _ (s : List ℕ) where
  pub gathered_grows : (n k : ℕ) → k ≤ n → length (gathered s k) ≤ length (gathered s n)
  unfolding gathered
  gathered_grows zero k h = let e : k ≡ 0 = omega arith in rw e (omega arith)
  gathered_grows (suc n) k h = go (eq-or-lt_of_le h) (gathered_grows n k)
    where
      go : (k ≡ suc n) ⊎ (k < suc n) → (k ≤ n → length (gathered s k) ≤ length (gathered s n))
          → length (gathered s k) ≤ length (gathered s n ++ offers_of s n)
      go (inl e) earlier = rw e (omega arith)
      go (inr l) earlier =
          let a = earlier (le_of_suc-le-suc l) in
          let b = length-append (gathered s n) (offers_of s n) in
          omega arith

  -- a contour's first number is how many candidates come before
  pub first-at : (n k : ℕ) → k ≤ n → get_or (firsts s n) k 0 ≡ length (gathered s k)
  unfolding firsts gathered
  first-at zero k h = let e : k ≡ 0 = omega arith in rw e
  first-at (suc n) k h = go (eq-or-lt_of_le h) (first-at n k)
    where
      go : (k ≡ suc n) ⊎ (k < suc n) → (k ≤ n → get_or (firsts s n) k 0 ≡ length (gathered s k))
          → get_or (firsts s n ++ (length (gathered s (suc n)) ∷ [])) k 0 ≡ length (gathered s k)
      go (inl e) earlier =
          let l = firsts-length s n in
          get_or_at (firsts s n) (length (gathered s (suc n))) [] 0 k (omega arith)
          ∙ ap (λ (i : ℕ). length (gathered s i)) (sym e)
      go (inr l) earlier =
          let f = firsts-length s n in
          get_or-append (firsts s n) (length (gathered s (suc n)) ∷ []) 0 k (omega arith)
          ∙ earlier (le_of_suc-le-suc l)

  pub owner_at : (n k a : ℕ) → k < n → length (gathered s k) ≤ a → a < length (gathered s (suc k))
      → get_or (owners s n) a 0 ≡ k
  unfolding owners gathered
  owner_at zero k a h f g = absurd (not-suc-le-zero h)
  owner_at (suc n) k a h f g = go (eq-or-lt_of_le (le_of_suc-le-suc h)) (λ l. owner_at n k a l f g)
    where
      go : (k ≡ n) ⊎ (k < n) → (k < n → get_or (owners s n) a 0 ≡ k)
          → get_or (owners s n ++ replicate (length (offers_of s n)) n) a 0 ≡ k
      go (inl e) earlier =
          let g' : a < length (gathered s n) + length (offers_of s n) =
          omega (
            arith,
            length-append (gathered s n) (offers_of s n),
            ap (λ (i : ℕ). length (gathered s (suc i)))
                e,
          ) in
          let f' : length (gathered s n) ≤ a = omega (arith, ap (λ (i : ℕ). length (gathered s i)) e) in
          let l = owners-length s n in
          let at : length (owners s n) + (a - length (owners s n)) ≡ a = omega arith in
          ap (λ (i : ℕ). get_or (owners s n ++ replicate (length (offers_of s n)) n) i 0) (sym at)
          ∙ get_or-append-add (owners s n) (replicate (length (offers_of s n)) n) (a - length (owners s n)) 0
          ∙ get_or-replicate (length (offers_of s n)) (a - length (owners s n)) n 0 (omega arith)
          ∙ sym e
      go (inr l) earlier =
          let m = gathered_grows n (suc k) l in
          let o = owners-length s n in
          get_or-append (owners s n) (replicate (length (offers_of s n)) n) 0 a (omega arith) ∙ earlier l

  pub grouped : (n k a : ℕ) → get_or (firsts s n) k 0 ≤ a → a < get_or (firsts s n) (suc k) 0 → get_or (owners s n) a 0 ≡ k
  grouped n k a f g = go (leb n k) refl
    where
      go : (b : Bool) → leb n k ≡ b → get_or (owners s n) a 0 ≡ k
      go true e =
          let h = leb-true n k e in
          let l = firsts-length s n in
          let z : get_or (firsts s n) (suc k) 0 ≡ 0 = get_or-eq_default (firsts s n) 0 {n = suc k} (omega arith) in
          absurd (omega arith)
      go false e =
          let h : k < n = leb-false n k e in
          let f' : length (gathered s k) ≤ a = rw (first-at n k (omega arith)) at f in
          let g' : a < length (gathered s (suc k)) = rw (first-at n (suc k) h) at g in
          owner_at n k a h f' g'

  -- candidate a, one of the first n contours', is contour k's
  pub record Seat (n a k : ℕ) : Type 0 where
    pub below : k < n
    pub from : length (gathered s k) ≤ a
    pub to : a < length (gathered s (suc k))

  -- every candidate is some contour's
  pub seat_of : (n a : ℕ) → a < length (gathered s n) → (k : ℕ) × Seat n a k
  unfolding gathered
  seat_of zero a h = absurd (not-suc-le-zero h)
  seat_of (suc n) a h = go (ltb a (length (gathered s n))) refl (seat_of n a)
    where
      go : (b : Bool) → ltb a (length (gathered s n)) ≡ b → (a < length (gathered s n) → (k : ℕ) × Seat n a k)
          → (k : ℕ) × Seat (suc n) a k
      go true e earlier =
          let p = earlier (ltb-true a (length (gathered s n)) e) in
          let q = p.1.below in
          (p.0, record { below = omega arith; from = p.1.from; to = p.1.to })
      go false e earlier = (n, record { below = omega arith; from = ltb-false a (length (gathered s n)) e; to = h })

  pub owner_below : (n a : ℕ) → a < length (gathered s n) → get_or (owners s n) a 0 < n
  owner_below n a h = let p =
      seat_of n a h in rw (owner_at n p.0 a p.1.below p.1.from p.1.to) p.1.below

  -- its contour's first candidate does not come after it
  pub first-before : (n a : ℕ) → a < length (gathered s n) → get_or (firsts s n) (get_or (owners s n) a 0) 0 ≤ a
  first-before n a h =
      let p = seat_of n a h in
      let b = p.1.below in
      rw (owner_at n p.0 a p.1.below p.1.from p.1.to, first-at n p.0 (omega arith)) p.1.from
