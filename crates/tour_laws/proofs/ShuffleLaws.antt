-- An order of each position once, shuffled, is one of each position once. Assumes nothing.
use mathlib.Core.Path.{◌≡◌, refl, sym, ◌∙◌}
use mathlib.Core.Logic.{◌⊎◌, inl, inr}
use mathlib.Core.Bool.{cond}
use mathlib.Core.List.{List, [], ◌∷◌}
use Prim.Native.Nat.{ℕ, zero, suc, ◌+◌, ◌≤◌, ◌<◌}
use native.Mathlib.Omega.{arith}
use lib.Dec.{eqb}
use borrow.Author.Tests.{eq-eqb, ne_eqb}
use lib.ListN.{length, get_or}
use Rattle.closure.proofs.PairLaws.{same_or, lt-or}
use Rattle.keep.specs.Legal.{EachOnce}
use Rattle.improve.proofs.TourLaws.{times, Shuffled}

-- what stands in a list is counted
times_at : (x : ℕ) (l : List ℕ) (p : ℕ) → p < length l → get_or l p 0 ≡ x → 1 ≤ times x l
unfolding times
times_at x [] p h e = absurd (omega arith)
times_at x (y ∷ l) zero h e = rw (eq-eqb y x e) (omega arith)
times_at x (y ∷ l) (suc p) h e = let r : 1 ≤ times x l = times_at x l p (omega arith) e in omega arith

-- at two places, twice
times_two : (x : ℕ) (l : List ℕ) (p q : ℕ) → p < q → q < length l → get_or l p 0 ≡ x → get_or l q 0 ≡ x → 2 ≤ times x l
unfolding times
times_two x [] p q g h e f = absurd (omega arith)
times_two x (y ∷ l) zero zero g h e f = absurd (omega arith)
times_two x (y ∷ l) zero (suc q) g h e f = let r : 1 ≤ times x l =
    times_at x l q (omega arith) f in rw (eq-eqb y x e) (omega arith)
times_two x (y ∷ l) (suc p) zero g h e f = absurd (omega arith)
times_two x (y ∷ l) (suc p) (suc q) g h e f = let r : 2 ≤ times x l =
    times_two x l p q (omega arith) (omega arith) e f in omega arith

-- what is counted stands somewhere
at_times : (x : ℕ) (l : List ℕ) → 1 ≤ times x l → (p : ℕ) × (p < length l) × (get_or l p 0 ≡ x)
unfolding times
at_times x [] h = absurd (omega arith)
at_times x (y ∷ l) h = go (same_or y x) (at_times x l)
  where
    go : (y ≡ x) ⊎ (y ≡ x → ⊥) → (1 ≤ times x l → (p : ℕ) × (p < length l) × (get_or l p 0 ≡ x))
        → (p : ℕ) × (p < suc (length l)) × (get_or (y ∷ l) p 0 ≡ x)
    go (inl e) rest = (0, omega arith, e)
    go (inr d) rest =
        let further =
        rest (let r : 1 ≤ cond {A = ℕ} (eqb y x) 1 0 + times x l = h in let z : cond {A = ℕ} (eqb y x) 1 0 ≡ 0 =
        rw (ne_eqb y x d) in omega arith) in
        (suc further.0, (let g : further.0 < length l = further.1 in omega arith), further.2)

-- a list that holds nothing twice counts nothing twice
once_times : (x : ℕ) (l : List ℕ) → ((p q : ℕ) → p < length l → q < length l → get_or l p 0 ≡ get_or l q 0 → p ≡ q)
    → times x l ≤ 1
unfolding times
once_times x [] h = omega arith
once_times x (y ∷ l) h =
    go (same_or y x) (lt-or 0 (times x l)) (once_times x l
    (λ p q hp hq e. let s : suc p ≡ suc q = h (suc p) (suc q) (omega arith) (omega arith) e in omega arith))
  where
    go : (y ≡ x) ⊎ (y ≡ x → ⊥) → (0 < times x l) ⊎ (times x l ≤ 0) → times x l ≤ 1 → cond (eqb y x) 1 0 + times x l ≤ 1
    go (inl e) (inl g) further =
        let f = at_times x l g in
        let s : 0 ≡ suc f.0 =
        h 0 (suc f.0) (omega arith) (let k : f.0 < length l = f.1 in omega arith) (e ∙ sym f.2) in
        absurd (omega arith)
    go (inl e) (inr g) further = rw (eq-eqb y x e) (omega arith)
    go (inr d) g further = rw (ne_eqb y x d) (omega (arith, further))

-- what has each position as often as an order of each once is one too
pub shuffled_once : (n : ℕ) (l m : List ℕ) → EachOnce n l → length m ≡ n → Shuffled m l → EachOnce n m
shuffled_once n l m each size same = record { size = size; within = within; once = once }
  where
    counted : (p : ℕ) → p < n → 1 ≤ times (get_or m p 0) l
    counted p h = rw (← same (get_or m p 0)) (times_at (get_or m p 0) m p (rw size h) refl)

    within : (p : ℕ) → p < n → get_or m p 0 < n
    within p h =
        let f = at_times (get_or m p 0) l (counted p h) in
        let g : get_or l f.0 0 < n =
        each.within f.0 (let k : f.0 < length l = f.1 in omega (arith, each.size)) in
        omega (arith, f.2)

    few : (x : ℕ) → times x m ≤ 1
    few x = rw (same x) (once_times x l (λ p q hp hq e. each.once p q (omega (arith, each.size))
        (omega (arith, each.size)) e))

    apart : (p q : ℕ) → p < q → q < n → get_or m p 0 ≡ get_or m q 0 → ⊥
    apart p q g h e = let two : 2 ≤ times (get_or m q 0) m =
        times_two (get_or m q 0) m p q g (rw size h) e refl in let one : times (get_or m q 0) m ≤ 1 =
        few (get_or m q 0) in omega arith

    once : (p q : ℕ) → p < n → q < n → get_or m p 0 ≡ get_or m q 0 → p ≡ q
    once p q hp hq e = go (same_or p q) (lt-or p q)
      where
        go : (p ≡ q) ⊎ (p ≡ q → ⊥) → (p < q) ⊎ (q ≤ p) → p ≡ q
        go (inl s) o = s
        go (inr d) (inl g) = absurd (apart p q g hq e)
        go (inr d) (inr g) = absurd (apart q p (omega arith) hp (sym e))
