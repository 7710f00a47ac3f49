-- How many contours are left to visit. Assumes nothing.
use mathlib.Core.Bool.{Bool, true, false, cond}
use mathlib.Core.List.{List}
use mathlib.Core.Logic.{◌⊎◌, inl, inr}
use mathlib.Core.Path.{◌≡◌, refl, sym, ap, ◌∙◌}
use Prim.Native.Nat.{ℕ, zero, suc, ◌+◌, ◌≤◌, ◌<◌}
use native.Mathlib.Nat.{eq-or-lt_of_le, le_of_suc-le-suc}
use native.Mathlib.Omega.{arith}
use borrow.Author.Tests.{eqb-true}
use lib.Dec.{eqb}
use lib.ListN.{length, get_or, set, replicate, get_or-replicate}
use lib.Seq.{get_or-set_same, get_or-set_other}

-- of the first n flags, how many are 0
pub left : ℕ → List ℕ → ℕ
left zero visited = 0
left (suc k) visited = cond (eqb (get_or visited k 0) 0) 1 0 + left k visited

-- all of them, before anything is visited
pub left_all_lem : (n size : ℕ) → n ≤ size → left n (replicate size 0) ≡ n
unfolding left
left_all_lem zero size h = refl
left_all_lem (suc k) size h =
    let e : ◌≡◌ {A = ℕ} (get_or (replicate size 0) k 0) 0 = get_or-replicate size k 0 0 h in
    let l : left k (replicate size 0) ≡ k = left_all_lem k size (omega arith) in
    rw (e, l) (omega arith)

-- where some are left, there is one
pub some_left : (n : ℕ) (visited : List ℕ) → 0 < left n visited → (k : ℕ) × (k < n) × (get_or visited k 0 ≡ 0)
unfolding left
some_left zero visited h = absurd (omega arith)
some_left (suc n) visited h = go (eqb (get_or visited n 0) 0) refl h (some_left n visited)
  where
    go : (b : Bool) → eqb (get_or visited n 0) 0 ≡ b → 0 < cond b 1 0 + left n visited
        → (0 < left n visited → (k : ℕ) × (k < n) × (get_or visited k 0 ≡ 0))
        → (k : ℕ) × (k < suc n) × (get_or visited k 0 ≡ 0)
    go true e g more = (n, omega arith, eqb-true (get_or visited n 0) 0 e)
    go false e g more =
        let w = more (omega arith) in
        (w.0, omega (arith, w.1), w.2)

-- a flag beyond the first n changes nothing
beyond : (n k : ℕ) (visited : List ℕ) → n ≤ k → left n (set visited k 1) ≡ left n visited
unfolding left
beyond zero k visited h = refl
beyond (suc n) k visited h =
    let e : get_or (set visited k 1) n 0 ≡ get_or visited n 0 = get_or-set_other visited k n 1 0 (omega arith) in
    let l : left n (set visited k 1) ≡ left n visited = beyond n k visited (omega arith) in
    rw (e, l)

-- visiting one leaves one less
pub one_less : (n k : ℕ) (visited : List ℕ) → k < n → k < length visited → get_or visited k 0 ≡ 0
    → left n (set visited k 1) + 1 ≡ left n visited
unfolding left
one_less zero k visited h g e = absurd (omega arith)
one_less (suc n) k visited h g e = go (eq-or-lt_of_le (le_of_suc-le-suc h)) (λ l. one_less n k visited l g e)
  where
    go : (k ≡ n) ⊎ (k < n) → (k < n → left n (set visited k 1) + 1 ≡ left n visited)
        → cond (eqb (get_or (set visited k 1) n 0) 0) 1 0 + left n (set visited k 1) + 1
        ≡ cond (eqb (get_or visited n 0) 0) 1 0 + left n visited
    go (inl q) more =
        let now : get_or (set visited k 1) n 0 ≡ 1 =
        ap (λ (x : ℕ). get_or (set visited k 1) x 0) (sym q) ∙ get_or-set_same visited k 1 0 g in
        let was : get_or visited n 0 ≡ 0 = ap (λ (x : ℕ). get_or visited x 0) (sym q) ∙ e in
        let b : left n (set visited k 1) ≡ left n visited = beyond n k visited (omega arith) in
        rw (now, was, b) (omega arith)
    go (inr l) more =
        let s : get_or (set visited k 1) n 0 ≡ get_or visited n 0 = get_or-set_other visited k n 1 0 (omega arith) in
        let m : left n (set visited k 1) + 1 ≡ left n visited = more l in
        rw s (omega arith)
