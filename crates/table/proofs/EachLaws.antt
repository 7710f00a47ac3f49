-- A loop's steps taken one by one. Assumes nothing.
use mathlib.Core.Logic.{◌⊎◌, inl, inr}
use mathlib.Core.Path.{◌≡◌, refl, sym, subst}
use Prim.Native.Nat.{ℕ, zero, suc, ◌+◌, ◌-◌, ◌≤◌, ◌<◌}
use native.Mathlib.Nat.{eq-or-lt_of_le, sub-zero}
use native.Mathlib.Numerals.{add-one}
use native.Mathlib.Omega.{arith}
use Rattle.table.specs.Each.{each}

-- what the steps from a up to `end` make of s
pub onwards : {S : Type 0} → (ℕ → S → S) → ℕ → ℕ → S → S
onwards step end a s = each step (end - a) a s

module _ {S : Type 0} (step : ℕ → S → S) where
  pub begin : (end a : ℕ) (s : S) → each step (end - a) a s ≡ onwards step end a s
  unfolding onwards
  begin end a s = refl

  pub begin-zero : (end : ℕ) (s : S) → onwards step end 0 s ≡ each step end 0 s
  unfolding onwards
  begin-zero end s = rw (sub-zero end)

  -- one step more
  pub carry : (end a : ℕ) (s next whole : S) → onwards step end a s ≡ whole → a < end → step a s ≡ next
      → onwards step end (a + 1) next ≡ whole
  unfolding onwards each
  carry end a s next whole so_far h e =
      let left : end - a ≡ suc (end - suc a) = omega arith in
      let q : each step (end - suc a) (suc a) (step a s) ≡ whole = rw left at so_far in
      rw (add-one a, ← e) q

  -- no step left
  pub arrive : (end a : ℕ) (s whole : S) → onwards step end a s ≡ whole → end ≤ a → s ≡ whole
  unfolding onwards each
  arrive end a s whole so_far h =
      let left : end - a ≡ zero = omega arith in
      rw left at so_far

-- ---- what a loop keeps, and what it comes to

-- what each step of a loop keeps, the loop keeps
pub each_keeps : {S : Type 0} (P : S → Type 0) (step : ℕ → S → S) (k a : ℕ)
    → ((i : ℕ) → a ≤ i → i < a + k → (s : S) → P s → P (step i s)) → (s : S) → P s → P (each step k a s)
unfolding each
each_keeps P step zero a h s p = p
each_keeps P step (suc k) a h s p =
    each_keeps P step k (suc a) (λ i l g. h i (omega arith) (omega arith)) (step a s)
    (h a (omega arith) (omega arith) s p)

-- what step m brings about, and every step keeps, holds at the end of a loop that has step m
pub each_hits : {S : Type 0} (P Q : S → Type 0) (step : ℕ → S → S) (m : ℕ) → ((i : ℕ) (s : S) → Q s → Q (step i s))
    → ((i : ℕ) (s : S) → P s → P (step i s)) → ((s : S) → Q s → P (step m s)) → (k a : ℕ) → a ≤ m → m < a + k
    → (s : S) → Q s → P (each step k a s)
unfolding each
each_hits P Q step m keeps stays hits zero a h g s q = absurd (omega arith)
each_hits P Q step m keeps stays hits (suc k) a h g s q =
    go (eq-or-lt_of_le h) (λ l. each_hits P Q step m keeps stays hits k (suc a) l (omega arith) (step a s)
    (keeps a s q))
  where
    go : (a ≡ m) ⊎ (a < m) → (a < m → P (each step k (suc a) (step a s))) → P (each step k (suc a) (step a s))
    go (inl e) later =
        each_keeps P step k (suc a) (λ i l r. stays i) (step a s) (subst (λ (x : ℕ). P (step x s)) (sym e) (hits s q))
    go (inr l) later = later l
