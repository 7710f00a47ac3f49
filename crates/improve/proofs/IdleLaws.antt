-- A search that has ended stays as it is, and so decides what the rest of a loop gives. Assumes nothing.
use mathlib.Core.Bool.{true}
use mathlib.Core.Path.{◌≡◌, refl, sym, ◌∙◌}
use Prim.Native.Nat.{ℕ, zero, suc, ◌+◌, ◌-◌, ◌<◌}
use Rattle.table.proofs.EachLaws.{onwards, begin, carry}
use Rattle.table.specs.Each.{each}
use Rattle.improve.specs.Search.{State}

-- steps that leave a search alone once it has ended
abbrev pub Idle : (ℕ → State → State) → Type 0
Idle step = (a : ℕ) (s : State) → s.cut ≡ true → step a s ≡ s

-- then so does their loop
pub each_idle : (step : ℕ → State → State) → Idle step → (k a : ℕ) (s : State) → s.cut ≡ true → each step k a s ≡ s
unfolding each
each_idle step idle zero a s e = refl
each_idle step idle (suc k) a s e = let q : step a s ≡ s = idle a s e in rw q (each_idle step idle k (suc a) s e)

-- and a step that ends the search decides what the loop gives
pub halt : (step : ℕ → State → State) (end a : ℕ) (s next whole : State) → Idle step
    → onwards step end a s ≡ whole → a < end → step a s ≡ next → next.cut ≡ true → next ≡ whole
halt step end a s next whole idle so_far h e cut =
    sym (each_idle step idle (end - (a + 1)) (a + 1) next cut) ∙ begin step end (a + 1) next
    ∙ carry step end a s next whole so_far h e

-- loops whose steps do the same
pub each_same : (f g : ℕ → State → State) → ((a : ℕ) (s : State) → f a s ≡ g a s) → (k a : ℕ) (s : State)
    → each f k a s ≡ each g k a s
unfolding each
each_same f g same zero a s = refl
each_same f g same (suc k) a s = let q : f a s ≡ g a s = same a s in rw q (each_same f g same k (suc a) (g a s))
