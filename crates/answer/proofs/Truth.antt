-- Laws of truth values that the kit leaves unsaid: those of `||` by cases. The kit has the others: of `≡ true` in
-- mathlib.Mathlib.Data.Bool.Basic (or-inl, or-inr, and-elim-left, and-elim-right, and-intro, eq-false-of-not-eq-true),
-- equations in mathlib.Core.Bool (and-true, or-true, or-false, or-assoc), of T and `&&` in lib.Ieee.Fits (and-i, and-l,
-- and-r, eq→eqb). Assumes nothing.
use mathlib.Core.Path.{◌≡◌, refl, sym, ◌∙◌}
use mathlib.Core.Bool.{Bool, true, false, not, ◌||◌, true≢false}
use mathlib.Core.Logic.{◌⊎◌, inl, inr}
use lib.Dec.{T}

-- nothing is both
pub true_false : {b : Bool} → b ≡ true → b ≡ false → ⊥
true_false p q = true≢false (sym p ∙ q)

pub yes_or_no : (b : Bool) → (b ≡ true) ⊎ (b ≡ false)
yes_or_no true = inl refl
yes_or_no false = inr refl

-- ---- either, as an equation

pub or_cases : (a b : Bool) → (a || b) ≡ true → (a ≡ true) ⊎ (b ≡ true)
or_cases true b h = inl refl
or_cases false b h = inr h

pub or-none : (a b : Bool) → (a || b) ≡ false → (a ≡ false) × (b ≡ false)
or-none true b h = absurd (true≢false h)
or-none false b h = (refl, h)

-- ---- either, as a test: what follows from it, and what shows it

pub or_e : (a b : Bool) (P : Type 0) → (T a → P) → (T b → P) → T (a || b) → P
or_e true b P h k t = h tt
or_e false b P h k t = k t

-- the second where the first fails
pub or_i : (a b : Bool) → (T (not a) → T b) → T (a || b)
or_i true b h = tt
or_i false b h = h tt
