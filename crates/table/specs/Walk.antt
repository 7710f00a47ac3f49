-- A walk over the legs of a tour, for whatever is added up on the way: lengths as floats here, exact steps elsewhere.
-- Assumes nothing.
use Rattle.std.specs.Prelude.{List, [], ◌∷◌, ℕ}

-- one leg after the other, left to right, from the stop `at` on: each takes what was gathered so far, and the leg's two
-- ends
unfoldable pub legs : {A : Type 0} → (A → ℕ → ℕ → A) → A → ℕ → List ℕ → A
legs leg sum at [] = sum
legs leg sum at (b ∷ rest) = legs leg (leg sum at b) b rest

-- a whole tour: nothing for an empty one; else what reaching its first stop gives, then leg after leg
unfoldable pub walk : {A : Type 0} → A → (ℕ → A) → (A → ℕ → ℕ → A) → List ℕ → A
unfolding legs
walk nothing reach leg [] = nothing
walk nothing reach leg (a ∷ rest) = legs leg (reach a) a rest
