-- The contours that a tour meets, found one by one. Assumes nothing.
use mathlib.Core.List.{List, [], ◌∷◌, ◌++◌}
use mathlib.Core.Path.{◌≡◌, refl, ap, ◌∙◌}
use Prim.Native.Nat.{ℕ, ◌+◌, ◌≤◌, ◌<◌}
use native.Mathlib.Numerals.{add-one}
use native.Mathlib.Omega.{arith}
use lib.ListN.{length, get_or, set, take}
use lib.Seq.{take-suc, take-suc-set, take_all}
use Rattle.improve.specs.Search.{owner_of, contours}

contours-append : (owner a b : List ℕ) → contours owner (a ++ b) ≡ contours owner a ++ contours owner b
unfolding contours
contours-append owner [] b = refl
contours-append owner (x ∷ a) b = ap (λ (l : List ℕ). owner_of owner x ∷ l) (contours-append owner a b)

pub order_none : (owner : List ℕ) → [] ≡ contours owner []
unfolding contours
order_none owner = refl

pub order_more : (owner tour order : List ℕ) (i v : ℕ) → i < length tour → i < length order
    → v ≡ owner_of owner (get_or tour i 0)
    → take i order ≡ contours owner (take i tour) → take (i + 1) (set order i v) ≡ contours owner (take (i + 1) tour)
unfolding contours
order_more owner tour order i v h g e so_far =
    rw (
      add-one i,
      take-suc-set order i v g,
      take-suc tour i 0 h,
      contours-append owner (take i tour)
          (get_or tour i 0 ∷ []),
      so_far,
      e,
    )

pub order_whole : (owner tour order : List ℕ) (i : ℕ) → length tour ≤ i → i ≤ length tour
    → take i order ≡ contours owner (take i tour)
    → take (length tour) order ≡ contours owner tour
order_whole owner tour order i h g so_far =
    let e : i ≡ length tour = omega arith in
    rw (← e) (so_far ∙ ap (contours owner) (take_all i tour h))
