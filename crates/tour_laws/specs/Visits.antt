-- A tour of a card, or an order handed in: candidates of the card, each contour once. Assumes nothing.
use Rattle.std.specs.Prelude.{◌≡◌, List, [], ◌∷◌, ℕ, ◌<◌, length}
use Rattle.keep.specs.Legal.{EachOnce}
use Rattle.fields.specs.Layout.{contours_of}
use Rattle.improve.specs.Search.{contours}
use Rattle.instance.specs.Search.{count_on, owners_on}

-- every number of a list is below t
unfoldable pub AllBelow : ℕ → List ℕ → Type 0
AllBelow t [] = Unit {0}
AllBelow t (x ∷ l) = (x < t) × AllBelow t l

-- a tour of the card visits each contour once, at candidates of the card
pub record Visits (s tour : List ℕ) : Type 0 where
  pub long : length tour ≡ contours_of s
  pub among : AllBelow (count_on s) tour
  pub each : EachOnce (contours_of s) (contours (owners_on s) tour)
