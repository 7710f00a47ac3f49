-- How many candidates a contour has, what each of them keeps, and where they stand when handed out. Assumes nothing.
use Rattle.std.proofs.Common.{◌≡◌, ℕ, ◌<◌, ◌≤◌, min, Bool, true, false, cond, eqb, List, [], ◌∷◌, length, get_or}
use Rattle.std.proofs.Common.{refl, not-suc-le-zero, arith, length-append}
use lib.ListN.{length-replicate}
use lib.Ieee.{lt}
use Rattle.answer.specs.declared.Point.{Point}
use Rattle.answer.specs.declared.CutDirection.{CutDirection}
use Rattle.fields.specs.Limits.{per_contour_limit}
use Rattle.points.specs.Numbers.{tiny}
use Rattle.candidates.specs.declared.Candidate.{Candidate}
use Rattle.candidates.specs.declared.Spot.{Spot}
use Rattle.candidates.specs.Along.{perimeter_of, spot}
use Rattle.candidates.specs.Generate.{candidate_at, blank, spaced, candidates_from, candidates_of, filled}
use Rattle.candidates.proofs.FillLaws.{spaced-length}
use Rattle.candidates.proofs.EachLaws.{each_has}

-- ---- how many

from_count : (grid : Bool) (way : CutDirection) (v : Point) (ps : List Point) (c : ℕ) → 0 < c
    → (0 < length (candidates_from grid way v ps c)) × (length (candidates_from grid way v ps c) ≤ c)
unfolding candidates_from
from_count grid way v ps c h = go (eqb c 1) (lt (perimeter_of ps) tiny)
  where
    go : (p q : Bool)
        → (0 < length (cond p (candidate_at way (spot v 0) ∷ [])
        (cond q (candidate_at way (spot v 0) ∷ []) (spaced grid way ps (perimeter_of ps) c 0 c))))
        × (length (cond p (candidate_at way (spot v 0) ∷ [])
        (cond q (candidate_at way (spot v 0) ∷ []) (spaced grid way ps (perimeter_of ps) c 0 c))) ≤ c)
    go true q = (omega arith, omega arith)
    go false true = (omega arith, omega arith)
    go false false = let e = spaced-length grid way ps (perimeter_of ps) c 0 c in (omega arith, omega arith)

-- a contour that has a vertex has a candidate, if any are wanted
pub count_some : (grid : Bool) (way : CutDirection) (ps : List Point) (c : ℕ) → 0 < length ps → 0 < c
    → 0 < length (candidates_of grid way ps c)
unfolding candidates_of
count_some grid way [] c h g = absurd (not-suc-le-zero h)
count_some grid way (v ∷ more) c h g = (from_count grid way v (v ∷ more) (min c per_contour_limit) (omega arith)).0

-- and never more than are wanted
pub count_within : (grid : Bool) (way : CutDirection) (ps : List Point) (c : ℕ) → 0 < c
    → length (candidates_of grid way ps c) ≤ min c per_contour_limit
unfolding candidates_of
count_within grid way [] c g = omega arith
count_within grid way (v ∷ more) c g = (from_count grid way v (v ∷ more) (min c per_contour_limit) (omega arith)).1

-- ---- what each keeps

-- it ends where it starts, and is cut the contour's way
pub record Closed (way : CutDirection) (q : Candidate) : Type 0 where
  pub same_x : q.end_x ≡ q.x
  pub same_y : q.end_y ≡ q.y
  pub same_way : q.direction ≡ way

at_closed : (way : CutDirection) (s : Spot) → Closed way (candidate_at way s)
at_closed way s = record { same_x = refl; same_y = refl; same_way = refl }

pub each_closed : (grid : Bool) (way : CutDirection) (ps : List Point) (c k : ℕ)
    → k < length (candidates_of grid way ps c)
    → Closed way (get_or (candidates_of grid way ps c) k blank)
each_closed grid way ps c = each_has (Closed way) grid way ps c (λ _. at_closed way _) (λ _ _ _ _. at_closed way _)

-- ---- where they stand

pub filled-length : (l : List Candidate) → length l ≤ per_contour_limit → length (filled l).items ≡ per_contour_limit
unfolding filled
filled-length l h = simp (length-append, length-replicate) (omega arith)
