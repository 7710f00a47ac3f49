-- What holds of the candidate at the first vertex, and of one at every spot that is looked for, holds of every
-- candidate. Assumes nothing.
use Rattle.std.proofs.Common.{◌≡◌, ℕ, zero, suc, ◌+◌, ◌<◌, min, Bool, true, false, cond, eqb, List, [], ◌∷◌, length}
use Rattle.std.proofs.Common.{get_or, refl, le_of_suc-le-suc, not-suc-le-zero, zero-lt-suc, arith}
use lib.Ieee.{lt}
use Rattle.answer.specs.declared.Point.{Point}
use Rattle.answer.specs.declared.CutDirection.{CutDirection}
use Rattle.fields.specs.Limits.{per_contour_limit}
use Rattle.points.specs.Points.{nowhere}
use Rattle.points.specs.Numbers.{tiny}
use Rattle.candidates.specs.declared.Candidate.{Candidate}
use Rattle.candidates.specs.Along.{perimeter_of, spot, spot_at}
use Rattle.candidates.specs.Generate.{candidate_at, blank, target, moved_if, spaced, candidates_from, candidates_of}
use Rattle.candidates.proofs.FillLaws.{spaced-length}

module _ (P : Candidate → Type 0) (grid : Bool) (way : CutDirection) (ps : List Point) where
  -- candidate k of c, found at its distance, is such a one
  abbrev pub Found : ℕ → ℕ → Type 0
  Found c k = P (candidate_at way (moved_if grid (spot_at ps (target (perimeter_of ps) c k))))

  spaced_has : (c k n : ℕ) → ((i : ℕ) → i < k + n → Found c i)
      → (j : ℕ) → j < n → P (get_or (spaced grid way ps (perimeter_of ps) c k n) j blank)
  unfolding spaced
  spaced_has c k zero h j less = absurd (not-suc-le-zero less)
  spaced_has c k (suc n) h zero less = h k (omega arith)
  spaced_has c k (suc n) h (suc j) less =
      spaced_has c (suc k) n (λ i l. h i (omega arith)) j (le_of_suc-le-suc less)

  from_has : (v : Point) (c : ℕ) → P (candidate_at way (spot v 0))
      → (lt (perimeter_of ps) tiny ≡ false → (k : ℕ) → k < c → Found c k)
      → (j : ℕ) → j < length (candidates_from grid way v ps c) → P (get_or (candidates_from grid way v ps c) j blank)
  unfolding candidates_from
  from_has v c n h = go (eqb c 1) (lt (perimeter_of ps) tiny) refl
    where
      whole : Bool → Bool → List Candidate
      whole p q =
          cond p (candidate_at way (spot v 0) ∷ [])
          (cond q (candidate_at way (spot v 0) ∷ []) (spaced grid way ps (perimeter_of ps) c 0 c))

      one : (j : ℕ) → j < 1 → P (get_or (candidate_at way (spot v 0) ∷ []) j blank)
      one zero l = n
      one (suc j) l = absurd (not-suc-le-zero (le_of_suc-le-suc l))

      go : (p q : Bool) → lt (perimeter_of ps) tiny ≡ q
          → (j : ℕ) → j < length (whole p q) → P (get_or (whole p q) j blank)
      go true q e j l = one j l
      go false true e j l = one j l
      go false false e j l =
          let all = spaced-length grid way ps (perimeter_of ps) c 0 c in
          spaced_has c 0 c (λ i m. h e i (omega arith)) j (omega arith)

pub each_has : (P : Candidate → Type 0) (grid : Bool) (way : CutDirection) (ps : List Point) (c : ℕ)
    → (0 < length ps → P (candidate_at way (spot (get_or ps 0 nowhere) 0)))
    → (0 < length ps → lt (perimeter_of ps) tiny ≡ false → (k : ℕ) → k < min c per_contour_limit
    → Found P grid way ps (min c per_contour_limit) k)
    → (k : ℕ) → k < length (candidates_of grid way ps c) → P (get_or (candidates_of grid way ps c) k blank)
unfolding candidates_of
each_has P grid way [] c n h k l = absurd (not-suc-le-zero l)
each_has P grid way (v ∷ more) c n h k l =
    let some = zero-lt-suc (length more) in
    from_has P grid way (v ∷ more) v (min c per_contour_limit) (n some) (h some) k l
