-- How a list of candidates comes to stand in its room, one at a time. Assumes nothing.
use Rattle.std.proofs.Common.{◌≡◌, ℕ, zero, suc, ◌+◌, ◌-◌, ◌<◌, Bool, List, [], ◌∷◌, ◌++◌, length, set, replicate}
use Rattle.std.proofs.Common.{sym, refl, ap, ◌∙◌, append_assoc, add-zero, add-suc, suc-add, zero-add, add-one, arith}
use lib.Seq.{set_at}
use lib.Ieee.{Float}
use Rattle.answer.specs.declared.Point.{Point}
use Rattle.answer.specs.declared.CutDirection.{CutDirection}
use Rattle.fields.specs.Limits.{per_contour_limit}
use Rattle.candidates.specs.declared.Candidate.{Candidate}
use Rattle.candidates.specs.Along.{spot_at}
use Rattle.candidates.specs.Generate.{candidate_at, blank, target, moved_if, spaced, filled}

module _ (grid : Bool) (way : CutDirection) (ps : List Point) (total : Float) (c : ℕ) where
  pub spaced-length : (k n : ℕ) → length (spaced grid way ps total c k n) ≡ n
  unfolding spaced
  spaced-length k zero = refl
  spaced-length k (suc n) = ap suc (spaced-length (suc k) n)

  spaced_more : (k n : ℕ)
      → spaced grid way ps total c k (suc n)
      ≡ spaced grid way ps total c k n ++ (candidate_at way (moved_if grid (spot_at ps (target total c (k + n)))) ∷ [])
  unfolding spaced
  spaced_more k zero = rw add-zero
  spaced_more k (suc n) =
      ap (λ (l : List Candidate). candidate_at way (moved_if grid (spot_at ps (target total c k))) ∷ l)
      (rw (add-suc, ← suc-add) (spaced_more (suc k) n))

  -- the room with its first k places filled
  abbrev pub room : ℕ → List Candidate
  room k = spaced grid way ps total c 0 k ++ replicate (per_contour_limit - k) blank

  one_more : (k : ℕ)
      → spaced grid way ps total c 0 (k + 1)
      ≡ spaced grid way ps total c 0 k ++ (candidate_at way (moved_if grid (spot_at ps (target total c k))) ∷ [])
  one_more k = rw add-one (spaced_more 0 k ∙ rw zero-add)

  pub room_more : (k : ℕ) → k < per_contour_limit
      → set (room k) k (candidate_at way (moved_if grid (spot_at ps (target total c k)))) ≡ room (k + 1)
  room_more k h =
      let v = candidate_at way (moved_if grid (spot_at ps (target total c k))) in
      let rest = replicate (per_contour_limit - (k + 1)) blank in
      let e : per_contour_limit - k ≡ suc (per_contour_limit - (k + 1)) = omega arith in
      rw (e, one_more)
      (set_at (spaced grid way ps total c 0 k) blank rest v k (spaced-length 0 k)
      ∙ sym (append_assoc (spaced grid way ps total c 0 k) (v ∷ []) rest))

  pub room_full : record { items = room c; count = c } ≡ filled (spaced grid way ps total c 0 c)
  unfolding filled
  room_full = rw spaced-length
