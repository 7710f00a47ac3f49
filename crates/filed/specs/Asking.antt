-- Byte 34 of the head before request 2026-07, when it was spare in both versions: a card with a 0 there, and any card
-- of version 1, has the verdict and the candidates that it had then, and a fine one that asks for the grid went back
-- with 7 at block 0. Assumes nothing.
use Rattle.std.specs.Prelude.{◌≡◌, Bool, true, false, not, cond, List, [], ◌∷◌, ◌++◌, ℕ, zero, suc, ◌+◌, ◌-◌, min, eqb, Float, get_or, set, Err, Ok}
use Rattle.std.specs.Float.Ieee.{lt}
use Rattle.answer.specs.declared.CutDirection.{CutDirection}
use Rattle.answer.specs.declared.Point.{Point}
use Rattle.answer.specs.Answer.{Check, Found}
use Rattle.answer.specs.Lowest.{lowest, refuse_at}
use Rattle.answer.specs.Stage.{first_refusal}
use Rattle.block.specs.Field.{byte_at}
use Rattle.block.specs.Block.{zeros_at}
use Rattle.block.specs.Write.{block_of}
use Rattle.fields.specs.Layout.{blocks_of, payload, version_of, head_size, per_contour_of, grid_offset, asks_grid}
use Rattle.fields.specs.Limits.{per_contour_limit}
use Rattle.points.specs.Numbers.{tiny}
use Rattle.candidates.specs.declared.Candidate.{Candidate}
use Rattle.candidates.specs.Along.{perimeter_of, spot, spot_at}
use Rattle.candidates.specs.Generate.{candidate_at, target}
use Rattle.card.specs.Limits.{today}
use Rattle.card.specs.Stages.{head_faults, used_in, spare_end}
use Rattle.card.specs.Verdict.{stages_within, check_of}
use Rattle.instance.specs.Gather.{way_of, outline_of, offers_of}
use Rattle.card_laws.specs.Examples.{as_job41}
use Rattle.card_laws.specs.Write.{head_bytes}

-- ---- the verdict of then

-- the head's fields were 1 to 7
unfoldable pub head_fault_then : List ℕ → Found
unfolding lowest
head_fault_then s = lowest (λ f. get_or (head_faults s) f false) 8

-- and its spare bytes began behind those, in either version
abbrev pub used_then : List ℕ → ℕ → ℕ
used_then s b = cond (eqb b 0) head_size (used_in s b)

abbrev pub bad_spare_then : List ℕ → ℕ → Bool
bad_spare_then s b = not (zeros_at s (payload b + used_then s b) (spare_end s b - used_then s b))

unfoldable pub spare_fault_then : List ℕ → Found
unfolding lowest
spare_fault_then s = lowest (bad_spare_then s) (blocks_of s)

-- all else was as today: of its stages, in their order, number 3 is the one on the head and number 7 that on spare
-- bytes
unfoldable pub check_then : List ℕ → Check
unfolding first_refusal head_fault_then spare_fault_then
check_then s =
    first_refusal (set (set (stages_within today s) 3 (refuse_at 4 (head_fault_then s))) 7 (refuse_at 7 (spare_fault_then s)))

-- ---- the candidates of then: their text, from before there was a grid to ask for

unfoldable pub spaced_then : CutDirection → List Point → Float → ℕ → ℕ → ℕ → List Candidate
spaced_then way ps total c k zero = []
spaced_then way ps total c k (suc n) =
    candidate_at way (spot_at ps (target total c k)) ∷ spaced_then way ps total c (suc k) n

unfoldable pub candidates_then : CutDirection → List Point → ℕ → List Candidate
candidates_then way [] c = []
candidates_then way (v ∷ more) c =
    let ps = v ∷ more in
    let most = min c per_contour_limit in
    cond (eqb most 1) (candidate_at way (spot v 0) ∷ [])
    (cond (lt (perimeter_of ps) tiny) (candidate_at way (spot v 0) ∷ [])
    (spaced_then way ps (perimeter_of ps) most 0 most))

-- ---- what is claimed

-- the verdict is that of then, and so are the candidates of each contour; what is made of them, the distances, the
-- start and the tour, is not said once more: its definitions are the same text
pub record NotAsked (s : List ℕ) : Type 0 where
  pub verdict : check_of s ≡ check_then s
  pub candidates : (k : ℕ) → offers_of s k ≡ candidates_then (way_of s k) (outline_of s k) (per_contour_of s)

-- a fine card that asks went back
abbrev pub Asked : List ℕ → Type 0
Asked s = asks_grid s ≡ true → check_of s ≡ Ok tt → check_then s ≡ Err (record { number = 7; place = 0 })

-- a card of a version without contours, with this byte 34
abbrev pub head_with : ℕ → ℕ → List ℕ
head_with version byte = block_of 1 version 0 (head_bytes (as_job41 [] []) ++ (byte ∷ []))

-- such cards today: in version 2 with 0 and 1 fine, with 2 and 255 4 at 8; in version 1 with 0 fine, with 1, 2 and 255
-- 7 at block 0
pub record Today : Type 0 where
  pub not_asking : check_of (head_with 2 0) ≡ Ok tt
  pub asking : check_of (head_with 2 1) ≡ Ok tt
  pub does_ask : asks_grid (head_with 2 1) ≡ true
  pub above : check_of (head_with 2 2) ≡ Err (record { number = 4; place = 8 })
  pub most-above : check_of (head_with 2 255) ≡ Err (record { number = 4; place = 8 })
  pub of_version_1 : check_of (head_with 1 0) ≡ Ok tt
  pub spare_there : check_of (head_with 1 1) ≡ Err (record { number = 7; place = 0 })
  pub no_field_there : check_of (head_with 1 2) ≡ Err (record { number = 7; place = 0 })
  pub most_there : check_of (head_with 1 255) ≡ Err (record { number = 7; place = 0 })

pub record Claim : Type 0 where
  pub byte_0 : (s : List ℕ) → byte_at s (payload 0 + grid_offset) ≡ 0 → NotAsked s
  pub version_1 : (s : List ℕ) → version_of s ≡ 1 → NotAsked s
  pub asked : (s : List ℕ) → Asked s
  pub today : Today
