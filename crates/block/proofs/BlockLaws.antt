-- The check, one byte at a time, and what the tests on a block say where no byte is left. Assumes nothing.
use mathlib.Core.Path.{◌≡◌}
use mathlib.Core.Bool.{true, ◌&&◌, and-true}
use mathlib.Core.List.{List, [], ◌∷◌}
use Prim.Native.Nat.{ℕ, zero, suc, ◌+◌, ◌*◌, ◌≤◌, ◌<◌}
use native.Mathlib.Nat.{add-zero, add-suc, suc-add, zero-add, not-suc-le-zero, le_of_suc-le-suc, mul-le-mul}
use native.Mathlib.Numerals.{add-one}
use native.Mathlib.Omega.{arith}
use lib.ListN.{length, take, get_or, drop_of_length-le}
use lib.Seq.{take_all}
use lib.Dec.{eqb}
use Rattle.block.specs.Field.{u32_at}
use Rattle.block.specs.Block.{check_offset, weigh, check_at, checked, starts}
use Rattle.block.proofs.FieldLaws.{past_byte, past_u16, past_u32}

-- ---- one more byte adds its weight times itself

weigh-suc : (w : ℕ) (t : List ℕ) (p : ℕ) → p < length t
    → weigh w (take (suc p) t) ≡ weigh w (take p t) + (w + p) * get_or t p 0
unfolding weigh
weigh-suc w [] p h = absurd (not-suc-le-zero h)
weigh-suc w (x ∷ t) zero h = simp add-zero (omega arith)
weigh-suc w (x ∷ t) (suc p) h =
    rw (weigh-suc (suc w) t p (le_of_suc-le-suc h), add-suc w p, suc-add w p) (omega arith)

pub weigh-step : (t : List ℕ) (p sum x : ℕ) → p < length t → sum ≡ weigh 1 (take p t) → x ≡ get_or t p 0
    → sum + (p + 1) * x ≡ weigh 1 (take (p + 1) t)
weigh-step t p sum x h e f = rw (e, f, add-one, weigh-suc 1 t p h, suc-add 0 p, zero-add)

-- a byte's weight times itself, within 508 bytes
pub weight-bound : (p x : ℕ) → p < check_offset → x < 256 → (p + 1) * x ≤ check_offset * 255
weight-bound p x h g = mul-le-mul {n₂ = check_offset} {m₂ = 255} (omega arith) (omega arith)

-- the whole of what was weighed
pub weigh_all : (t : List ℕ) (p : ℕ) → length t ≤ p → p ≤ length t → weigh 1 (take p t) ≡ weigh 1 t
weigh_all t p h g = rw (take_all p t h)

-- ---- the start of a block, where no byte is left

pub starts-past : (s : List ℕ) (at kind version number : ℕ) → length s ≤ at
    → eqb 0 kind && (eqb 0 version && eqb 0 number) ≡ starts s at kind version number
unfolding starts
starts-past s at kind version number h =
    rw (
      past_byte s at h,
      past_byte s (at + 1) (omega arith),
      past_u16 s (at + 2) (omega arith),
      past_u32 s (at + 4) (omega arith),
      and-true (eqb 0 number),
    )

-- ---- the check, and where no byte is left

check-none : (s : List ℕ) (at : ℕ) → length s ≤ at → 0 ≡ check_at s at
unfolding check_at weigh
check-none s at h = rw (drop_of_length-le s h)

pub checked-none : (s : List ℕ) (at : ℕ) → length s ≤ at → true ≡ checked s at
unfolding checked
checked-none s at h = rw (← check-none s at h, past_u32 s (at + check_offset) (omega arith))

pub checked_is : (s : List ℕ) (at a b : ℕ) → a ≡ check_at s at → b ≡ u32_at s (at + check_offset) → eqb a b ≡ checked s at
unfolding checked
checked_is s at a b e f = rw (e, f)
