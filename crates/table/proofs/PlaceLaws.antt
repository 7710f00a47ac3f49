-- The place of a distance among the t by t of them. Assumes nothing.
use Prim.Native.Nat.{ℕ, suc, ◌+◌, ◌*◌, ◌≤◌, ◌<◌}
use native.Mathlib.Nat.{mul-le-mul, suc-mul}
use native.Mathlib.Omega.{arith}
use Rattle.fields.specs.Limits.{candidate_limit}
use Rattle.table.specs.Distances.{entry_limit}

-- with candidates and t of one byte each
pub row_small : (a t : ℕ) → a < 256 → t < 256 → a * t ≤ 65025
row_small a t h k = mul-le-mul {n₁ = a} {m₁ = t} {n₂ = 255} {m₂ = 255} (omega arith) (omega arith)

-- no more entries than the limit
pub square_small : (t : ℕ) → t ≤ candidate_limit → t * t ≤ entry_limit
square_small t h = mul-le-mul {n₁ = t} {m₁ = t} {n₂ = candidate_limit} {m₂ = candidate_limit} h h

-- a row ends where the next begins, and so before row n, or the table's end
pub row_fits : (a n t : ℕ) → a < n → a * t + t ≤ n * t
row_fits a n t h = let e : suc a * t ≤ n * t =
    mul-le-mul {n₁ = suc a} {m₁ = t} {n₂ = n} {m₂ = t} h (omega arith) in rw suc-mul at e
