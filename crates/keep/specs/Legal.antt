-- What a legal order is. Assumes nothing.
use Rattle.std.specs.Prelude.{true, ◌≡◌, List, ℕ, ◌<◌, length, get_or}
use Rattle.closure.specs.Cycle.{linked}

-- each of the positions 0..n-1 once, and nothing else
pub record EachOnce (n : ℕ) (order : List ℕ) : Type 0 where
  pub size : length order ≡ n
  pub within : (p : ℕ) → p < n → get_or order p 0 < n
  pub once : (p q : ℕ) → p < n → q < n → get_or order p 0 ≡ get_or order q 0 → p ≡ q

-- each position once, and each pair's first before its second
pub record Legal (n : ℕ) (pairs order : List ℕ) : Type 0 where
  pub each : EachOnce n order
  pub before : (p q : ℕ) → p < n → q < n → linked n pairs (get_or order p 0) (get_or order q 0) ≡ true → p < q
