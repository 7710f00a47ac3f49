-- How near a computed length must come to both ends of the exact one's interval. Assumes nothing.
use Rattle.std.specs.Prelude.{List, ℕ, ◌+◌, ◌*◌, ◌^◌, ◌≤◌, T, Float}
use Rattle.root.specs.Steps.{steps_of, has_root}
use Rattle.exact.specs.Length.{lower_end, upper_end, step40}

-- two numbers differ by at most b
pub record Near (b x y : ℕ) : Type 0 where
  pub not-above : x ≤ y + b
  pub not_below : y ≤ x + b

-- a computed length is finite and not below zero, and within b steps of 2^-40 mm of both ends for legs of these squared
-- lengths, all sides in steps of 2^-1074 mm
pub record NearEnds (b : ℕ) (computed : Float) (legs : List ℕ) : Type 0 where
  pub real : T (has_root computed)
  pub lower : Near (b * step40) (steps_of computed) (lower_end legs * step40)
  pub upper : Near (b * step40) (steps_of computed) (upper_end legs * step40)

-- b is bound enough for n legs, where every sum stays below 2 ^ (14 + a) mm: half a unit of such a sum's last digit is
-- 2 ^ a steps of 2^-40 mm, and a leg is below 3 * 2 ^ 53 of them
pub record Enough (n a b : ℕ) : Type 0 where
  pub room : n * (3 * 2 ^ 53 + 3 + 2 ^ a) ≤ 2 ^ (54 + a)
  pub bound : n * (3 + 2 ^ a) ≤ b
  pub modest : a ≤ 1000

-- forty legs: 2^-28 mm; eighty legs: 2^-26 mm
abbrev pub Forty : Type 0
Forty = Enough 40 6 (2 ^ 12)

abbrev pub Eighty : Type 0
Eighty = Enough 80 7 (2 ^ 14)
