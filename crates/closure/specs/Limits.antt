-- The most that a question on pairs takes. Assumes nothing.
use Rattle.std.specs.Prelude.{ℕ}

-- contours
abbrev pub contour_limit : ℕ
contour_limit = 80

-- pairs
abbrev pub pair_limit : ℕ
pair_limit = 248
