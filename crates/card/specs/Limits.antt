-- How large a card may be: the limits that request 2026-04 raised, together. Where the verdict or the tour names one it
-- is a parameter, as in `check_within`; the definition with today's stands beside it, as `check_of`. Assumes nothing.
use Rattle.std.specs.Prelude.{ℕ}
use Rattle.closure.specs.Limits.{contour_limit, pair_limit}
use Rattle.fields.specs.Limits.{card_bytes}

-- the most bytes of a file, contours of a card and pairs written on it
pub record Limits : Type 0 where
  pub bytes : ℕ
  pub contours : ℕ
  pub pairs : ℕ

abbrev pub today : Limits
today = record { bytes = card_bytes; contours = contour_limit; pairs = pair_limit }

-- those from before request 2026-04
abbrev pub before : Limits
before = record { bytes = 23040; contours = 40; pairs = 124 }
