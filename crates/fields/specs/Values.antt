-- What a card's bytes stand for: a contour's type and a direction asked for, as the crate `answer` has them, and a point.
-- Assumes nothing.
use Rattle.std.specs.Prelude.{List, ℕ, ◌+◌}
use Rattle.answer.specs.declared.Point.{Point}
unfoldable pub use Rattle.answer.specs.Kinds.{as_type, as_preference}
use Rattle.block.specs.Field.{f64_at}

-- a point: its x, and 8 bytes on its y
unfoldable pub point_at : List ℕ → ℕ → Point
unfolding f64_at
point_at s at = record { x = f64_at s at; y = f64_at s (at + 8) }
