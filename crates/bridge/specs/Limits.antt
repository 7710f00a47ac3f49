-- How much a question about bridges may hold. Assumes nothing.
use Rattle.std.specs.Prelude.{ℕ, ◌+◌}
use Rattle.fields.specs.Limits.{vertex_limit}

-- the most bridges of a contour
abbrev pub bridge_limit : ℕ
bridge_limit = 16

-- a mark for each vertex, and one for the end of the way
abbrev pub mark_limit : ℕ
mark_limit = vertex_limit + 1
