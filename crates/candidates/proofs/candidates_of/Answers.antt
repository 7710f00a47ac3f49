-- `candidates::candidates_of` meets its contract: the tests that led to each answer say which case of the definition it
-- is. Assumes nothing.
use Rattle.std.proofs.Common.{eq-eqb, ne_eqb}
use Rattle.candidates.specs.Generate.{candidates_from}
use Rattle.candidates.proofs.GenerateLaws.{no_vertices, some_vertices}
use Rattle.candidates.proofs.candidates_of.Goals as goal

pub returns-then-numbers-eq0 : goal.returns-then-numbers-eq0
returns-then-numbers-eq0 c = rw (c.none.ensures, no_vertices _ _ _ _ c.if-numbers-eq0.true)

pub returns-then-wanted-eq1 : goal.returns-then-wanted-eq1
unfolding candidates_from
returns-then-wanted-eq1 c =
    rw (
      c.first_vertex.ensures,
      c.determine_direction-direction.ensures,
      some_vertices _ _ _ _
          c.if-numbers-eq0.false,
      ← c.min-wanted.ensures,
      eq-eqb _ _ c.if-wanted-eq1.true,
    )

pub returns-then-total : goal.returns-then-total
unfolding candidates_from
returns-then-total c =
    rw (
      c.first_vertex-then-total.ensures,
      c.determine_direction-direction.ensures,
      some_vertices _ _ _ _ c.if-numbers-eq0.false,
      ←
          c.min-wanted.ensures,
      ne_eqb _ _ c.if-wanted-eq1.false,
      ←
          c.perimeter-total.ensures,
      c.if-total.true,
    )

pub returns : goal.returns
unfolding candidates_from
returns c =
    rw (
      c.spaced.ensures,
      c.determine_direction-direction.ensures,
      some_vertices _ _ _ _ c.if-numbers-eq0.false,
      ←
          c.min-wanted.ensures,
      ne_eqb _ 1 c.if-wanted-eq1.false,
      ←
          c.perimeter-total.ensures,
      c.if-total.false,
    )
