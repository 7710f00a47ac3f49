-- `root::longer` meets its contract: the laws of one exact division step are in Squares. Assumes nothing.
use mathlib.Core.Path.{sym}
use native.Mathlib.Omega.{arith}
use Rattle.root.proofs.Squares.{sized, quotient_le, rest_lt, longer-kept, longer-lowered, square_fits}
use Rattle.root.proofs.longer.Goals as goal

pub overflow_mul-rest : goal.overflow_mul-rest
overflow_mul-rest c = omega (arith, sized c.requires.0 c.requires.1.0 c.requires.1.1)

pub overflow_sub-rest : goal.overflow_sub-rest
overflow_sub-rest c = omega (arith, sized c.requires.0 c.requires.1.0 c.requires.1.1)

pub overflow_mul-rest-2 : goal.overflow_mul-rest-2
overflow_mul-rest-2 c = omega (arith, sized c.requires.0 c.requires.1.0 c.requires.1.1)

pub overflow_mul-twice : goal.overflow_mul-twice
overflow_mul-twice c = omega (arith, sized c.requires.0 c.requires.1.0 c.requires.1.1)

pub nonzero_div-q : goal.nonzero_div-q
nonzero_div-q c = omega (arith, sized c.requires.0 c.requires.1.0 c.requires.1.1)

pub overflow_mul-s : goal.overflow_mul-s
overflow_mul-s c = omega (arith, sized c.requires.0 c.requires.1.0 c.requires.1.1)

pub overflow_add-s : goal.overflow_add-s
overflow_add-s c =
    let z = sized c.requires.0 c.requires.1.0 c.requires.1.1 in
    omega (arith, quotient_le _ _ z)

pub nonzero_rem-rest : goal.nonzero_rem-rest
nonzero_rem-rest c = omega (arith, sized c.requires.0 c.requires.1.0 c.requires.1.1)

pub overflow_mul-rest-3 : goal.overflow_mul-rest-3
overflow_mul-rest-3 c =
    let z = sized c.requires.0 c.requires.1.0 c.requires.1.1 in
    omega (arith, rest_lt _ _ z)

pub overflow_mul-q : goal.overflow_mul-q
overflow_mul-q c =
    let z = sized c.requires.0 c.requires.1.0 c.requires.1.1 in
    record { fits = square_fits (omega (arith, quotient_le _ _ z)) }

pub returns-then-rest-twice : goal.returns-then-rest-twice
returns-then-rest-twice c =
    let z = sized c.requires.0 c.requires.1.0 c.requires.1.1 in
    sym (longer-lowered _ _ _ z c.if-rest-twice.true (omega arith))

pub returns-else-rest-twice : goal.returns-else-rest-twice
returns-else-rest-twice c =
    sym (longer-kept _ _ (sized c.requires.0 c.requires.1.0 c.requires.1.1) c.if-rest-twice.false)
