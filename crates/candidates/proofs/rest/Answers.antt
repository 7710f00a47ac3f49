-- `candidates::rest` meets its contract: by what its tests say of the two numbers. Assumes nothing.
use mathlib.Core.Path.{◌∙◌}
use lib.Ieee.{of_bits}
use Rattle.grid.proofs.MoveLaws.{above_of_below}
use Rattle.candidates.proofs.RestCases.{finite_is, finite_below, finite_above, rest_none, rest_whole, rest_zero}
use Rattle.candidates.proofs.RestCases.{real_above, real_neg, rest_by_minus}
use Rattle.candidates.proofs.rest.Goals as goal

pub returns-then-not-is_finite : goal.returns-then-not-is_finite
unfolding of_bits
returns-then-not-is_finite c = rest_none c.args.x c.args.y c.if-not-is_finite.ensures.value

pub returns-then-is_infinite : goal.returns-then-is_infinite
returns-then-is_infinite c =
    rest_whole c.args.x c.args.y c.if-not-is_finite.ensures.value c.if-is_infinite.ensures.value

pub signed_left-requires-clause-real_y : goal.signed_left-requires-clause-real_y
signed_left-requires-clause-real_y c =
    let y = c.args.y in
    let h = finite_below y c.if-is_infinite.ensures.value c.if-y.true in
    (real_neg y (rw c.well_formed.1.0.1 tt) h c.if-y.true).real

pub signed_left-requires-clause-above : goal.signed_left-requires-clause-above
signed_left-requires-clause-above c = above_of_below c.args.y c.if-y.true

pub returns-then-y : goal.returns-then-y
returns-then-y c =
    let x = c.args.x in
    let y = c.args.y in
    c.signed_left.ensures
    ∙ rest_by_minus x y (rw c.well_formed.0.1 tt) (finite_is x c.if-not-is_finite.ensures.value)
    (rw c.well_formed.1.0.1 tt) (finite_below y c.if-is_infinite.ensures.value c.if-y.true) c.if-y.true

pub signed_left-requires-then-y-2-clause-real_y : goal.signed_left-requires-then-y-2-clause-real_y
signed_left-requires-then-y-2-clause-real_y c =
    let y = c.args.y in
    (real_above y (rw c.well_formed.1.0.1 tt) (finite_above y c.if-is_infinite.ensures.value c.if-y-2.true)
    c.if-y-2.true).real

pub returns-else-y-2 : goal.returns-else-y-2
unfolding of_bits
returns-else-y-2 c =
    rest_zero c.args.x c.args.y c.if-not-is_finite.ensures.value c.if-is_infinite.ensures.value c.if-y.false
    c.if-y-2.false
