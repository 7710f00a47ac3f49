-- `candidates::signed_left` meets its contract: by the side of zero on which x lies. Assumes nothing.
use mathlib.Core.Path.{sym, ap, ◌∙◌}
use lib.Ieee.{neg}
use Rattle.candidates.proofs.RestCases.{Real, finite_is, real_not_below, real_neg, rest_minus}
use Rattle.candidates.proofs.signed_left.Goals as goal

pub left_of-requires-clause-real_x : goal.left_of-requires-clause-real_x
left_of-requires-clause-real_x c =
    (real_neg c.args.x (rw c.well_formed.0.1 tt) (finite_is c.args.x (sym c.requires.finite_x)) c.if-x.true).real

pub left_of-requires-else-x-clause-real_x : goal.left_of-requires-else-x-clause-real_x
left_of-requires-else-x-clause-real_x c =
    (real_not_below c.args.x (rw c.well_formed.0.1 tt) (finite_is c.args.x (sym c.requires.finite_x)) c.if-x.false).real

pub returns-then-x : goal.returns-then-x
returns-then-x c =
    let q : Real c.args.y = record { held = rw c.well_formed.1.0.1 tt; real = c.requires.real_y } in
    ap neg c.left_of.ensures
    ∙ rest_minus c.args.x c.args.y (rw c.well_formed.0.1 tt) (finite_is c.args.x (sym c.requires.finite_x))
    c.if-x.true q c.requires.above
