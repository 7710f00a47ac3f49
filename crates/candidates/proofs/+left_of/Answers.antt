-- `candidates::left_of` meets its contract: each step is exact, and takes off as much of x as it says. Assumes
-- nothing.
use native.Mathlib.Omega.{arith}
use Rattle.candidates.proofs.RestCases.{Real, rest_below, rest_kept, rest_less, rest_once, twice_real, twice_is}
use Rattle.candidates.proofs.RestCases.{twice_above, doubles, doubles_not, above_steps, nlt→steps}
use Rattle.candidates.proofs.+left_of.Goals as goal

pub returns-then-x-y : goal.returns-then-x-y
returns-then-x-y t c =
    let p : Real c.args.x = record { held = rw c.well_formed.0.1 tt; real = c.requires.real_x } in
    let q : Real c.args.y = record { held = rw c.well_formed.1.0.1 tt; real = c.requires.real_y } in
    rest_below c.args.x c.args.y p q c.requires.above c.if-x-y.true

pub left_of-left-requires : goal.left_of-left-requires
left_of-left-requires t c =
    let p : Real c.args.x = record { held = rw c.well_formed.0.1 tt; real = c.requires.real_x } in
    let q : Real c.args.y = record { held = rw c.well_formed.1.0.1 tt; real = c.requires.real_y } in
    let d = doubles c.args.y q c.if-y.true in
    let some = above_steps c.args.y q c.requires.above in
    let order = nlt→steps c.args.x c.args.y p q c.if-x-y.false in
    let is = twice_is c.args.x c.args.y p q c.requires.above c.if-x-y.false d in (
      omega arith,
      (
        c.requires.real_x,
        (
          (twice_real c.args.x c.args.y p q c.requires.above c.if-x-y.false d).real,
          twice_above c.args.x c.args.y p q c.requires.above c.if-x-y.false d,
        ),
      ),
    )

pub returns-then-left-y : goal.returns-then-left-y
returns-then-left-y t c =
    let p : Real c.args.x = record { held = rw c.well_formed.0.1 tt; real = c.requires.real_x } in
    let q : Real c.args.y = record { held = rw c.well_formed.1.0.1 tt; real = c.requires.real_y } in
    rest_kept c.args.x c.args.y p q c.requires.above c.if-x-y.false (doubles c.args.y q c.if-y.true) _
    c.left_of-left.ensures c.if-left-y.true

pub returns-then-y : goal.returns-then-y
returns-then-y t c =
    let p : Real c.args.x = record { held = rw c.well_formed.0.1 tt; real = c.requires.real_x } in
    let q : Real c.args.y = record { held = rw c.well_formed.1.0.1 tt; real = c.requires.real_y } in
    rest_less c.args.x c.args.y p q c.requires.above c.if-x-y.false (doubles c.args.y q c.if-y.true) _
    c.left_of-left.ensures c.if-left-y.false

pub returns : goal.returns
returns t c =
    let p : Real c.args.x = record { held = rw c.well_formed.0.1 tt; real = c.requires.real_x } in
    let q : Real c.args.y = record { held = rw c.well_formed.1.0.1 tt; real = c.requires.real_y } in
    rest_once c.args.x c.args.y p q c.requires.above c.if-x-y.false (doubles_not c.args.y q c.if-y.false)
