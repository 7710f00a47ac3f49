-- `grid::units_near` meets its contract: each of its steps is exact. Assumes nothing.
use Rattle.std.proofs.Common.{arith}
use Rattle.grid.proofs.MoveLaws.{halved, small_is, units_small}
use Rattle.grid.proofs.units_near.Goals as goal

pub truncating_f64_to_u64-requires : goal.truncating_f64_to_u64-requires
truncating_f64_to_u64-requires c =
    let h = halved c.args.a (rw c.well_formed.0.1 tt) (small_is c.args.a c.requires.0 c.requires.1) in
    record { lower_bound = h.above; upper_bound = h.under }

pub overflow_add-result : goal.overflow_add-result
overflow_add-result c =
    let few = (halved c.args.a (rw c.well_formed.0.1 tt) (small_is c.args.a c.requires.0 c.requires.1)).few in
    record { fits = rw c.truncating_f64_to_u64.ensures (omega arith) }

pub returns : goal.returns
returns c =
    let a = c.args.a in
    let small = small_is a c.requires.0 c.requires.1 in
    let h = halved a (rw c.well_formed.0.1 tt) small in record {
      value = rw c.truncating_f64_to_u64.ensures h.is;
      upper_bound = rw (c.truncating_f64_to_u64.ensures, h.is) (units_small a small);
    }
