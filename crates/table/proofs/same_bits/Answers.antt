-- `table::same_bits` meets its contract: the bits of a number stand for it alone. Assumes nothing.
-- what equals something is a number
use mathlib.Core.Bool.{true, not, true≢false}
use mathlib.Core.Path.{◌≡◌, sym, ap, ◌∙◌}
use borrow.Author.Tests.{eqb-true}
use lib.Dec.{T}
use lib.Ieee.{Float, nan, inf, fin, binary64, eq, is_nan, fits, of_bits, to_bits}
use lib.Ieee.Bits.{of_bits-to_bits}
use Rattle.table.proofs.same_bits.Goals as goal

right-real : (x y : Float) → eq x y ≡ true → T (not (is_nan y))
unfolding eq is_nan
right-real nan y e = absurd (true≢false (sym e))
right-real (inf s) nan e = absurd (true≢false (sym e))
right-real (inf s) (inf t) e = tt
right-real (inf s) (fin t n d) e = tt
right-real (fin s m d) nan e = absurd (true≢false (sym e))
right-real (fin s m d) (inf t) e = tt
right-real (fin s m d) (fin t n g) e = tt

by_bits : (x y : Float) → T (fits binary64 x) → T (fits binary64 y) → to_bits binary64 x ≡ to_bits binary64 y → x ≡ y
by_bits x y p q e = sym (of_bits-to_bits binary64 x p) ∙ ap (of_bits binary64) e ∙ of_bits-to_bits binary64 y q

pub float_to_bits-result-then-x-y : goal.float_to_bits-result-then-x-y
float_to_bits-result-then-x-y c = right-real c.args.x c.args.y c.if-x-y.true

pub returns-then-x-y : goal.returns-then-x-y
returns-then-x-y c told =
    by_bits c.args.x c.args.y (rw c.well_formed.0.1 tt) (rw c.well_formed.1.0.1 tt) (eqb-true _ _ told)
