-- `root::root` meets its contract: refused exactly where the definition refuses. Assumes nothing.
use Rattle.std.specs.Prelude.{Err}
use Rattle.std.specs.Prelude.{Ok}
use mathlib.Core.Path.{◌≡◌, sym, ap, ◌∙◌}
use Prim.Native.Nat.{ℕ}
use lib.Dec.{T}
use lib.Ieee.{Float, binary64, fits, of_bits, to_bits}
use lib.Ieee.Bits.{of_bits-to_bits, to_bits-lt}
use Rattle.root.specs.Root.{root_of}
use Rattle.root.proofs.Cases.{nan-told, no_nan, root_told, minus_zero-told, none_told}
use Rattle.root.proofs.root.Goals as goal

at_bits : (x : Float) {n : ℕ} → T (fits binary64 x) → to_bits binary64 x ≡ n → of_bits binary64 n ≡ x
at_bits x f e = ap (of_bits binary64) (sym e) ∙ of_bits-to_bits binary64 x f

pub returns-then-x : goal.returns-then-x
returns-then-x c = ap Err c.at.ensures ∙ nan-told c.args.x c.if-x.true

pub float_to_bits-b : goal.float_to_bits-b
float_to_bits-b c = no_nan c.args.x c.if-x.false

pub returns-then-b-lt9218868437227405312 : goal.returns-then-b-lt9218868437227405312
returns-then-b-lt9218868437227405312 c =
    let x = c.args.x in
    ap Ok c.sqrt.ensures ∙ (rw ((of_bits-to_bits binary64 c.args.x ((rw c.well_formed.0.1 tt)))) at
    (sym (root_told (to_bits binary64 x) c.if-b-lt9218868437227405312.true)))

pub returns-then-b : goal.returns-then-b
returns-then-b c =
    ap Ok (sym (at_bits c.args.x (rw c.well_formed.0.1 tt) c.if-b.true)) ∙ sym minus_zero-told
    ∙ ap root_of (at_bits c.args.x (rw c.well_formed.0.1 tt) c.if-b.true)

pub returns : goal.returns
returns c = ap Err c.at-2.ensures ∙
    rw ((of_bits-to_bits binary64 c.args.x ((rw c.well_formed.0.1 tt)))) at (sym (none_told (to_bits binary64 c.args.x)
    c.if-b-lt9218868437227405312.false (to_bits-lt binary64 _ ((rw c.well_formed.0.1 tt))) c.if-b.false))
