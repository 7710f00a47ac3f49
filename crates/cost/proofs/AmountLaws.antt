-- What comparisons tell of a number: whether it can be an amount. Assumes nothing.
use Rattle.std.proofs.Common.{◌≡◌, ℕ, zero, suc, ◌+◌, ◌*◌, ◌<◌, true, false, ltb, sym, refl, ◌∙◌, true≢false, zero-lt-suc, mul-pos, zero-mul, mul-one, arith, le-ltb, lt-ltb}
use mathlib.Core.Bool.{false≢true}
use lib.Ieee.{Float, nan, inf, fin, binary64, up, down, lt, of_bits}
use lib.Ieee.Fits.{up_pos}
use Rattle.std.specs.Float.{float_is_finite}
use Rattle.cost.specs.Sequence.{no_amount}

some_way : (m u d : ℕ) → 0 < u → ltb 0 (m * u * 1 + 0 * d) ≡ ltb 0 m
some_way zero u d h = simp zero-mul
some_way (suc m) u d h =
    let g : 0 < suc m * u = mul-pos (zero-lt-suc m) h in
    rw (mul-one, zero-mul) (lt-ltb 0 (suc m * u + 0) (omega arith) ∙ sym (lt-ltb 0 (suc m) (zero-lt-suc m)))

pub finite_amount : (x : Float) → true ≡ float_is_finite x → lt x (of_bits binary64 0) ≡ no_amount x
unfolding no_amount float_is_finite lt of_bits
finite_amount nan p = absurd (true≢false p)
finite_amount (inf s) p = absurd (true≢false p)
finite_amount (fin true m e) p = some_way m (up e) (down e) (up_pos e)
finite_amount (fin false m e) p = rw (zero-mul (down e)) (le-ltb (m * up e * 1) 0 (omega arith))

pub endless_amount : (x : Float) → false ≡ float_is_finite x → no_amount x ≡ true
unfolding no_amount float_is_finite
endless_amount nan p = refl
endless_amount (inf s) p = refl
endless_amount (fin s m e) p = absurd (false≢true p)
