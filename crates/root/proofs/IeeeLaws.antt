-- sqrt_of is IEEE 754's square root, and nothing else is. Assumes nothing.
use mathlib.Core.Path.{◌≡◌, refl, sym, ◌∙◌, subst}
use mathlib.Core.Bool.{Bool, true, false, not}
use Prim.Native.Nat.{ℕ, ◌+◌, ◌*◌, ◌<◌}
use native.Mathlib.Nat.{mul-pos}
use native.Mathlib.Omega.{arith}
use lib.IntN.{ℤ}
use lib.Dec.{T, ltb→lt, lt→ltb}
use lib.Ieee.{Float, nan, inf, fin, binary64, up, down, lt}
use lib.Ieee.Fits.{up_pos}
use Rattle.root.specs.Root.{sqrt_of, negative}
use Rattle.root.specs.Ieee.{zero_of, KeepsZeros, NoneBelow, SquareRoot, Counted, Only, Claim}
use Rattle.root.proofs.StepLaws.{steps_value}
use Rattle.root.proofs.Cases.{below_zero}
use Rattle.root.proofs.RootLaws.{root-zero}
use Rattle.root.proofs.Nearest.{nearest-root, nearest_is_root}

counted : Counted
counted = steps_value binary64

-- ---- where there is no finite root, and the zeros

of_nan : sqrt_of nan ≡ nan
unfolding sqrt_of
of_nan = refl

of_infinity : sqrt_of (inf false) ≡ inf false
unfolding sqrt_of
of_infinity = refl

of_minus_infinity : sqrt_of (inf true) ≡ nan
unfolding sqrt_of
of_minus_infinity = refl

of_zero : KeepsZeros sqrt_of
of_zero = root-zero

-- against 0 a size is compared with a product that is 0
is_some : (a d : ℕ) → 0 < a * 1 + 0 * 1 * d → 0 < a
is_some a d h = omega arith

of_below : NoneBelow sqrt_of
unfolding lt
of_below nan t = absurd t
of_below (inf true) t = of_minus_infinity
of_below (inf false) t = absurd t
of_below (fin true m e) t =
    below_zero (fin true m e) (m * up e) (down e) (is_some (m * up e) (down e) (ltb→lt _ _ t)) (refl, refl)
of_below (fin false m e) t =
    let h : m * up e * 1 < 0 * 1 * down e = ltb→lt _ _ t in absurd (omega arith)

-- ---- together

square-root : SquareRoot sqrt_of
square-root =
    record {
      of_nan = of_nan;
      of_infinity = of_infinity;
      of_minus_infinity = of_minus_infinity;
      of_zero = of_zero;
      of_below = of_below;
      of_others = nearest-root;
    }

-- ---- nothing else is so

negative_below : (s : Bool) (m : ℕ) (e : ℤ) → T (negative s m) → T (lt (fin s m e) (zero_of false))
unfolding lt
negative_below true m e t =
    let p : 0 < m * up e = mul-pos (ltb→lt 0 m t) (up_pos e) in
    lt→ltb 0 (m * up e * 1 + 0 * 1 * down e) (omega arith)
negative_below false m e t = absurd t

only : Only
only root k nan t = k.of_nan ∙ sym of_nan
only root k (inf true) t = k.of_minus_infinity ∙ sym of_minus_infinity
only root k (inf false) t = k.of_infinity ∙ sym of_infinity
only root k (fin s m e) t = go (negative s m) refl
  where
    x : Float
    x = fin s m e

    go : (b : Bool) → negative s m ≡ b → root x ≡ sqrt_of x
    go true q =
        let l = negative_below s m e (subst T (sym q) tt) in
        k.of_below x l ∙ sym (of_below x l)
    go false q =
        let h : T (not (negative s m)) = subst (λ (b : Bool). T (not b)) (sym q) tt in
        nearest_is_root x (root x) t h (k.of_others x t h)

pub claim : Claim
claim = (counted, square-root, only)
