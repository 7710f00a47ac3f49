-- The root is the nearest value of the format, strictly: nothing else in binary64 is as near to the exact root. And
-- whatever is so is the root. Assumes nothing.
use mathlib.Core.Path.{◌≡◌, sym, ◌∙◌, subst}
use Prim.Native.Nat.{ℕ, ◌+◌, ◌*◌, ◌≤◌, ◌<◌}
use native.Mathlib.Nat.{lt_irrefl, lt_trans, le_antisymm, le_of_suc-le-suc, lt_of_not-le, add_comm}
use lib.Dec.{T, lit≤}
use lib.Ieee.{Float, binary64, fits}
use Rattle.root.specs.Root.{sqrt_of}
use Rattle.root.specs.Steps.{steps_of, has_root}
use Rattle.root.specs.Ieee.{NearestRoot, root_squared}
use Rattle.root.proofs.StepLaws.{steps-held, steps_unique, real_finite}
use Rattle.root.proofs.Middle.{Short}
use Rattle.root.proofs.RootSteps.{root_near_above, root_near_below}
use Rattle.root.proofs.RootLaws.{root-steps, root_fits, root_sign, root_real}

-- ---- it is the nearest

short : (x : Float) → T (fits binary64 x) → T (has_root x) → Short 52 (steps_of x)
short x t h =
    let s = steps-held binary64 x t (real_finite x h) in
    record { j = s.j; i = s.i; small = s.small; is = s.is }

pub nearest-root : (x : Float) → T (fits binary64 x) → T (has_root x) → NearestRoot x (sqrt_of x)
nearest-root x t h =
    record {
      held = root_fits x h;
      real = root_real x t h;
      sign = root_sign x t h;
      above = λ y u k l. subst (λ (z : ℕ). 4 * root_squared x < (z + steps_of y) * (z + steps_of y))
          (sym (root-steps x t h))
          (root_near_above 52 1074 (steps_of x) (steps_of y) (lit≤ tt) (short x t h) (short y u k)
          (subst (λ (z : ℕ). z < steps_of y) (root-steps x t h) l));
      below = λ y u k l. subst (λ (z : ℕ). (z + steps_of y) * (z + steps_of y) < 4 * root_squared x)
          (sym (root-steps x t h))
          (root_near_below 52 1074 (steps_of x) (steps_of y) (lit≤ tt) (short x t h) (short y u k)
          (subst (λ (z : ℕ). steps_of y < z) (root-steps x t h) l));
    }

-- ---- and the only one

le_of_not_lt : {a b : ℕ} → (a < b → ⊥) → b ≤ a
le_of_not_lt h = le_of_suc-le-suc (lt_of_not-le h)

-- of two nearest values neither can be the larger
not-above : (x r q : Float) → NearestRoot x r → NearestRoot x q → steps_of r < steps_of q → ⊥
not-above x r q a b l =
    lt_irrefl (4 * root_squared x)
    (lt_trans (a.above q b.held b.real l)
    (subst (λ (z : ℕ). z * z < 4 * root_squared x) (add_comm (steps_of q) (steps_of r))
    (b.below r a.held a.real l)))

pub nearest_only : (x r q : Float) → NearestRoot x r → NearestRoot x q → r ≡ q
nearest_only x r q a b =
    steps_unique binary64 r q a.held (real_finite r a.real) b.held (real_finite q b.real)
    (a.sign ∙ sym b.sign)
    (le_antisymm (le_of_not_lt (not-above x q r b a)) (le_of_not_lt (not-above x r q a b)))

pub nearest_is_root : (x r : Float) → T (fits binary64 x) → T (has_root x) → NearestRoot x r → r ≡ sqrt_of x
nearest_is_root x r t h a = nearest_only x r (sqrt_of x) a (nearest-root x t h)
