-- What the root of binary64 always is: a finite number of the format with its argument's sign, in the order of its
-- arguments. Assumes nothing.
use Rattle.std.specs.Prelude.{Err, Ok}
use mathlib.Core.Path.{◌≡◌, refl, sym, ap, ◌∙◌, subst}
use mathlib.Core.Bool.{Bool, true, false, not, cond, false≢true, true≢false}
use Prim.Native.Nat.{ℕ, zero, suc, ◌*◌, ◌/◌, ◌^◌, ◌≤◌, ◌<◌}
use native.Mathlib.Nat.{le_refl, le_of_eq, lt_of_lt_of_le, lt_of_le_of_lt, not-le_of_lt, zero-lt-suc, zero-mul}
use native.Mathlib.Nat.{zero-div, mul-pos, mul-le-mul_right, mul-lt-mul_of_pos_right}
use lib.IntN.{ℤ, pos}
use lib.Dec.{T, lit≤, lit<}
use lib.Arith.{le→nltb}
use lib.Pow.{pow_pos}
use lib.Count.{count_trailing_zeros}
use lib.Ieee.{Float, nan, inf, fin, binary64, up, down, size, span, climb, odd, units, round, fits, le}
use lib.Ieee.Fits.{round-fits, up_pos}
use lib.Ieee.Bits.{cond_no}
use lib.Ieee.Exact.{HasValue}
use lib.Ieee.Order.{round_mono}
use lib.Ieee.Scale.{finite, overflow}
use Rattle.root.specs.Whole.{whole_root, digits, halves}
use Rattle.root.specs.Root.{sqrt_of, root_of, root_finite, negative, no_root, steps}
use Rattle.root.proofs.WholeLaws.{halves_mono}
use Rattle.root.specs.Steps.{steps_of, sign_of, has_root}
use Rattle.root.proofs.StepLaws.{steps-held, steps_of_lem, minus_zero, real_finite, le→steps, steps→le}
use Rattle.root.proofs.Rounding.{round-steps, grid-le}
use Rattle.root.proofs.RootSteps.{root_steps, root_of_zero, root-part_under}

-- ---- what a value says: that it is finite, and its sign

pub value_finite : (x : Float) (s : Bool) (a c : ℕ) → HasValue x s a c → T (finite x)
value_finite nan s a c h = h
value_finite (inf t) s a c h = h
value_finite (fin t m e) s a c h = tt

pub value_sign : (x : Float) (s : Bool) (a c : ℕ) → HasValue x s a c → sign_of x ≡ s
value_sign nan s a c h = absurd h
value_sign (inf t) s a c h = absurd h
value_sign (fin t m e) s a c h = h.0

no_size : (m u c d a : ℕ) → 0 < u → 0 < c → a ≡ 0 → m * u * c ≡ a * d → m ≤ 0
no_size zero u c d a p q z e = le_refl 0
no_size (suc m) u c d a p q z e =
    absurd (not-le_of_lt (mul-pos (mul-pos (zero-lt-suc m) p) q) (le_of_eq (e ∙ ap (λ (x : ℕ). x * d) z ∙ zero-mul d)))

value_real : (x : Float) (s : Bool) (a c : ℕ) → 0 < c → (s ≡ true → a ≡ 0) → HasValue x s a c → T (has_root x)
value_real nan s a c p z h = h
value_real (inf t) s a c p z h = h
value_real (fin false m e) s a c p z h = tt
value_real (fin true m e) s a c p z h = le→nltb 0 m (no_size m (up e) c (down e) a (up_pos e) p (z (sym h.0)) h.1)

-- a value without a minus sign has a root
pub plus_real : (x : Float) (a c : ℕ) → HasValue x false a c → T (has_root x)
plus_real nan a c h = h
plus_real (inf t) a c h = h
plus_real (fin true m e) a c h = absurd (true≢false h.0)
plus_real (fin false m e) a c h = tt

minus_steps : (x : Float) → T (has_root x) → sign_of x ≡ true → steps_of x ≡ 0
minus_steps nan h q = absurd h
minus_steps (inf s) h q = absurd h
minus_steps (fin false m e) h q = absurd (false≢true q)
minus_steps (fin true m e) h q =
    ap (λ (z : ℕ). z * up e * 2 ^ 1074 / down e) (minus_zero m h)
    ∙ ap (λ (z : ℕ). z * 2 ^ 1074 / down e) (zero-mul (up e)) ∙ zero-div (down e)

-- ---- the root as `round` has it

pub sqrt_is : (s : Bool) (m : ℕ) (e : ℤ) → T (not (negative s m)) → sqrt_of (fin s m e) ≡ root_finite s m e
unfolding sqrt_of
sqrt_is s m e h = cond_no (negative s m) nan (root_finite s m e) h

round-root : (s : Bool) (X : ℕ) → X < overflow binary64
    → HasValue (round binary64 s (halves (X * 2 ^ 1074)) (2 ^ 1075)) s (root_steps 52 1074 X) (2 ^ 1074)
round-root s X h =
    round-steps binary64 s (halves (X * 2 ^ 1074)) (2 ^ 1075)
    (lt_of_le_of_lt
    (grid-le binary64 (halves (X * 2 ^ 1074)) (2 ^ 1075) 2044
    (root-part_under 1074 2097 X (lt_of_lt_of_le (mul-lt-mul_of_pos_right h (pow_pos 1074)) (lit≤ tt))))
    (lit< tt))

finite_is : (s : Bool) (m : ℕ) (e : ℤ) → root_finite s m e ≡ round binary64 s (halves (steps m e * 2 ^ 1074)) (2 ^ 1075)
unfolding root_finite
finite_is s m e = refl

pub root_value : (x : Float) → T (fits binary64 x) → T (has_root x)
    → HasValue (sqrt_of x) (sign_of x) (root_steps 52 1074 (steps_of x)) (2 ^ 1074)
root_value nan t h = absurd h
root_value (inf s) t h = absurd h
root_value (fin s m e) t h =
    subst (λ (z : Float). HasValue z s (root_steps 52 1074 (steps m e)) (2 ^ 1074))
    (sym (sqrt_is s m e h ∙ finite_is s m e))
    (round-root s (steps m e) (steps-held binary64 (fin s m e) t tt).under)

pub root-steps : (x : Float) → T (fits binary64 x) → T (has_root x) → steps_of (sqrt_of x) ≡ root_steps 52 1074 (steps_of x)
root-steps x t h = steps_of_lem binary64 (sqrt_of x) (sign_of x) (root_steps 52 1074 (steps_of x)) (root_value x t h)

-- ---- the root is a finite number of the format with the sign of x

pub root_fits : (x : Float) → T (has_root x) → T (fits binary64 (sqrt_of x))
root_fits nan h = absurd h
root_fits (inf s) h = absurd h
root_fits (fin s m e) h =
    subst (λ (z : Float). T (fits binary64 z)) (sym (sqrt_is s m e h ∙ finite_is s m e))
    (round-fits binary64 s (halves (steps m e * 2 ^ 1074)) (2 ^ 1075))

pub root_sign : (x : Float) → T (fits binary64 x) → T (has_root x) → sign_of (sqrt_of x) ≡ sign_of x
root_sign x t h = value_sign (sqrt_of x) (sign_of x) (root_steps 52 1074 (steps_of x)) (2 ^ 1074) (root_value x t h)

pub root_real : (x : Float) → T (fits binary64 x) → T (has_root x) → T (has_root (sqrt_of x))
root_real x t h =
    value_real (sqrt_of x) (sign_of x) (root_steps 52 1074 (steps_of x)) (2 ^ 1074) (lit< tt)
    (λ (q : sign_of x ≡ true). ap (root_steps 52 1074) (minus_steps x h q) ∙ root_of_zero 52 1074) (root_value x t h)

pub root-finite : (x : Float) → T (fits binary64 x) → T (has_root x) → T (finite (sqrt_of x))
root-finite x t h = real_finite (sqrt_of x) (root_real x t h)

-- ---- and in the order of its arguments

steps_mono : (X Z : ℕ) → X < overflow binary64 → Z < overflow binary64 → X ≤ Z
    → root_steps 52 1074 X ≤ root_steps 52 1074 Z
steps_mono X Z p q h =
    let a = halves (X * 2 ^ 1074) in
    let b = halves (Z * 2 ^ 1074) in
    let r = round binary64 false a (2 ^ 1075) in
    let w = round binary64 false b (2 ^ 1075) in
    let v = round-root false X p in
    let u = round-root false Z q in
    subst (λ (z : ℕ). z ≤ root_steps 52 1074 Z) (steps_of_lem binary64 r false (root_steps 52 1074 X) v)
    (subst (λ (z : ℕ). steps_of r ≤ z) (steps_of_lem binary64 w false (root_steps 52 1074 Z) u)
    (le→steps binary64 r w (round-fits binary64 false a (2 ^ 1075)) (plus_real r _ _ v)
    (round-fits binary64 false b (2 ^ 1075)) (plus_real w _ _ u)
    (round_mono binary64 a (2 ^ 1075) b (2 ^ 1075) (lit< tt) (lit< tt)
    (mul-le-mul_right (2 ^ 1075) (halves_mono (X * 2 ^ 1074) (Z * 2 ^ 1074) (mul-le-mul_right (2 ^ 1074) h))))))

pub root_mono : (x y : Float) → T (fits binary64 x) → T (has_root x) → T (fits binary64 y) → T (has_root y) → T (le x y)
    → T (le (sqrt_of x) (sqrt_of y))
root_mono x y t h u k l =
    steps→le binary64 (sqrt_of x) (sqrt_of y) (root_fits x h) (root_real x t h) (root_fits y k) (root_real y u k)
    (subst (λ (z : ℕ). z ≤ steps_of (sqrt_of y)) (sym (root-steps x t h))
    (subst (λ (z : ℕ). root_steps 52 1074 (steps_of x) ≤ z) (sym (root-steps y u k))
    (steps_mono (steps_of x) (steps_of y) (steps-held binary64 x t (real_finite x h)).under
    (steps-held binary64 y u (real_finite y k)).under (le→steps binary64 x y t h u k l))))

-- ---- zeros, and the root that users ask for

pub root-zero : (s : Bool) → sqrt_of (fin s 0 (pos 0)) ≡ fin s 0 (pos 0)
unfolding sqrt_of root_finite whole_root digits halves odd size span climb round units count_trailing_zeros
root-zero true = refl
root-zero false = refl

pub root_given : (x : Float) → T (has_root x) → root_of x ≡ Ok (sqrt_of x)
unfolding root_of sqrt_of
root_given nan h = absurd h
root_given (inf s) h = absurd h
root_given (fin s m e) h =
    cond_no (negative s m) (Err no_root) (Ok (root_finite s m e)) h
    ∙ ap Ok (sym (cond_no (negative s m) nan (root_finite s m e) h))

pub root-refused : (x : Float) → T (not (has_root x)) → root_of x ≡ Err no_root
unfolding root_of
root-refused nan h = refl
root-refused (inf s) h = refl
root-refused (fin s m e) h = go (negative s m) h
  where
    go : (b : Bool) → T (not (not b)) → cond b (Err no_root) (Ok (root_finite s m e)) ≡ Err no_root
    go true g = refl
    go false g = absurd g
