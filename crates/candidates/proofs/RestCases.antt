-- The cases of a float's remainder, as the code tests for them: see RestLaws. Assumes nothing.
use mathlib.Core.Path.{◌≡◌, refl, sym, ap, ◌∙◌, subst}
use mathlib.Core.Bool.{Bool, true, false, not, true≢false}
use Prim.Native.Nat.{ℕ, zero, suc, ◌+◌, ◌-◌, ◌*◌, ◌/◌, ◌%◌, ◌^◌, ◌<◌, ◌≤◌}
use native.Mathlib.Nat.{mod-eq_of_lt, mod-eq-sub-mod, mod-lt, zero-mul, not-le_of_lt, mul-pos, zero-lt-suc}
use native.Mathlib.Nat.{lt_of_not-le}
use native.Mathlib.Omega.{arith}
use borrow.Author.Tests.{ltb-true, lt-ltb}
use lib.IntN.{ℤ}
use lib.Dec.{T, ltb}
use lib.Ieee.{Float, nan, inf, fin, binary64, low, up, down, round}
use lib.Ieee.{add, sub, neg, rem, fits, lt, is_nan, of_bits}
use lib.Ieee.Fits.{up_pos, add-fits, neg-fits, round-fits}
use lib.Ieee.Exact.{HasValue}
use lib.Ieee.Scale.{finite, overflow}
use Rattle.std.specs.Float.{float_is_finite, float_is_infinite}
use Rattle.std.proofs.lemmas.Float.{lt_irrefl, lt_of_lt_of_le, le_of_not-lt, T_from_true, T_from_false}
use Rattle.root.specs.Steps.{steps_of, sign_of, has_root}
use Rattle.root.proofs.StepLaws.{Held, steps_value, steps_of_lem, steps-held, real_finite, minus_zero, le→steps}
use Rattle.root.proofs.StepLaws.{steps→le}
use Rattle.root.proofs.RootLaws.{plus_real}
use Rattle.root.proofs.Negation.{round-neg}
use Rattle.points.specs.Numbers.{zero64}
use Rattle.grid.proofs.MoveLaws.{above_of_below}
use Rattle.candidates.proofs.RestLaws.{mod_twice_below, mod_twice_above, held_rest, round_held, own_round, rem_steps}
use Rattle.candidates.proofs.RestLaws.{sub_steps, twice_steps, held_twice}

abbrev L : ℕ
L = 2 ^ low binary64

-- ---- comparisons of numbers that are not below zero, by steps

pub record Real (x : Float) : Type 0 where
  pub held : T (fits binary64 x)
  pub real : has_root x ≡ true

told : (b : Bool) → T b → b ≡ true
told true t = refl
told false t = absurd t

real_number : (x : Float) → T (has_root x) → T (not (is_nan x))
unfolding is_nan
real_number nan h = h
real_number (inf s) h = tt
real_number (fin s m e) h = tt

pub lt→steps : (x y : Float) → Real x → Real y → lt x y ≡ true → steps_of x < steps_of y
lt→steps x y p q e = lt_of_not-le (λ h. lt_irrefl x (lt_of_lt_of_le x y x (T_from_true _ e)
    (steps→le binary64 y x q.held (T_from_true _ q.real) p.held (T_from_true _ p.real) h)))

pub nlt→steps : (x y : Float) → Real x → Real y → lt x y ≡ false → steps_of y ≤ steps_of x
nlt→steps x y p q e =
    le→steps binary64 y x q.held (T_from_true _ q.real) p.held (T_from_true _ p.real)
    (le_of_not-lt x y (real_number x (T_from_true _ p.real)) (real_number y (T_from_true _ q.real))
    (T_from_false (lt x y) e))

pub steps→lt : (x y : Float) → Real x → Real y → steps_of x < steps_of y → lt x y ≡ true
steps→lt x y p q h = go (lt x y) refl
  where
    go : (b : Bool) → lt x y ≡ b → b ≡ true
    go true e = refl
    go false e = absurd (not-le_of_lt h (nlt→steps x y p q e))

zero_real : Real zero64
unfolding fits of_bits
zero_real = record { held = tt; real = refl }

zero_steps : steps_of zero64 ≡ 0
unfolding of_bits
zero_steps = refl

pub above_steps : (y : Float) → Real y → lt zero64 y ≡ true → 0 < steps_of y
above_steps y q e = subst (λ (z : ℕ). z < steps_of y) zero_steps (lt→steps zero64 y zero_real q e)

value : (x : Float) → Real x → HasValue x (sign_of x) (steps_of x) L
value x p = steps_value binary64 x p.held (real_finite x (T_from_true _ p.real))

plus_sign : (x : Float) → T (has_root x) → 0 < steps_of x → sign_of x ≡ false
plus_sign nan h p = refl
plus_sign (inf true) h p = absurd h
plus_sign (inf false) h p = refl
plus_sign (fin false m e) h p = refl
plus_sign (fin true zero e) h p = absurd (native.Mathlib.Nat.lt_irrefl 0 (subst (λ (z : ℕ). 0 < z) (none e) p))
  where
    none : (e : ℤ) → steps_of (fin true 0 e) ≡ 0
    none e =
        ap (λ (z : ℕ). z * 2 ^ low binary64 / down e) (zero-mul (up e))
        ∙ ap (λ (z : ℕ). z / down e) (zero-mul (2 ^ low binary64)) ∙ native.Mathlib.Nat.zero-div (down e)
plus_sign (fin true (suc m) e) h p = let z : suc m ≡ 0 = minus_zero (suc m) h in absurd (omega arith)

plus_value : (x : Float) → Real x → 0 < steps_of x → HasValue x false (steps_of x) L
plus_value x p h = subst (λ (s : Bool). HasValue x s (steps_of x) L) (plus_sign x (T_from_true _ p.real) h) (value x p)

held : (x : Float) → Real x → Held binary64 (steps_of x)
held x p = steps-held binary64 x p.held (real_finite x (T_from_true _ p.real))

-- what has a value that is not below zero is such a number
real_value : (z : Float) (n : ℕ) → T (fits binary64 z) → HasValue z false n L → Real z
real_value z n t v = record { held = t; real = told (has_root z) (plus_real z n L v) }

-- ---- the rest of x by y, y above zero

module _ (x y : Float) (p : Real x) (q : Real y) (above : lt zero64 y ≡ true) where
  some : 0 < steps_of y
  some = above_steps y q above

  by_steps : rem binary64 x y ≡ round binary64 (sign_of x) (steps_of x % steps_of y) L
  by_steps = rem_steps binary64 x y (sign_of x) (sign_of y) (steps_of x) (steps_of y) (value x p) (value y q) some

  -- below y it is x
  pub rest_below : lt x y ≡ true → x ≡ rem binary64 x y
  rest_below e =
      own_round binary64 x p.held (real_finite x (T_from_true _ p.real))
      ∙ ap (λ (z : ℕ). round binary64 (sign_of x) z L) (sym (mod-eq_of_lt (lt→steps x y p q e)))
      ∙ sym by_steps

  module _ (not_below : lt x y ≡ false) where
    ordered : steps_of y ≤ steps_of x
    ordered = nlt→steps x y p q not_below

    plus_x : HasValue x false (steps_of x) L
    plus_x = plus_value x p (omega (arith, some, ordered))

    plus_y : HasValue y false (steps_of y) L
    plus_y = plus_value y q some

    plus_rest : rem binary64 x y ≡ round binary64 false (steps_of x % steps_of y) L
    plus_rest =
        rem_steps binary64 x y false false (steps_of x) (steps_of y) plus_x plus_y some

    module _ (double : steps_of y + steps_of y < overflow binary64) where
      twice_value : HasValue (add binary64 y y) false (steps_of y + steps_of y) L
      twice_value =
          subst (λ (z : Float). HasValue z false (steps_of y + steps_of y) L)
          (sym (twice_steps binary64 y (steps_of y) plus_y))
          (round_held binary64 false (steps_of y + steps_of y) (held_twice binary64 (steps_of y) (held y q) double))

      pub twice_real : Real (add binary64 y y)
      twice_real = real_value (add binary64 y y) (steps_of y + steps_of y) (add-fits binary64 y y) twice_value

      pub twice_is : steps_of (add binary64 y y) ≡ steps_of y + steps_of y
      twice_is = steps_of_lem binary64 (add binary64 y y) false (steps_of y + steps_of y) twice_value

      pub twice_above : lt zero64 (add binary64 y y) ≡ true
      twice_above = steps→lt zero64 (add binary64 y y) zero_real twice_real
          (subst (λ (z : ℕ). z < steps_of (add binary64 y y)) (sym zero_steps)
          (subst (λ (z : ℕ). 0 < z) (sym twice_is) (omega (arith, some))))

      -- what is left by twice as much
      module _ (z : Float) (is : z ≡ rem binary64 x (add binary64 y y)) where
        Z : z ≡ round binary64 false (steps_of x % (steps_of y + steps_of y)) L
        Z = is ∙ rem_steps binary64 x (add binary64 y y) false false (steps_of x) (steps_of y + steps_of y) plus_x
            twice_value (omega (arith, some))

        left_value : HasValue z false (steps_of x % (steps_of y + steps_of y)) L
        left_value =
            subst (λ (w : Float). HasValue w false (steps_of x % (steps_of y + steps_of y)) L) (sym Z)
            (round_held binary64 false (steps_of x % (steps_of y + steps_of y))
            (held_rest binary64 (steps_of x) (steps_of y + steps_of y) (held x p)
            (held_twice binary64 (steps_of y) (held y q) double) (omega (arith, some))))

        left_real : Real z
        left_real = real_value z _
            (subst (λ (w : Float). T (fits binary64 w)) (sym Z)
            (round-fits binary64 false (steps_of x % (steps_of y + steps_of y)) L)) left_value

        left_is : steps_of z ≡ steps_of x % (steps_of y + steps_of y)
        left_is = steps_of_lem binary64 z false _ left_value

        pub rest_kept : lt z y ≡ true → z ≡ rem binary64 x y
        rest_kept e =
            let under : steps_of x % (steps_of y + steps_of y) < steps_of y =
            subst (λ (n : ℕ). n < steps_of y) left_is (lt→steps z y left_real q e) in
            Z ∙ ap (λ (n : ℕ). round binary64 false n L) (sym (mod_twice_below (steps_of x) (steps_of y) some under))
            ∙ sym plus_rest

        pub rest_less : lt z y ≡ false → sub binary64 z y ≡ rem binary64 x y
        rest_less e =
            let over : steps_of y ≤ steps_of x % (steps_of y + steps_of y) =
            subst (λ (n : ℕ). steps_of y ≤ n) left_is (nlt→steps z y left_real q e) in
            sub_steps binary64 z y _ (steps_of y) left_value plus_y over
            ∙ ap (λ (n : ℕ). round binary64 false n L) (sym (mod_twice_above (steps_of x) (steps_of y) some over))
            ∙ sym plus_rest

    -- beyond half of all numbers y goes once
    pub rest_once : overflow binary64 ≤ steps_of y + steps_of y → sub binary64 x y ≡ rem binary64 x y
    rest_once h =
        let under : steps_of x < overflow binary64 = (held x p).under in
        let less : steps_of x - steps_of y < steps_of y = omega (arith, ordered) in
        let is : steps_of x % steps_of y ≡ steps_of x - steps_of y = mod-eq-sub-mod ordered ∙ mod-eq_of_lt less in
        sub_steps binary64 x y (steps_of x) (steps_of y) plus_x plus_y ordered
        ∙ ap (λ (n : ℕ). round binary64 false n L) (sym is) ∙ sym plus_rest

-- ---- half of all numbers, 2 ^ 1023

abbrev pub half_of_all : Float
half_of_all = of_bits binary64 0x7fe0_0000_0000_0000

half_real : Real half_of_all
unfolding fits of_bits
half_real = record { held = tt; real = refl }

half_steps : steps_of half_of_all + steps_of half_of_all ≡ overflow binary64
unfolding of_bits
half_steps = refl

pub doubles : (y : Float) → Real y → lt y half_of_all ≡ true → steps_of y + steps_of y < overflow binary64
doubles y q e =
    let h = lt→steps y half_of_all q half_real e in
    subst (λ (n : ℕ). steps_of y + steps_of y < n) half_steps (omega (arith, h))

pub doubles_not : (y : Float) → Real y → lt y half_of_all ≡ false → overflow binary64 ≤ steps_of y + steps_of y
doubles_not y q e =
    let h = nlt→steps y half_of_all q half_real e in
    subst (λ (n : ℕ). n ≤ steps_of y + steps_of y) half_steps (omega (arith, h))

-- ---- numbers that are none, infinite ones, zero, and those below it

pub finite_is : (x : Float) → true ≡ float_is_finite x → T (finite x)
unfolding float_is_finite
finite_is nan e = absurd (true≢false e)
finite_is (inf s) e = absurd (true≢false e)
finite_is (fin s m d) e = tt

-- not infinite, and on one side of zero
pub finite_below : (y : Float) → false ≡ float_is_infinite y → lt y zero64 ≡ true → T (finite y)
unfolding float_is_infinite lt of_bits
finite_below nan i e = absurd (true≢false (sym e))
finite_below (inf s) i e = absurd (true≢false (sym i))
finite_below (fin s m d) i e = tt

pub finite_above : (y : Float) → false ≡ float_is_infinite y → lt zero64 y ≡ true → T (finite y)
unfolding float_is_infinite lt of_bits
finite_above nan i e = absurd (true≢false (sym e))
finite_above (inf s) i e = absurd (true≢false (sym i))
finite_above (fin s m d) i e = tt

-- what is no number, or infinite, has no rest
pub rest_none : (x y : Float) → false ≡ float_is_finite x → nan ≡ rem binary64 x y
unfolding float_is_finite rem
rest_none nan y e = refl
rest_none (inf s) y e = refl
rest_none (fin s m d) y e = absurd (true≢false (sym e))

-- by an infinite one all is left
pub rest_whole : (x y : Float) → true ≡ float_is_finite x → true ≡ float_is_infinite y → x ≡ rem binary64 x y
unfolding float_is_finite float_is_infinite rem
rest_whole nan y h i = absurd (true≢false h)
rest_whole (inf s) y h i = absurd (true≢false h)
rest_whole (fin s m d) nan h i = absurd (true≢false i)
rest_whole (fin s m d) (inf t) h i = refl
rest_whole (fin s m d) (fin t k z) h i = absurd (true≢false i)

-- what has a digit is above zero
sized : (m : ℕ) (d : ℤ) → 0 < suc m * up d * 1
sized m d = mul-pos (mul-pos (zero-lt-suc m) (up_pos d)) (zero-lt-suc 0)

pub real_above : (y : Float) → T (fits binary64 y) → T (finite y) → lt zero64 y ≡ true → Real y
unfolding lt of_bits
real_above nan t h e = absurd h
real_above (inf s) t h e = absurd h
real_above (fin false m d) t h e = record { held = t; real = refl }
real_above (fin true m d) t h e = absurd (true≢false (sym e))

pub real_not_below : (x : Float) → T (fits binary64 x) → T (finite x) → lt x zero64 ≡ false → Real x
unfolding lt of_bits
real_not_below nan t h e = absurd h
real_not_below (inf s) t h e = absurd h
real_not_below (fin false m d) t h e = record { held = t; real = refl }
real_not_below (fin true zero d) t h e = record { held = t; real = refl }
real_not_below (fin true (suc m) d) t h e =
    let some = sized m d in
    let yes : ltb 0 (suc m * up d * 1 + 0 * down d) ≡ true =
    lt-ltb 0 (suc m * up d * 1 + 0 * down d) (omega (arith, some)) in
    absurd (true≢false (sym yes ∙ e))

-- by zero, and by what is no number, there is no rest
pub rest_zero : (x y : Float) → true ≡ float_is_finite x → false ≡ float_is_infinite y → lt y zero64 ≡ false
    → lt zero64 y ≡ false → nan ≡ rem binary64 x y
unfolding float_is_finite float_is_infinite lt of_bits rem
rest_zero nan y h i a b = absurd (true≢false h)
rest_zero (inf s) y h i a b = absurd (true≢false h)
rest_zero (fin s m e) nan h i a b = refl
rest_zero (fin s m e) (inf t) h i a b = absurd (true≢false (sym i))
rest_zero (fin s m e) (fin t zero d) h i a b = refl
rest_zero (fin s m e) (fin false (suc n) d) h i a b =
    let some = sized n d in
    let yes : ltb (0 * down d) (suc n * up d * 1) ≡ true =
    lt-ltb (0 * down d) (suc n * up d * 1) (subst (λ (z : ℕ). z < suc n * up d * 1) (sym (zero-mul (down d))) some) in
    absurd (true≢false (sym yes ∙ b))
rest_zero (fin s m e) (fin true (suc n) d) h i a b =
    let some = sized n d in
    let yes : ltb 0 (suc n * up d * 1 + 0 * down d) ≡ true =
    lt-ltb 0 (suc n * up d * 1 + 0 * down d) (omega (arith, some)) in
    absurd (true≢false (sym yes ∙ a))

-- ---- below zero

neg_value : (x : Float) (s : Bool) (a c : ℕ) → HasValue x s a c → HasValue (neg x) (not s) a c
unfolding neg
neg_value nan s a c v = v
neg_value (inf t) s a c v = v
neg_value (fin t m e) s a c v = (ap not v.0, v.1)

neg_finite : (x : Float) → T (finite x) → T (finite (neg x))
unfolding neg
neg_finite nan h = h
neg_finite (inf t) h = h
neg_finite (fin t m e) h = tt

-- a number below zero has the sign, and is above zero without it
pub real_neg : (x : Float) → T (fits binary64 x) → T (finite x) → lt x zero64 ≡ true → Real (neg x)
real_neg x t h e = real_above (neg x) (neg-fits binary64 x t) (neg_finite x h) (above_of_below x e)

minus_sign : (x : Float) → lt x zero64 ≡ true → T (finite x) → sign_of x ≡ true
unfolding lt of_bits
minus_sign nan e h = absurd h
minus_sign (inf s) e h = absurd h
minus_sign (fin true m d) e h = refl
minus_sign (fin false m d) e h =
    absurd (omega (arith, ltb-true (m * up d * 1) (0 * down d) e, zero-mul (down d)))

-- the rest of one below zero is that of its size, below zero
pub rest_minus : (x y : Float) → T (fits binary64 x) → T (finite x) → lt x zero64 ≡ true → Real y → lt zero64 y ≡ true
    → neg (rem binary64 (neg x) y) ≡ rem binary64 x y
rest_minus x y t h e q above =
    let v : HasValue x true (steps_of x) L =
    subst (λ (s : Bool). HasValue x s (steps_of x) L) (minus_sign x e h) (steps_value binary64 x t h) in
    let w : HasValue y false (steps_of y) L = plus_value y q (above_steps y q above) in
    ap neg (rem_steps binary64 (neg x) y false false (steps_of x) (steps_of y) (neg_value x true (steps_of x) L v) w
    (above_steps y q above))
    ∙ sym (round-neg binary64 false (steps_of x % steps_of y) L)
    ∙ sym (rem_steps binary64 x y true false (steps_of x) (steps_of y) v w (above_steps y q above))

-- and by one below zero it is that by its size
pub rest_by_minus : (x y : Float) → T (fits binary64 x) → T (finite x) → T (fits binary64 y) → T (finite y)
    → lt y zero64 ≡ true → rem binary64 x (neg y) ≡ rem binary64 x y
rest_by_minus x y t h u k e =
    let n = real_neg y u k e in
    let some = above_steps (neg y) n (above_of_below y e) in
    let w = steps_value binary64 y u k in
    let is : steps_of (neg y) ≡ steps_of y =
    steps_of_lem binary64 (neg y) (not (sign_of y)) (steps_of y) (neg_value y (sign_of y) (steps_of y) L w) in
    let more : 0 < steps_of y = subst (λ (z : ℕ). 0 < z) is some in
    let v = steps_value binary64 x t h in
    rem_steps binary64 x (neg y) (sign_of x) (not (sign_of y)) (steps_of x) (steps_of y) v
    (neg_value y (sign_of y) (steps_of y) L w) more
    ∙ sym (rem_steps binary64 x y (sign_of x) (sign_of y) (steps_of x) (steps_of y) v w more)
