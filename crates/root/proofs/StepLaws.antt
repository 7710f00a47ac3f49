-- A format's finite values counted in steps of its smallest one (2^-1074 for binary64): which numbers of steps are
-- values, and that sign and steps settle a value. Assumes nothing.
use mathlib.Core.Path.{◌≡◌, refl, sym, ap, ◌∙◌, subst}
use mathlib.Core.Bool.{Bool, true, false, not, ◌&&◌}
use Prim.Native.Nat.{ℕ, zero, suc, ◌+◌, ◌-◌, ◌*◌, ◌/◌, ◌%◌, ◌^◌, ◌≤◌, ◌<◌}
use native.Mathlib.Nat.{mul_left_comm, mul-lt-mul_of_pos_right, le_trans, le_of_eq, lt_of_not-le}
use native.Mathlib.Nat.{not-le_of_lt, mul-one, one-mul, mul_comm, mul_assoc, mul-div_cancel, mul-pos, mul-le-mul_right}
use native.Mathlib.Nat.{lt_of_mul-lt-mul_right, le_of_mul-le-mul_right, sub-add_cancel, zero-mul}
use native.Mathlib.Omega.{arith}
use lib.IntN.{ℤ, pos, negsuc}
use lib.Dec.{T, leb, ltb, eqb, leb→le, ltb→lt, nltb→le, eqb→eq}
use lib.Pow.{pow-add, pow_pos, pow-lt}
use lib.Ieee.{Float, nan, inf, fin, Format, prec, emax, low, up, down, fits, to_bits, of_bits, le}
use lib.Ieee.Fits.{up_pos, down_pos, and_l, and_r}
use lib.Ieee.Bits.{of_bits-to_bits}
use lib.Ieee.Exact.{HasValue}
use lib.Ieee.Order.{transfer}
use lib.Ieee.Scale.{finite, overflow}
use Rattle.root.specs.Root.{negative}
use Rattle.root.specs.Steps.{steps_in, sign_of, has_root}
use Rattle.root.proofs.AtMost.{at_most, tested}

-- ---- what `fits` says of a finite value

pub record Fitted (f : Format) (m : ℕ) (e : ℤ) : Type 0 where
  pub small : m < 2 ^ prec f
  pub fine : down e ≤ 2 ^ low f
  pub under : m * up e < 2 ^ suc (emax f) * down e

one_of_product : (a b : ℕ) → 0 < a → a * b ≡ 1 → b ≤ 1
one_of_product a b p e = le_trans (le_of_eq (sym (one-mul b))) (le_trans (mul-le-mul_right b p) (le_of_eq e))

pub fitted : (f : Format) (s : Bool) (m : ℕ) (e : ℤ) → T (fits f (fin s m e)) → Fitted f m e
unfolding fits
fitted f s zero e t =
    record {
      small = pow_pos (prec f);
      fine = le_trans (one_of_product (up e) (down e) (up_pos e) (eqb→eq (up e * down e) 1 t)) (pow_pos (low f));
      under = subst (λ (z : ℕ). z < 2 ^ suc (emax f) * down e) (sym (zero-mul (up e)))
          (mul-pos (pow_pos (suc (emax f))) (down_pos e));
    }
fitted f s (suc m) e t =
    let a = eqb (suc m % 2) 1 in
    let b = ltb (suc m) (2 ^ prec f) in
    let c = leb (down e) (2 ^ low f) in
    let d = ltb (suc m * up e) (2 ^ suc (emax f) * down e) in
    record {
      small = ltb→lt (suc m) (2 ^ prec f) (and_r a b (and_l (a && b) c (and_l (a && b && c) d t)));
      fine = leb→le (down e) (2 ^ low f) (and_r (a && b) c (and_l (a && b && c) d t));
      under = ltb→lt (suc m * up e) (2 ^ suc (emax f) * down e) (and_r (a && b && c) d t);
    }

-- ---- a value is a whole number of steps

up_power : (e : ℤ) → (j : ℕ) × (up e ≡ 2 ^ j)
up_power (pos k) = (k, refl)
up_power (negsuc k) = (0, refl)

rest_power : (k l : ℕ) → 2 ^ k ≤ 2 ^ l → 2 ^ (l - k) * 2 ^ k ≡ 2 ^ l
rest_power k l h = sym (pow-add 2 (l - k) k) ∙ ap (λ (z : ℕ). 2 ^ z) (sub-add_cancel below)
  where
    below : k ≤ l
    below = omega (arith, lt_of_not-le (λ (g : suc l ≤ k). not-le_of_lt (pow-lt g) h))

pub down_power : (e : ℤ) (l : ℕ) → down e ≤ 2 ^ l → (i : ℕ) × (2 ^ i * down e ≡ 2 ^ l)
down_power (pos k) l h = (l, mul-one (2 ^ l))
down_power (negsuc k) l h = (l - suc k, rest_power (suc k) l h)

-- n steps are a value of the format: n is j * 2 ^ i with no more digits in j than the format keeps, and not too large
pub record Held (f : Format) (n : ℕ) : Type 0 where
  pub j : ℕ
  pub i : ℕ
  pub small : j < 2 ^ prec f
  pub is : n ≡ j * 2 ^ i
  pub under : n < overflow f

steps_power : (m j i d l : ℕ) (u : ℕ) → u ≡ 2 ^ j → 2 ^ i * d ≡ 2 ^ l → 0 < d → m * u * 2 ^ l / d ≡ m * 2 ^ (j + i)
steps_power m j i d l u p q h =
    ap (λ (z : ℕ). m * z * 2 ^ l / d) p
    ∙ ap (λ (z : ℕ). m * 2 ^ j * z / d) (sym q)
    ∙ ap (λ (z : ℕ). z / d) (sym (mul_assoc (m * 2 ^ j) (2 ^ i) d))
    ∙ mul-div_cancel (m * 2 ^ j * 2 ^ i) h
    ∙ mul_assoc m (2 ^ j) (2 ^ i)
    ∙ ap (λ (z : ℕ). m * z) (sym (pow-add 2 j i))

-- the division leaves nothing
steps_exact : (m u i d l : ℕ) → 2 ^ i * d ≡ 2 ^ l → 0 < d → m * u * 2 ^ l / d * d ≡ m * u * 2 ^ l
steps_exact m u i d l q h =
    let e : m * u * 2 ^ l ≡ m * u * 2 ^ i * d = ap (λ (z : ℕ). m * u * z) (sym q) ∙ sym (mul_assoc (m * u) (2 ^ i) d) in
    ap (λ (z : ℕ). z / d * d) e ∙ ap (λ (z : ℕ). z * d) (mul-div_cancel (m * u * 2 ^ i) h) ∙ sym e

pub steps_value : (f : Format) (x : Float) → T (fits f x) → T (finite x)
    → HasValue x (sign_of x) (steps_in f x) (2 ^ low f)
steps_value f nan t b = absurd b
steps_value f (inf s) t b = absurd b
steps_value f (fin s m e) t b = go (down_power e (low f) (fitted f s m e t).fine)
  where
    go : (i : ℕ) × (2 ^ i * down e ≡ 2 ^ low f)
        → (s ≡ s) × (m * up e * 2 ^ low f ≡ m * up e * 2 ^ low f / down e * down e)
    go (i, q) = (refl, sym (steps_exact m (up e) i (down e) (low f) q (down_pos e)))

-- and the steps of a value that is known as a number of steps are that number
pub steps_of_lem : (f : Format) (x : Float) (s : Bool) (a : ℕ) → HasValue x s a (2 ^ low f) → steps_in f x ≡ a
steps_of_lem f nan s a h = absurd h
steps_of_lem f (inf t) s a h = absurd h
steps_of_lem f (fin t m e) s a h = ap (λ (z : ℕ). z / down e) h.1 ∙ mul-div_cancel a (down_pos e)

scaled_under : (m u d l t n : ℕ) → 0 < d → m * u < t * d → n * d ≡ m * u * l → 0 < l → n < l * t
scaled_under m u d l t n h k e p =
    lt_of_mul-lt-mul_right d (subst (λ (z : ℕ). z < l * t * d) (sym e)
    (subst (λ (z : ℕ). m * u * l < z) (simp (mul_assoc, mul_comm, mul_left_comm)) (mul-lt-mul_of_pos_right k p)))

pub steps-held : (f : Format) (x : Float) → T (fits f x) → T (finite x) → Held f (steps_in f x)
steps-held f nan t b = absurd b
steps-held f (inf s) t b = absurd b
steps-held f (fin s m e) t b = go (up_power e) (down_power e (low f) (fitted f s m e t).fine)
  where
    go : (j : ℕ) × (up e ≡ 2 ^ j) → (i : ℕ) × (2 ^ i * down e ≡ 2 ^ low f) → Held f (m * up e * 2 ^ low f / down e)
    go (j, p) (i, q) =
        record {
          j = m;
          i = j + i;
          small = (fitted f s m e t).small;
          is = steps_power m j i (down e) (low f) (up e) p q (down_pos e);
          under = subst (λ (z : ℕ). m * up e * 2 ^ low f / down e < z) (sym (pow-add 2 (low f) (suc (emax f))))
              (scaled_under m (up e) (down e) (2 ^ low f) (2 ^ suc (emax f)) (m * up e * 2 ^ low f / down e)
              (down_pos e) (fitted f s m e t).under (steps_exact m (up e) i (down e) (low f) q (down_pos e))
              (pow_pos (low f)));
        }

-- ---- sign and steps settle a value of the format

bits_of : (f : Format) (s : Bool) (m : ℕ) (e : ℤ) (n : ℕ) (d : ℤ) → steps_in f (fin s m e) ≡ steps_in f (fin s n d)
    → to_bits f (fin s m e) ≡ to_bits f (fin s n d)
unfolding to_bits
bits_of f s m e n d h = rw h

pub steps_unique : (f : Format) (x y : Float) → T (fits f x) → T (finite x) → T (fits f y) → T (finite y)
    → sign_of x ≡ sign_of y → steps_in f x ≡ steps_in f y → x ≡ y
steps_unique f nan y t b u c s h = absurd b
steps_unique f (inf r) y t b u c s h = absurd b
steps_unique f (fin r m e) nan t b u c s h = absurd c
steps_unique f (fin r m e) (inf q) t b u c s h = absurd c
steps_unique f (fin r m e) (fin q n d) t b u c s h =
    let i : to_bits f (fin r m e) ≡ to_bits f (fin q n d) =
    bits_of f r m e n d h ∙ ap (λ (z : Bool). to_bits f (fin z n d)) s in
    sym (of_bits-to_bits f (fin r m e) t) ∙ ap (λ (z : ℕ). of_bits f z) i ∙ of_bits-to_bits f (fin q n d) u

-- ---- the order of values that are not below zero is that of their steps; -0 stands where +0 does

pub real_finite : (x : Float) → T (has_root x) → T (finite x)
real_finite nan h = h
real_finite (inf s) h = h
real_finite (fin s m e) h = tt

pub minus_zero : (m : ℕ) → T (not (negative true m)) → m ≡ 0
minus_zero m t = omega (arith, nltb→le 0 m t)

product_zero : (m u d : ℕ) → m ≡ 0 → m * u * d ≡ 0
product_zero m u d e = ap (λ (z : ℕ). z * u * d) e ∙ ap (λ (z : ℕ). z * d) (zero-mul u) ∙ zero-mul d

le→cross : (s : Bool) (m : ℕ) (e : ℤ) (t : Bool) (n : ℕ) (d : ℤ) → T (not (negative s m))
    → T (le (fin s m e) (fin t n d)) → m * up e * down d ≤ n * up d * down e
unfolding le
le→cross true m e t n d h k = le_trans (le_of_eq (product_zero m (up e) (down d) (minus_zero m h))) (omega arith)
le→cross false m e true n d h k =
    let z = at_most false (m * up e * down d) true (n * up d * down e) k in
    le_of_eq (z.0 ∙ sym z.1)
le→cross false m e false n d h k = at_most false (m * up e * down d) false (n * up d * down e) k

pub le→steps : (f : Format) (x y : Float) → T (fits f x) → T (has_root x) → T (fits f y) → T (has_root y) → T (le x y)
    → steps_in f x ≤ steps_in f y
le→steps f nan y t h u k l = absurd h
le→steps f (inf s) y t h u k l = absurd h
le→steps f (fin s m e) nan t h u k l = absurd k
le→steps f (fin s m e) (inf r) t h u k l = absurd k
le→steps f (fin s m e) (fin r n d) t h u k l =
    le_of_mul-le-mul_right
    (transfer (steps_in f (fin s m e)) (steps_in f (fin r n d)) (2 ^ low f) (2 ^ low f) (m * up e) (n * up d) (down e)
    (down d) (down_pos e) (down_pos d)
    (sym (steps_value f (fin s m e) t tt).1) (sym (steps_value f (fin r n d) u tt).1) (le→cross s m e r n d h l))
    (pow_pos (low f))

cross→le : (s : Bool) (m : ℕ) (e : ℤ) (t : Bool) (n : ℕ) (d : ℤ) → T (not (negative s m)) → T (not (negative t n))
    → m * up e * down d ≤ n * up d * down e → T (le (fin s m e) (fin t n d))
unfolding le
cross→le false m e false n d h k l = tested false (m * up e * down d) false (n * up d * down e) l
cross→le true m e false n d h k l = tested true (m * up e * down d) false (n * up d * down e) tt
cross→le false m e true n d h k l =
    let b : n * up d * down e ≡ 0 = product_zero n (up d) (down e) (minus_zero n k) in
    tested false (m * up e * down d) true (n * up d * down e) (omega arith, b)
cross→le true m e true n d h k l =
    let b : n * up d * down e ≡ 0 = product_zero n (up d) (down e) (minus_zero n k) in
    tested true (m * up e * down d) true (n * up d * down e) (omega arith)

pub steps→le : (f : Format) (x y : Float) → T (fits f x) → T (has_root x) → T (fits f y) → T (has_root y)
    → steps_in f x ≤ steps_in f y → T (le x y)
steps→le f nan y t h u k l = absurd h
steps→le f (inf s) y t h u k l = absurd h
steps→le f (fin s m e) nan t h u k l = absurd k
steps→le f (fin s m e) (inf r) t h u k l = absurd k
steps→le f (fin s m e) (fin r n d) t h u k l =
    cross→le s m e r n d h k
    (transfer (m * up e) (n * up d) (down e) (down d) (steps_in f (fin s m e)) (steps_in f (fin r n d)) (2 ^ low f)
    (2 ^ low f) (pow_pos (low f)) (pow_pos (low f))
    (steps_value f (fin s m e) t tt).1 (steps_value f (fin r n d) u tt).1 (mul-le-mul_right (2 ^ low f) l))
