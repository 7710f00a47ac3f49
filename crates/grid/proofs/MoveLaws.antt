-- What the code's steps come to, each exactly: a size in half units, without its fraction, in units, in millimetres
-- again. Assumes nothing.
use Rattle.std.proofs.Common.{◌≡◌, ℕ, zero, suc, ◌+◌, ◌-◌, ◌*◌, ◌/◌, ◌^◌, ◌<◌, ◌≤◌, min, Bool, true, false, cond, ◌&&◌, T, ltb, ℤ, pos, negsuc, sym, refl, ap, ◌∙◌, subst, true≢false, le_trans, le_of_eq, lt_of_lt_of_le, lt_of_le_of_lt, mul-le-mul_right, mul_assoc, suc-mul, mul_comm, div-lt_iff_lt-mul, lt_of_mul-lt-mul_right, mul-lt-mul_of_pos_right, mul-pos, zero-mul, mul-one, mul_right_comm, not-le_of_lt, mul_left_comm, arith, lit<, lit≤, lt→ltb, pow_pos, pow_mono, pow-add, ltb-false, ltb-true, lt-ltb}
use mathlib.Core.Bool.{and-true, false≢true}
use native.Mathlib.Nat.{eq_of_mul-eq-mul_right}
use native.Mathlib.Nat.{mul-mul-mul_comm}
use native.Mathlib.Decide.{dec_lt}
use lib.Ieee.{Float, nan, inf, fin, binary64, up, down, round, neg, sum, add, sub, mul, div, lt, of_int, of_bits}
use lib.Ieee.{to_unsigned, fits}
use lib.Ieee.Fits.{down_pos, round-fits, neg-fits}
use lib.Ieee.Exact.{HasValue, round_exact}
use lib.Ieee.Back.{round_whole}
use lib.Ieee.Nearest.{div_same}
use lib.Ieee.Scale.{round_same}
use Rattle.root.specs.Steps.{steps_of}
use Rattle.root.proofs.StepLaws.{Held, fitted, down_power, steps_value, steps-held, steps_unique}
use Rattle.points.specs.Numbers.{zero64}
use Rattle.grid.specs.Move.{per_mm, units_near, moved, all_on_grid}
use Rattle.grid.proofs.UnitLaws.{no_product, near_up, Beside, near_up_lem, near_exact}

-- ---- two numbers of the same sign and the same value are one

-- p / u is a / c, q / v is b / d, and the fractions are equal: so are the numbers
cross : (p q a b c d u v : ℕ) → 0 < c → 0 < d → p * c ≡ a * u → q * d ≡ b * v → a * d ≡ b * c → p * v ≡ q * u
cross p q a b c d u v C D i j k =
    let left : a * u * (v * d) ≡ a * d * (u * v) = simp (mul_assoc, mul_comm, mul_left_comm) in
    let right : b * c * (u * v) ≡ b * v * (u * c) = simp (mul_assoc, mul_comm, mul_left_comm) in
    let back : q * d * (u * c) ≡ q * u * (c * d) = simp (mul_assoc, mul_comm, mul_left_comm) in
    eq_of_mul-eq-mul_right (c * d) (mul-pos C D) (p * v) (q * u)
    (mul-mul-mul_comm p v c d
    ∙ ap (λ (z : ℕ). z * (v * d)) i
    ∙ left
    ∙ ap (λ (z : ℕ). z * (u * v)) k
    ∙ right
    ∙ ap (λ (z : ℕ). z * (u * c)) (sym j)
    ∙ back)

pub same_number : (x y : Float) (s : Bool) (a c b d : ℕ) → T (fits binary64 x) → T (fits binary64 y) → 0 < c → 0 < d
    → HasValue x s a c → HasValue y s b d → a * d ≡ b * c → x ≡ y
same_number nan y s a c b d f g C D i j k = absurd i
same_number (inf t) y s a c b d f g C D i j k = absurd i
same_number (fin t m e) nan s a c b d f g C D i j k = absurd j
same_number (fin t m e) (inf r) s a c b d f g C D i j k = absurd j
same_number (fin t m e) (fin r n h) s a c b d f g C D i j k =
    steps_unique binary64 (fin t m e) (fin r n h) f tt g tt (i.0 ∙ sym j.0)
    (div_same (m * up e * 2 ^ 1074) (down e) (n * up h * 2 ^ 1074) (down h) (down_pos e) (down_pos h)
    (mul_right_comm (m * up e) (2 ^ 1074) (down h)
    ∙ ap (λ (z : ℕ). z * 2 ^ 1074)
    (cross (m * up e) (n * up h) a b c d (down e) (down h) C D i.1 j.1 k)
    ∙ mul_right_comm (n * up h) (down e) (2 ^ 1074)))

-- ---- the units of a number

near_is : (s : Bool) (m : ℕ) (e : ℤ) → units_near (fin s m e) ≡ near_up (m * up e * per_mm) (down e)
near_is s m e = ap (λ (z : ℕ). (z / down e + 1) / 2) (omega arith)

pub beside : (s : Bool) (m : ℕ) (e : ℤ) → Beside (m * up e * per_mm) (down e) (units_near (fin s m e))
beside s m e = rw (near_is s m e) (near_up_lem (m * up e * per_mm) (down e) (down_pos e))

-- below 2^42 mm they are 2^52 at most
units_few : (s : Bool) (m : ℕ) (e : ℤ) → m * up e < 2 ^ 42 * down e → units_near (fin s m e) ≤ 2 ^ 52
units_few s m e h =
    let q : m * up e * (2 * per_mm) / down e < 2 ^ 53 = (div-lt_iff_lt-mul (down_pos e)).1 (omega arith) in
    omega arith

-- and from there on they are the number exactly
coarse : (m : ℕ) (e : ℤ) → m < 2 ^ 53 → 2 ^ 42 * down e ≤ m * up e → down e ≤ 2 ^ 10
coarse m (pos k) small h = lit≤ tt
coarse m (negsuc k) small h = elim (dec_lt 10 (suc k)) [
  | yes l ↦ absurd (not-le_of_lt small
      (le_trans (pow_mono {i = 53} {j = 42 + suc k} (omega arith))
      (le_trans (le_of_eq (pow-add 2 42 (suc k))) (le_trans h (le_of_eq (mul-one m))))))
  | no n ↦ pow_mono {i = suc k} {j = 10} (omega arith)
]

units_exact : (s : Bool) (m : ℕ) (e : ℤ) → T (fits binary64 (fin s m e)) → 2 ^ 42 * down e ≤ m * up e
    → units_near (fin s m e) * down e ≡ m * up e * per_mm
units_exact s m e f h = go (down_power e 10 (coarse m e (fitted binary64 s m e f).small h))
  where
    go : (i : ℕ) × (2 ^ i * down e ≡ 2 ^ 10) → units_near (fin s m e) * down e ≡ m * up e * per_mm
    go (i, q) =
        let all : m * up e * per_mm ≡ m * up e * 2 ^ i * down e =
        ap (λ (z : ℕ). m * up e * z) (sym q) ∙ sym (mul_assoc (m * up e) (2 ^ i) (down e)) in
        let w : units_near (fin s m e) ≡ m * up e * 2 ^ i =
        near_is s m e ∙ ap (λ (z : ℕ). near_up z (down e)) all ∙ near_exact (m * up e * 2 ^ i) (down e) (down_pos e) in
        ap (λ (z : ℕ). z * down e) w ∙ sym all

-- ---- so many units are a number of binary64

record Whole (w : ℕ) : Type 0 where
  digits : ℕ
  power : ℕ
  few : digits < 2 ^ 53
  under : digits * 2 ^ power < 2 ^ 2098
  is : w * 2 ^ 1074 ≡ digits * 2 ^ power * per_mm

whole_few : (w : ℕ) → w ≤ 2 ^ 52 → Whole w
whole_few w h = record {
  digits = w;
  power = 1064;
  few = lt_of_le_of_lt h (lit< tt);
  under = lt_of_le_of_lt (mul-le-mul_right (2 ^ 1064) h) (lit< tt);
  is = sym (mul_assoc w (2 ^ 1064) per_mm);
}

whole_exact : (s : Bool) (m : ℕ) (e : ℤ) (w : ℕ) → T (fits binary64 (fin s m e)) → w * down e ≡ m * up e * per_mm
    → Whole w
whole_exact s m e w f h =
    let held = steps-held binary64 (fin s m e) f tt in
    let value = (steps_value binary64 (fin s m e) f tt).1 in
    record {
      digits = held.j;
      power = held.i;
      few = held.small;
      under = subst (λ (z : ℕ). z < 2 ^ 2098) held.is held.under;
      is = cross_steps (steps_of (fin s m e)) (2 ^ 1074) value ∙ ap (λ (z : ℕ). z * per_mm) held.is;
    }
  where
    cross_steps : (n L : ℕ) → m * up e * L ≡ n * down e → w * L ≡ n * per_mm
    cross_steps n L v =
        eq_of_mul-eq-mul_right (down e) (down_pos e) (w * L) (n * per_mm)
        (mul_right_comm w L (down e)
        ∙ ap (λ (z : ℕ). z * L) h
        ∙ mul_right_comm (m * up e) per_mm L
        ∙ ap (λ (z : ℕ). z * per_mm) v
        ∙ mul_right_comm n (down e) per_mm)

whole_units : (s : Bool) (m : ℕ) (e : ℤ) → T (fits binary64 (fin s m e)) → Whole (units_near (fin s m e))
whole_units s m e f = elim (dec_lt (m * up e) (2 ^ 42 * down e)) [
  | yes l ↦ whole_few (units_near (fin s m e)) (units_few s m e l)
  | no n ↦ whole_exact s m e (units_near (fin s m e)) f (units_exact s m e f (omega arith))
]

whole_value : (s : Bool) (w : ℕ) → Whole w → HasValue (round binary64 s w per_mm) s w per_mm
whole_value s w f =
    round_exact binary64 s w per_mm f.digits f.power (lit< tt) f.few f.under f.is

-- the sign that is told: none where there are no units
abbrev pub sign_for : Bool → ℕ → Bool
sign_for s w = s && ltb 0 w

-- what a number is moved to is so many units, exactly
pub moved_value : (s : Bool) (m : ℕ) (e : ℤ) → T (fits binary64 (fin s m e))
    → HasValue (moved (fin s m e)) (sign_for s (units_near (fin s m e))) (units_near (fin s m e)) per_mm
unfolding moved
moved_value s m e f = whole_value (sign_for s (units_near (fin s m e))) (units_near (fin s m e)) (whole_units s m e f)

pub moved_fits : (x : Float) → T (fits binary64 x) → T (fits binary64 (moved x))
unfolding moved
moved_fits nan f = f
moved_fits (inf s) f = f
moved_fits (fin s m e) f =
    round-fits binary64 (sign_for s (units_near (fin s m e))) (units_near (fin s m e)) per_mm

-- ---- what the code's tests tell

-- a number above zero and below 2^42
abbrev pub Small : Float → Type 0
Small nan = ⊥
Small (inf s) = ⊥
Small (fin s m e) = (s ≡ false) × (m * up e < 2 ^ 42 * down e)

pub small_is : (a : Float) → lt zero64 a ≡ true → lt a all_on_grid ≡ true → Small a
unfolding lt of_bits
small_is nan p q = absurd (false≢true p)
small_is (inf true) p q = absurd (false≢true p)
small_is (inf false) p q = absurd (false≢true q)
small_is (fin true m e) p q = absurd (false≢true p)
small_is (fin false m e) p q =
    let h : m * up e * 1 < 2 ^ 42 * down e = ltb-true _ _ q in
    (refl, rw mul-one at h)

-- from 2^42 on a number is on the grid
large_is : (s : Bool) (m : ℕ) (e : ℤ) → lt (fin false m e) all_on_grid ≡ false → 2 ^ 42 * down e ≤ m * up e
unfolding lt of_bits
large_is s m e q =
    let h : 2 ^ 42 * down e ≤ m * up e * 1 = ltb-false _ _ q in
    rw mul-one at h

some_units : (w a c : ℕ) → 0 < c → w * c ≡ a * per_mm → 2 ^ 42 * c ≤ a → 0 < w
some_units zero a c C e h = absurd (omega (arith, zero-mul c))
some_units (suc w) a c C e h = omega arith

-- there the move leaves it
stays : (s : Bool) (m : ℕ) (e : ℤ) → T (fits binary64 (fin s m e)) → lt (fin false m e) all_on_grid ≡ false
    → moved (fin s m e) ≡ fin s m e
stays s m e f q =
    let h = large_is s m e q in
    let w = units_near (fin s m e) in
    let all = units_exact s m e f h in
    let some = lt-ltb 0 w (some_units w (m * up e) (down e) (down_pos e) all h) in
    let sign : sign_for s w ≡ s = ap (λ (b : Bool). s && b) some ∙ and-true s in
    same_number (moved (fin s m e)) (fin s m e) s w per_mm (m * up e) (down e) (moved_fits (fin s m e) f) f (lit< tt)
    (down_pos e)
    (subst (λ (b : Bool). HasValue (moved (fin s m e)) b w per_mm) sign (moved_value s m e f))
    (refl, refl) all

pub stays_above : (x : Float) → T (fits binary64 x) → lt zero64 x ≡ true → lt x all_on_grid ≡ false → x ≡ moved x
unfolding lt moved of_bits
stays_above nan f p q = absurd (false≢true p)
stays_above (inf s) f p q = refl
stays_above (fin true m e) f p q = absurd (false≢true p)
stays_above (fin false m e) f p q = sym (stays false m e f q)

pub stays_below : (x : Float) → T (fits binary64 x) → lt x zero64 ≡ true → lt (neg x) all_on_grid ≡ false → x ≡ moved x
unfolding lt moved neg of_bits
stays_below nan f p q = absurd (false≢true p)
stays_below (inf s) f p q = refl
stays_below (fin true m e) f p q = sym (stays true m e f q)
stays_below (fin false m e) f p q = absurd (omega (arith, ltb-true (m * up e * 1) (0 * down e) p, zero-mul (down e)))

-- ---- half units

-- what can be cut to a whole number of 53 digits
record Cut (X : Float) (A c : ℕ) : Type 0 where
  above : T (lt (fin true 1 (pos 0)) X)
  under : T (lt X (fin false 1 (pos 64)))
  is : to_unsigned 64 X ≡ A / c

uncapped : (a b : ℕ) → a < 2 ^ 53 → 2 ^ 53 ≤ b → min a b ≡ a
uncapped a b h g = omega arith

cut_of : (X : Float) (A c : ℕ) → 0 < c → HasValue X false A c → A < 2 ^ 53 * c → Cut X A c
unfolding lt to_unsigned
cut_of nan A c C v h = absurd v
cut_of (inf t) A c C v h = absurd v
cut_of (fin true n d) A c C v h = absurd (true≢false v.0)
cut_of (fin false n d) A c C v h =
    let D = down_pos d in
    let q : n * up d / down d ≡ A / c = div_same (n * up d) (down d) A c D C v.1 in
    let l : A / c < 2 ^ 53 = (div-lt_iff_lt-mul C).1 h in
    let k : n * up d / down d < 2 ^ 53 = rw q l in
    let b : n * up d < 2 ^ 53 * down d = (div-lt_iff_lt-mul D).0 k in
    record {
      above = lt→ltb 0 (1 * down d + n * up d * 1) (omega arith);
      under = lt→ltb (n * up d * 1) (2 ^ 64 * down d) (omega arith);
      is = uncapped (n * up d / down d) (2 ^ 64 - 1) k (lit≤ tt) ∙ q;
    }

-- what the code finds in half units, and the units that it answers
pub record Halved (a X : Float) : Type 0 where
  pub above : T (lt (fin true 1 (pos 0)) X)
  pub under : T (lt X (fin false 1 (pos 64)))
  pub few : to_unsigned 64 X < 2 ^ 53
  pub is : (to_unsigned 64 X + 1) / 2 ≡ units_near a

halved_at : (m : ℕ) (e : ℤ) → T (fits binary64 (fin false m e)) → m * up e < 2 ^ 42 * down e
    → HasValue (round binary64 false (m * up e * 2048) (down e * 1)) false (m * up e * 2048) (down e * 1)
halved_at m e f h =
    let n = steps_of (fin false m e) in
    let value : m * up e * 2 ^ 1074 ≡ n * down e = (steps_value binary64 (fin false m e) f tt).1 in
    let more : n * 2 ^ 11 ≡ held.j * 2 ^ (held.i + 11) =
    ap (λ (z : ℕ). z * 2 ^ 11) held.is ∙ mul_assoc held.j (2 ^ held.i) (2 ^ 11)
    ∙ ap (λ (z : ℕ). held.j * z) (sym (pow-add 2 held.i 11)) in
    round_exact binary64 false (m * up e * 2048) (down e * 1) held.j (held.i + 11) (omega (arith, down_pos e))
    held.small
    (subst (λ (z : ℕ). z < 2 ^ 2098) more (lt_of_lt_of_le (modest n (2 ^ 1074) (pow_pos 1074) value) (lit≤ tt)))
    (subst (λ (z : ℕ). m * up e * 2048 * 2 ^ 1074 ≡ z * (down e * 1)) more (doubled n (2 ^ 1074) value))
  where
    held : Held binary64 (steps_of (fin false m e))
    held = steps-held binary64 (fin false m e) f tt

    doubled : (n L : ℕ) → m * up e * L ≡ n * down e → m * up e * 2048 * L ≡ n * 2 ^ 11 * (down e * 1)
    doubled n L v =
        mul_right_comm (m * up e) 2048 L ∙ ap (λ (z : ℕ). z * 2048) v ∙ mul_right_comm n (down e) 2048
        ∙ ap (λ (z : ℕ). n * 2 ^ 11 * z) (sym (mul-one (down e)))

    modest : (n L : ℕ) → 0 < L → m * up e * L ≡ n * down e → n * 2 ^ 11 < 2 ^ 53 * L
    modest n L P v =
        let less : m * up e * L < 2 ^ 42 * down e * L = mul-lt-mul_of_pos_right h P in
        let e1 : 2 ^ 42 * down e * L ≡ 2 ^ 42 * (down e * L) = mul_assoc (2 ^ 42) (down e) L in
        let e2 : 2 ^ 53 * L * down e ≡ 2 ^ 53 * (down e * L) =
        mul_assoc (2 ^ 53) L (down e) ∙ ap (λ (z : ℕ). 2 ^ 53 * z) (mul_comm L (down e)) in
        let e3 : n * 2 ^ 11 * down e ≡ n * down e * 2 ^ 11 = mul_right_comm n (2 ^ 11) (down e) in
        lt_of_mul-lt-mul_right (down e) (omega (arith, less, e1, e2, e3, v))

pub halved : (a : Float) → T (fits binary64 a) → Small a
    → Halved a (mul binary64 a (of_bits binary64 0x40a0_0000_0000_0000))
unfolding mul of_bits
halved nan f h = absurd h
halved (inf t) f h = absurd h
halved (fin true m e) f h = absurd (true≢false h.0)
halved (fin false m e) f h =
    let c =
    cut_of (round binary64 false (m * up e * 2048) (down e * 1)) (m * up e * 2048) (down e * 1)
    (omega (arith, down_pos e)) (halved_at m e f h.1) (omega (arith, h.1)) in
    let q : to_unsigned 64 (round binary64 false (m * up e * 2048) (down e * 1)) ≡ m * up e * 2048 / down e =
    c.is ∙ ap (λ (z : ℕ). m * up e * 2048 / z) (mul-one (down e)) in
    let l : m * up e * 2048 / down e < 2 ^ 53 = (div-lt_iff_lt-mul (down_pos e)).1 (omega (arith, h.1)) in
    record { above = c.above; under = c.under; few = rw q l; is = ap (λ (z : ℕ). (z + 1) / 2) q }

-- ---- in millimetres again

by_units : (x : Float) (w : ℕ) → HasValue x false w 1
    → div binary64 x (of_bits binary64 0x4090_0000_0000_0000) ≡ round binary64 false w per_mm
unfolding div of_bits
by_units nan w v = absurd v
by_units (inf t) w v = absurd v
by_units (fin true n d) w v = absurd (true≢false v.0)
by_units (fin false n d) w v =
    round_same binary64 false (n * up d * 1) (1024 * down d) w per_mm (omega (arith, down_pos d)) (lit< tt)
    (omega (arith, v.1))

pub moved_up : (a : Float) → Small a → units_near a ≤ 2 ^ 52
    → div binary64 (of_int binary64 (pos (units_near a))) (of_bits binary64 0x4090_0000_0000_0000) ≡ moved a
unfolding of_int moved
moved_up nan h l = absurd h
moved_up (inf t) h l = absurd h
moved_up (fin true m e) h l = absurd (true≢false h.0)
moved_up (fin false m e) h l =
    let w = units_near (fin false m e) in
    by_units (round binary64 false w 1) w (round_whole binary64 false w (le_trans l (lit≤ tt)))

pub units_small : (a : Float) → Small a → units_near a ≤ 2 ^ 52
units_small nan h = absurd h
units_small (inf t) h = absurd h
units_small (fin s m e) h = units_few s m e h.1

-- ---- a number below zero, and zero

-- zero less so many units: a minus sign, where there are any
zero-less : (p : Float) (w : ℕ) → HasValue p false w per_mm → sub binary64 zero64 p ≡ round binary64 (ltb 0 w) w per_mm
unfolding sub add neg sum of_bits
zero-less nan w v = absurd v
zero-less (inf t) w v = absurd v
zero-less (fin true n d) w v = absurd (true≢false v.0)
zero-less (fin false n d) w v = go (ltb (0 * down d) (n * up d * 1)) refl
  where
    go : (b : Bool) → ltb (0 * down d) (n * up d * 1) ≡ b
        → cond b (round binary64 true (n * up d * 1 - 0 * down d) (1 * down d))
        (round binary64 (false && ltb (n * up d * 1) (0 * down d)) (0 * down d - n * up d * 1) (1 * down d))
        ≡ round binary64 (ltb 0 w) w per_mm
    go true t =
        let z = zero-mul (down d) in
        let l = ltb-true (0 * down d) (n * up d * 1) t in
        rw (lt-ltb 0 w (some w v.1 (omega (arith, z, l))))
        (round_same binary64 true (n * up d * 1 - 0 * down d) (1 * down d) w per_mm (omega (arith, down_pos d)) (lit< tt)
        (omega (arith, z, v.1)))
      where
        some : (w : ℕ) → n * up d * per_mm ≡ w * down d → 0 < n * up d → 0 < w
        some zero i l = absurd (omega (arith, zero-mul (down d)))
        some (suc w) i l = omega arith
    go false t =
        let z = zero-mul (down d) in
        let l = ltb-false (0 * down d) (n * up d * 1) t in
        let i : w ≡ 0 = no_product w (down d) (down_pos d) (omega (arith, z, l, v.1)) in
        rw i
        (round_same binary64 false (0 * down d - n * up d * 1) (1 * down d) 0 per_mm (omega (arith, down_pos d))
        (lit< tt) (omega (arith, z)))

pub moved_below : (x : Float) → T (fits binary64 x) → lt x zero64 ≡ true → sub binary64 zero64 (moved (neg x)) ≡ moved x
unfolding lt moved neg sub add of_bits
moved_below nan f p = absurd (false≢true p)
moved_below (inf true) f p = refl
moved_below (inf false) f p = absurd (false≢true p)
moved_below (fin false m e) f p = absurd (omega (arith, ltb-true (m * up e * 1) (0 * down e) p, zero-mul (down e)))
moved_below (fin true m e) f p =
    zero-less (moved (fin false m e)) (units_near (fin false m e))
    (moved_value false m e (neg-fits binary64 (fin true m e) f))

-- what is below zero is above it with the other sign
pub above_of_below : (x : Float) → lt x zero64 ≡ true → lt zero64 (neg x) ≡ true
unfolding lt neg of_bits
above_of_below nan p = absurd (false≢true p)
above_of_below (inf true) p = refl
above_of_below (inf false) p = absurd (false≢true p)
above_of_below (fin true m e) p =
    let h : 0 < m * up e * 1 + 0 * down e = ltb-true 0 (m * up e * 1 + 0 * down e) p in
    lt-ltb (0 * down e) (m * up e * 1) (omega (arith, h, zero-mul (down e)))
above_of_below (fin false m e) p = absurd (omega (arith, ltb-true (m * up e * 1) (0 * down e) p, zero-mul (down e)))

no_units : (s : Bool) (m : ℕ) (e : ℤ) → m * up e ≡ 0 → units_near (fin s m e) ≡ 0
no_units s m e h = go (units_near (fin s m e)) (beside s m e).above
  where
    go : (w : ℕ) → 2 * (w * down e) ≤ 2 * (m * up e * per_mm) + down e → w ≡ 0
    go zero l = refl
    go (suc w) l = absurd (omega (arith, suc-mul w (down e), down_pos e))

plus_zero : (s : Bool) (a b c : ℕ) → a ≡ 0 → b ≡ 0 → 0 < c
    → sum binary64 s a false b c ≡ round binary64 false 0 per_mm
unfolding sum
plus_zero true a b c i j C =
    rw (i, j) (round_same binary64 false 0 c 0 per_mm C (lit< tt) (omega arith))
plus_zero false a b c i j C =
    rw (i, j) (round_same binary64 false 0 c 0 per_mm C (lit< tt) (omega arith))

pub moved-zero : (x : Float) → lt zero64 x ≡ false → lt x zero64 ≡ false → add binary64 x zero64 ≡ moved x
unfolding lt moved add of_bits
moved-zero nan p q = refl
moved-zero (inf true) p q = absurd (true≢false q)
moved-zero (inf false) p q = absurd (true≢false p)
moved-zero (fin true m e) p q =
    let z = zero-mul (down e) in
    let h : m * up e * 1 + 0 * down e ≤ 0 = ltb-false 0 (m * up e * 1 + 0 * down e) q in
    let i : m * up e * 1 ≡ 0 = omega (arith, z, h) in
    plus_zero true (m * up e * 1) (0 * down e) (down e * 1) i z (omega (arith, down_pos e))
    ∙ sym (rw (no_units true m e (omega (arith, i))))
moved-zero (fin false m e) p q =
    let z = zero-mul (down e) in
    let h : m * up e * 1 ≤ 0 * down e = ltb-false (0 * down e) (m * up e * 1) p in
    let i : m * up e * 1 ≡ 0 = omega (arith, z, h) in
    plus_zero false (m * up e * 1) (0 * down e) (down e * 1) i z (omega (arith, down_pos e))
    ∙ sym (rw (no_units false m e (omega (arith, i))))
