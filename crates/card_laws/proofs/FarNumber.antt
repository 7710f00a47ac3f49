-- Bits without their sign above those of 1,048,576 are exactly those of a number that is not finite or above it in
-- size. Assumes nothing.
use mathlib.Core.Path.{◌≡◌, refl, sym, ap, ◌∙◌, subst}
use mathlib.Core.Logic.{◌⊎◌, inl, inr}
use mathlib.Core.Bool.{Bool, true, false, cond}
use Prim.Native.Nat.{ℕ, zero, suc, ◌+◌, ◌*◌, ◌/◌, ◌%◌, ◌^◌, ◌≤◌, ◌<◌}
use native.Mathlib.Nat.{mul_comm, mul_assoc, mul-lt-mul_of_pos_right, lt_of_mul-lt-mul_right, le_of_mul-le-mul_right}
use native.Mathlib.Nat.{mul-le-mul_right, mul-le-mul_left, mul-le-mul, mul-pos}
use native.Mathlib.Omega.{arith}
use lib.Dec.{ltb, eqb, lit<, lit≤}
use lib.Pow.{pow-add, pow_pos, pow_mono}
use lib.Ieee.{Float, nan, inf, fin, binary64, up, down, odd, of_fields, of_bits}
use lib.Ieee.Exact.{HasValue, odd_sign}
use lib.Ieee.Fits.{down_pos}
use borrow.Author.Tests.{lt-ltb, le-ltb, ltb-true, ltb-false, eqb-true}
use Rattle.points.specs.Bad.{largest, bad_number}
use Rattle.fields.specs.Limits.{farthest}
use Rattle.card.specs.Stages.{too_far}

-- ---- a number of known value

swap : (x y z : ℕ) → x * y * z ≡ x * z * y
swap x y z = mul_assoc x y z ∙ ap (λ (w : ℕ). x * w) (mul_comm y z) ∙ sym (mul_assoc x z y)

-- u / d and a / c are the same size, so one is above L exactly when the other is
same_side : (L u d a c : ℕ) → 0 < c → 0 < d → u * c ≡ a * d → ltb (L * d) u ≡ ltb (L * c) a
same_side L u d a c pc pd e = go (ltb (L * c) a) refl
  where
    go : (b : Bool) → ltb (L * c) a ≡ b → ltb (L * d) u ≡ b
    go true t =
        let h : L * c * d < a * d = mul-lt-mul_of_pos_right (ltb-true _ _ t) pd in
        lt-ltb (L * d) u (lt_of_mul-lt-mul_right c (omega (arith, swap L c d)))
    go false t =
        let h : a * d ≤ L * c * d = mul-le-mul_right d (ltb-false _ _ t) in
        le-ltb (L * d) u (le_of_mul-le-mul_right {k = c} (omega (arith, swap L c d)) pc)

bad_of_value : (v : Float) (s : Bool) (a c : ℕ) → 0 < c → HasValue v s a c → bad_number v ≡ ltb (largest * c) a
unfolding bad_number
bad_of_value nan s a c p h = absurd h
bad_of_value (inf t) s a c p h = absurd h
bad_of_value (fin t m e) s a c p h = same_side largest (m * up e) (down e) a c p (down_pos e) h.1

-- ---- N + t units of W, against N units of P

module _ (N P t W : ℕ) (p_n : 0 < N) (p_p : 0 < P) (small : t < N) where
  wider : 2 * P ≤ W → N * P < (N + t) * W
  wider h =
      let a : N * (2 * P) ≤ (N + t) * W = mul-le-mul (omega arith) h in
      let b : 0 < N * P = mul-pos p_n p_p in
      let c : N * (2 * P) ≡ 2 * (N * P) =
      sym (mul_assoc N 2 P) ∙ ap (λ (z : ℕ). z * P) (mul_comm N 2) ∙ mul_assoc 2 N P in
      omega arith

  narrower : 2 * W ≤ P → (N + t) * W ≤ N * P
  narrower h =
      let a : (N + t) * W ≤ (N * 2) * W = mul-le-mul_right W (omega arith) in
      let b : N * (2 * W) ≤ N * P = mul-le-mul_left N h in
      omega (arith, mul_assoc N 2 W)

  level : ltb (N * P) ((N + t) * P) ≡ ltb 0 t
  level = go t refl
    where
      go : (u : ℕ) → t ≡ u → ltb (N * P) ((N + t) * P) ≡ ltb 0 t
      go zero e = rw e (le-ltb (N * P) ((N + 0) * P) (mul-le-mul_right P (omega arith)))
      go (suc u) e =
          rw e (lt-ltb (N * P) ((N + suc u) * P) (mul-lt-mul_of_pos_right (omega arith) p_p)
          ∙ sym (lt-ltb 0 (suc u) (omega arith)))

-- ---- the fields of a number

-- the digits of a number have 52 places behind the leading one
abbrev lead : ℕ
lead = 4503599627370496

-- the largest size, in units of the smallest number, is the lead times this
top_unit : largest * 2 ^ 1074 ≡ lead * 2 ^ 1042
top_unit = sym (pow-add 2 20 1074) ∙ pow-add 2 52 1042

double : (y z : ℕ) → 1 + y ≤ z → 2 * 2 ^ y ≤ 2 ^ z
double y z h = subst (λ (w : ℕ). w ≤ 2 ^ z) (pow-add 2 1 y) (pow_mono {i = 1 + y} {j = z} h)

-- of two numbers, one is below the other or they are the same
apart : (x y : ℕ) → (x < y) ⊎ ((x ≡ y) ⊎ (y < x))
apart x y = go (ltb x y) (ltb y x) refl refl
  where
    go : (a b : Bool) → ltb x y ≡ a → ltb y x ≡ b → (x < y) ⊎ ((x ≡ y) ⊎ (y < x))
    go true b e f = inl (ltb-true _ _ e)
    go false true e f = inr (inr (ltb-true _ _ f))
    go false false e f = inr (inl (omega (arith, ltb-false x y e, ltb-false y x f)))

-- the exponent's field decides, and at the limit's own field the digits do
fields_decide : (P : ℕ) (y t : ℕ) → P ≡ 2 ^ 1042 → 0 < P → t < lead
    → ltb farthest (suc y * lead + t) ≡ ltb (lead * P) ((lead + t) * 2 ^ y)
fields_decide P y t e pos small = go (apart y 1042)
  where
    go : (y < 1042) ⊎ ((y ≡ 1042) ⊎ (1042 < y)) → ltb farthest (suc y * lead + t) ≡ ltb (lead * P) ((lead + t) * 2 ^ y)
    go (inl h) =
        le-ltb farthest (suc y * lead + t) (omega arith)
        ∙ sym (le-ltb (lead * P) ((lead + t) * 2 ^ y)
        (narrower lead P t (2 ^ y) (lit< tt) pos small
        (subst (λ (w : ℕ). 2 * 2 ^ y ≤ w) (sym e) (double y 1042 (omega arith)))))
    go (inr (inl h)) =
        let q : 2 ^ y ≡ P = ap (λ (w : ℕ). 2 ^ w) h ∙ sym e in
        at_limit_lem (ltb 0 t) refl ∙ sym (level lead P t P (lit< tt) pos small)
        ∙ ap (λ (w : ℕ). ltb (lead * P) ((lead + t) * w)) (sym q)
      where
        at_limit_lem : (b : Bool) → ltb 0 t ≡ b → ltb farthest (suc y * lead + t) ≡ ltb 0 t
        at_limit_lem true b = lt-ltb farthest (suc y * lead + t) (omega (arith, ltb-true 0 t b)) ∙ sym b
        at_limit_lem false b = le-ltb farthest (suc y * lead + t) (omega (arith, ltb-false 0 t b)) ∙ sym b
    go (inr (inr h)) =
        lt-ltb farthest (suc y * lead + t) (omega arith)
        ∙ sym (lt-ltb (lead * P) ((lead + t) * 2 ^ y)
        (wider lead P t (2 ^ y) (lit< tt) pos small
        (subst (λ (w : ℕ). 2 * w ≤ 2 ^ y) (sym e) (double 1042 y (omega arith)))))

normal : (s : Bool) (y t : ℕ) → t < lead → ltb farthest (suc y * lead + t) ≡ bad_number (odd 53 s (lead + t) y 1074)
normal s y t small =
    fields_decide (2 ^ 1042) y t refl (pow_pos 1042) small
    ∙ ap (λ (w : ℕ). ltb w ((lead + t) * 2 ^ y)) (sym top_unit)
    ∙ sym (bad_of_value (odd 53 s (lead + t) y 1074) s ((lead + t) * 2 ^ y) (2 ^ 1074) (pow_pos 1074)
    (odd_sign 53 s (lead + t) y 1074))

-- below the smallest normal number
tiny_law : (G t : ℕ) → 4294967296 ≤ G → t < lead → t * 1 ≤ largest * G
tiny_law G t h small = omega arith

tiny : (s : Bool) (t : ℕ) → t < lead → ltb farthest (0 * lead + t) ≡ bad_number (odd 53 s t 0 1074)
tiny s t small =
    le-ltb farthest (0 * lead + t) (omega arith)
    ∙ sym (le-ltb (largest * 2 ^ 1074) (t * 2 ^ 0)
    (tiny_law (2 ^ 1074) t (pow_mono {i = 32} {j = 1074} (lit≤ tt)) small))
    ∙ sym (bad_of_value (odd 53 s t 0 1074) s (t * 2 ^ 0) (2 ^ 1074) (pow_pos 1074) (odd_sign 53 s t 0 1074))

endless : (b : Bool) (s : Bool) → bad_number (cond b (inf s) nan) ≡ true
unfolding bad_number
endless true s = refl
endless false s = refl

of_fields_lem : (s : Bool) (x t : ℕ) → t < lead → ltb farthest (x * lead + t) ≡ bad_number (of_fields binary64 s x t)
unfolding of_fields
of_fields_lem s zero t small = tiny s t small
of_fields_lem s (suc y) t small = go (eqb (suc y) 2047) refl
  where
    go : (b : Bool) → eqb (suc y) 2047 ≡ b
        → ltb farthest (suc y * lead + t)
        ≡ bad_number (cond (eqb (suc y) 2047) (cond (eqb t 0) (inf s) nan) (odd 53 s (lead + t) y 1074))
    go true e =
        lt-ltb farthest (suc y * lead + t) (omega (arith, eqb-true (suc y) 2047 e))
        ∙ sym (ap (λ (b : Bool). bad_number (cond b (cond (eqb t 0) (inf s) nan) (odd 53 s (lead + t) y 1074))) e
        ∙ endless (eqb t 0) s)
    go false e =
        normal s y t small ∙ sym (ap (λ (b : Bool). bad_number
        (cond b (cond (eqb t 0) (inf s) nan) (odd 53 s (lead + t) y 1074))) e)

pub far_is : (bits : ℕ) → too_far bits ≡ bad_number (of_bits binary64 bits)
unfolding of_bits
far_is bits =
    let e : bits % 9223372036854775808 / lead * lead + bits % lead ≡ bits % 9223372036854775808 = omega arith in
    ap (ltb farthest) (sym e) ∙ of_fields_lem _ (bits % 9223372036854775808 / lead) (bits % lead) (omega arith)
