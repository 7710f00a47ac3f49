-- The order of floats: it is transitive, and taking the margin off a length does not make it longer. Assumes nothing.
use mathlib.Core.Bool.{Bool, true, false, not, cond}
use mathlib.Core.Path.{◌≡◌, refl, sym, ap, subst, ◌∙◌}
use Prim.Native.Nat.{ℕ, zero, suc, ◌+◌, ◌-◌, ◌*◌, ◌^◌, ◌≤◌, ◌<◌}
use native.Mathlib.Nat.{le_trans, le_of_eq, mul_comm, mul_assoc, mul_left_comm, mul-pos, mul-le-mul_right}
use native.Mathlib.Nat.{le_of_mul-le-mul_right, zero-mul}
use native.Mathlib.Omega.{arith}
use lib.Dec.{T, ltb}
use lib.Ieee.{Float, nan, inf, fin, Format, binary64, prec, emax, low, up, down, odd, units, round, neg}
use lib.Ieee.{sum, add, sub, lt, le, fits}
use lib.Ieee.Exact.{HasValue, round_exact}
use lib.Ieee.Fits.{down_pos, round_is}
use lib.Ieee.Order.{le_of_values, round_mono}
use lib.Ieee.Positive.{through}
use lib.IntN.{ℤ}
use Rattle.root.proofs.AtMost.{AtMost, at_most, tested}
use Rattle.root.proofs.Negation.{round-neg}
use Rattle.root.proofs.StepLaws.{Held, steps-held, steps_value}
use Rattle.root.specs.Steps.{steps_in}

-- ---- two finite values

-- a product with something above 0 is 0 only if the other is
none_left : (a q : ℕ) → 0 < q → a * q ≤ 0 → a ≡ 0
none_left a q h l =
    let e : a * q ≤ 0 * q = le_trans l (omega arith) in
    let z : a ≤ 0 = le_of_mul-le-mul_right e h in
    omega arith

none_over : (a q : ℕ) → a ≡ 0 → a * q ≡ 0
none_over a q e = ap (λ (z : ℕ). z * q) e ∙ zero-mul q

-- a / p, b / q and c / r in a row
at-most_trans : (s : Bool) (a p : ℕ) (t : Bool) (b q : ℕ) (u : Bool) (c r : ℕ) → 0 < p → 0 < q → 0 < r
    → AtMost s (a * q) t (b * p) → AtMost t (b * r) u (c * q) → AtMost s (a * r) u (c * p)
at-most_trans false a p false b q false c r P Q R h k = through a b c p q r Q h k
at-most_trans false a p false b q true c r P Q R h k =
    let y : b ≡ 0 = none_left b r R (le_of_eq k.0) in
    let z : c ≡ 0 = none_left c q Q (le_of_eq k.1) in
    let x : a ≡ 0 = none_left a q Q (le_trans h (le_of_eq (none_over b p y))) in
    (none_over a r x, none_over c p z)
at-most_trans false a p true b q false c r P Q R h k =
    let x : a ≡ 0 = none_left a q Q (le_of_eq h.0) in
    le_trans (le_of_eq (none_over a r x)) (omega arith)
at-most_trans false a p true b q true c r P Q R h k =
    let x : a ≡ 0 = none_left a q Q (le_of_eq h.0) in
    let y : b ≡ 0 = none_left b p P (le_of_eq h.1) in
    let z : c ≡ 0 = none_left c q Q (le_trans k (le_of_eq (none_over b r y))) in
    (none_over a r x, none_over c p z)
at-most_trans true a p false b q false c r P Q R h k = tt
at-most_trans true a p false b q true c r P Q R h k =
    let z : c ≡ 0 = none_left c q Q (le_of_eq k.1) in
    le_trans (le_of_eq (none_over c p z)) (omega arith)
at-most_trans true a p true b q false c r P Q R h k = tt
at-most_trans true a p true b q true c r P Q R h k = through c b a r q p Q k h

-- ---- all floats

-- an order between two floats with an infinity among them, as the signs have it
pub le_trans_float : (x y z : Float) → T (le x y) → T (le y z) → T (le x z)
unfolding le
le_trans_float nan y z h k = absurd h
le_trans_float (inf s) nan z h k = absurd h
le_trans_float (inf true) (inf t) nan h k = absurd (k)
le_trans_float (inf false) (inf t) nan h k = absurd (k)
le_trans_float (inf true) (inf t) (inf true) h k = tt
le_trans_float (inf true) (inf t) (inf false) h k = tt
le_trans_float (inf false) (inf true) (inf u) h k = absurd h
le_trans_float (inf false) (inf false) (inf true) h k = absurd k
le_trans_float (inf false) (inf false) (inf false) h k = tt
le_trans_float (inf true) (inf t) (fin u c r) h k = tt
le_trans_float (inf false) (inf true) (fin u c r) h k = absurd h
le_trans_float (inf false) (inf false) (fin u c r) h k = absurd k
le_trans_float (inf s) (fin t b q) nan h k = absurd k
le_trans_float (inf true) (fin t b q) (inf true) h k = tt
le_trans_float (inf true) (fin t b q) (inf false) h k = tt
le_trans_float (inf false) (fin t b q) (inf u) h k = absurd h
le_trans_float (inf true) (fin t b q) (fin u c r) h k = tt
le_trans_float (inf false) (fin t b q) (fin u c r) h k = absurd h
le_trans_float (fin s a p) nan z h k = absurd h
le_trans_float (fin s a p) (inf t) nan h k = absurd k
le_trans_float (fin s a p) (inf true) (inf u) h k = absurd h
le_trans_float (fin s a p) (inf false) (inf true) h k = absurd k
le_trans_float (fin s a p) (inf false) (inf false) h k = tt
le_trans_float (fin s a p) (inf true) (fin u c r) h k = absurd h
le_trans_float (fin s a p) (inf false) (fin u c r) h k = absurd k
le_trans_float (fin s a p) (fin t b q) nan h k = absurd k
le_trans_float (fin s a p) (fin t b q) (inf true) h k = absurd k
le_trans_float (fin s a p) (fin t b q) (inf false) h k = tt
le_trans_float (fin s a p) (fin t b q) (fin u c r) h k =
    tested s (a * up p * down r) u (c * up r * down p)
    (at-most_trans s (a * up p) (down p) t (b * up q) (down q) u (c * up r) (down r) (down_pos p) (down_pos q)
    (down_pos r)
    (at_most s (a * up p * down q) t (b * up q * down p) h) (at_most t (b * up q * down r) u (c * up r * down q) k))

pub lt→le : (x y : Float) → lt x y ≡ true → T (le x y)
unfolding le
lt→le x y e = rw e tt

-- ---- with the margin taken off

-- what has a minus is not above what has none
minus_below : (a : ℕ) (p : ℤ) (m : ℕ) (e : ℤ) → T (le (fin true a p) (fin false m e))
unfolding le
minus_below a p m e = tested true (a * up p * down e) false (m * up e * down p) tt

odd_below : (d q k l m : ℕ) (e : ℤ) → T (le (odd d true q k l) (fin false m e))
unfolding odd
odd_below d zero k l m e = minus_below _ _ m e
odd_below d (suc q) k l m e = minus_below _ _ m e

inf_below : (m : ℕ) (e : ℤ) → T (le (inf true) (fin false m e))
unfolding le
inf_below m e = tt

units_below : (f : Format) (q k m : ℕ) (e : ℤ) → T (le (units f true q k) (fin false m e))
unfolding units
units_below f q k m e = go (ltb (q * 2 ^ k) (2 ^ (low f + suc (emax f))))
  where
    go : (b : Bool) → T (le (cond b (odd (suc (prec f)) true q k (low f)) (inf true)) (fin false m e))
    go true = odd_below (suc (prec f)) q k (low f) m e
    go false = inf_below m e

round_below : (f : Format) (a c m : ℕ) (e : ℤ) → T (le (round f true a c) (fin false m e))
round_below f a c m e =
    subst (λ (z : Float). T (le z (fin false m e))) (sym (round_is f true a c)) (units_below f _ _ m e)

-- a minus turns an order round
flip-most : (s : Bool) (a : ℕ) (t : Bool) (b : ℕ) → AtMost s a t b → AtMost (not t) b (not s) a
flip-most false a false b h = h
flip-most false a true b h = (h.1, h.0)
flip-most true a false b h = tt
flip-most true a true b h = h

le-neg : (x y : Float) → T (le x y) → T (le (neg y) (neg x))
unfolding le neg
le-neg nan y h = absurd h
le-neg (inf s) nan h = absurd h
le-neg (inf true) (inf true) h = tt
le-neg (inf true) (inf false) h = tt
le-neg (inf false) (inf true) h = absurd h
le-neg (inf false) (inf false) h = tt
le-neg (inf true) (fin t b q) h = tt
le-neg (inf false) (fin t b q) h = absurd h
le-neg (fin s a p) nan h = absurd h
le-neg (fin s a p) (inf true) h = absurd h
le-neg (fin s a p) (inf false) h = tt
le-neg (fin s a p) (fin t b q) h =
    tested (not t) (b * up q * down p) (not s) (a * up p * down q)
    (flip-most s (a * up p * down q) t (b * up q * down p) (at_most s (a * up p * down q) t (b * up q * down p) h))

-- ---- a value of the format is its own rounding, however the fraction is written

module _ (m : ℕ) (e : ℤ) (w : ℕ) (held : T (fits binary64 (fin false m e))) (pos : 0 < w) where
  own : HasValue (round binary64 false (m * up e * w) (down e * w)) false (m * up e * w) (down e * w)
  own = go (steps-held binary64 (fin false m e) held tt)
    where
      go : Held binary64 (steps_in binary64 (fin false m e))
          → HasValue (round binary64 false (m * up e * w) (down e * w)) false (m * up e * w) (down e * w)
      go n =
          let v : m * up e * 2 ^ low binary64 ≡ steps_in binary64 (fin false m e) * down e =
          (steps_value binary64 (fin false m e) held tt).1 in
          let l : m * up e * w * 2 ^ low binary64 ≡ m * up e * 2 ^ low binary64 * w =
          simp (mul_assoc, mul_comm, mul_left_comm) in
          let r : steps_in binary64 (fin false m e) * down e * w ≡ n.j * 2 ^ n.i * (down e * w) =
          mul_assoc (steps_in binary64 (fin false m e)) (down e) w ∙ ap (λ (z : ℕ). z * (down e * w)) n.is in
          round_exact binary64 false (m * up e * w) (down e * w) n.j n.i (mul-pos (down_pos e) pos) n.small
          (subst (λ (z : ℕ). z < 2 ^ (low binary64 + suc (emax binary64))) n.is n.under)
          (l ∙ ap (λ (z : ℕ). z * w) v ∙ r)

  same_size : m * up e * w * down e ≡ m * up e * (down e * w)
  same_size = simp (mul_assoc, mul_comm, mul_left_comm)

  own_above : T (le (round binary64 false (m * up e * w) (down e * w)) (fin false m e))
  own_above =
      le_of_values _ (fin false m e) (m * up e * w) (down e * w) (m * up e) (down e) (mul-pos (down_pos e) pos)
      (down_pos e) own (refl, refl) (le_of_eq same_size)

  own_below : T (le (fin false m e) (round binary64 false (m * up e * w) (down e * w)))
  own_below =
      le_of_values (fin false m e) _ (m * up e) (down e) (m * up e * w) (down e * w) (down_pos e)
      (mul-pos (down_pos e) pos) (refl, refl) own (le_of_eq (sym same_size))

no_sign : (m : ℕ) (e : ℤ) → T (fits binary64 (fin true m e)) → T (fits binary64 (fin false m e))
unfolding fits
no_sign zero e t = t
no_sign (suc m) e t = t

-- less something that is not below zero, a value of the format is not more
pub less_off : (c : Float) (M : ℕ) (E : ℤ) → T (fits binary64 c) → T (le c c)
    → T (le (sub binary64 c (fin false M E)) c)
unfolding sub add neg sum
less_off nan M E t n = n
less_off (inf s) M E t n = n
less_off (fin false m e) M E t n = go (ltb (m * up e * down E) (M * up E * down e))
  where
    go : (b : Bool)
        → T (le (cond b (round binary64 true (M * up E * down e - m * up e * down E) (down e * down E))
        (round binary64 false (m * up e * down E - M * up E * down e) (down e * down E))) (fin false m e))
    go true = round_below binary64 (M * up E * down e - m * up e * down E) (down e * down E) m e
    go false =
        le_trans_float _ (round binary64 false (m * up e * down E) (down e * down E)) (fin false m e)
        (round_mono binary64 (m * up e * down E - M * up E * down e) (down e * down E) (m * up e * down E)
        (down e * down E) (mul-pos (down_pos e) (down_pos E)) (mul-pos (down_pos e) (down_pos E))
        (mul-le-mul_right (down e * down E) (omega arith)))
        (own_above m e (down E) t (down_pos E))
less_off (fin true m e) M E t n =
    let more : T (le (round binary64 false (m * up e * down E) (down e * down E))
    (round binary64 false (m * up e * down E + M * up E * down e) (down e * down E))) =
    round_mono binary64 (m * up e * down E) (down e * down E) (m * up e * down E + M * up E * down e)
    (down e * down E) (mul-pos (down_pos e) (down_pos E)) (mul-pos (down_pos e) (down_pos E))
    (mul-le-mul_right (down e * down E) (omega arith)) in
    let all : T (le (fin false m e) (round binary64 false (m * up e * down E + M * up E * down e) (down e * down E))) =
    le_trans_float (fin false m e) _ _ (own_below m e (down E) (no_sign m e t) (down_pos E)) more in
    let turned : T (le (neg (round binary64 false (m * up e * down E + M * up E * down e) (down e * down E)))
    (fin true m e)) = le-neg (fin false m e) _ all in
    subst (λ (z : Float). T (le z (fin true m e)))
    (sym (round-neg binary64 false (m * up e * down E + M * up E * down e) (down e * down E))) turned

-- whatever stands in an order is a number, and level with itself
pub le_self : (x y : Float) → T (le x y) → T (le x x)
unfolding le
le_self nan y h = absurd h
le_self (inf true) y h = tt
le_self (inf false) y h = tt
le_self (fin true m e) y h = tested true (m * up e * down e) true (m * up e * down e) (omega arith)
le_self (fin false m e) y h = tested false (m * up e * down e) false (m * up e * down e) (omega arith)
