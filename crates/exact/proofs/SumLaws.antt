-- A computed length is within its bound of both ends of the exact one's interval; so a tour that is computed no longer
-- than the start is exactly no longer by more than twice that. Assumes nothing.
use mathlib.Core.Path.{◌≡◌, refl, sym, ap, ◌∙◌, subst}
use mathlib.Core.Bool.{false}
use mathlib.Core.List.{List, [], ◌∷◌}
use Prim.Native.Nat.{ℕ, suc, ◌+◌, ◌*◌, ◌^◌, ◌≤◌, ◌<◌}
use native.Mathlib.Nat.{le_trans, le_of_lt, lt_of_le_of_lt, mul-le-mul_right, add-zero, add_assoc, mul_comm, pow-suc}
use native.Mathlib.Omega.{arith}
use lib.Dec.{T, lit≤, lit<}
use lib.ListN.{length}
use lib.Pow.{pow-add, pow_mono}
use lib.IntN.{pos}
use lib.Ieee.{Float, fin, binary64, add, fits, le}
use lib.Ieee.Scale.{overflow}
use Rattle.root.proofs.WholeLaws.{whole_le, square-lt}
use Rattle.root.specs.Steps.{steps_of}
use Rattle.root.proofs.StepLaws.{le→steps}
use Rattle.root.proofs.GridRoot.{Within}
use Rattle.exact.specs.Length.{summed, total, leg_root, lower_end, upper_end, step40}
use Rattle.exact.specs.Bound.{Near, NearEnds, Enough, Forty, Eighty}
use Rattle.exact.proofs.AddLaws.{Plain, Added, added}
use Rattle.exact.proofs.GridLaws.{NearLeg, plain_real}

-- ---- the R of a leg

pub leg-root-le : (S : ℕ) → leg_root S * leg_root S ≤ S * 2 ^ 60
unfolding leg_root
leg-root-le S = whole_le (S * 2 ^ 60)

pub leg-root_small : (S : ℕ) → S ≤ 2 ^ 49 → leg_root S ≤ 3 * 2 ^ 53
leg-root_small S h =
    le_of_lt (square-lt (leg_root S) (3 * 2 ^ 53) (lt_of_le_of_lt
    (le_trans (leg-root-le S) (mul-le-mul_right (2 ^ 60) h)) (lit< tt)))

-- ---- a list of computed legs beside the list of their squared lengths

abbrev pub Legs : List Float → List ℕ → Type 0
Legs [] [] = Unit {0}
Legs [] (S ∷ squares) = ⊥
Legs (d ∷ legs) [] = ⊥
Legs (d ∷ legs) (S ∷ squares) = NearLeg d S × Legs legs squares

-- ---- how far a sum of i legs, A, is from the sum R of their roots: G is the step that R counts, E of them half a unit
-- of a sum's last digit, P the most that a leg has

record Sofar (P E G i A R : ℕ) : Type 0 where
  high : A ≤ (R + i * (3 + E)) * G
  low : R * G ≤ A + i * (2 + E) * G
  small : R ≤ i * P

no_leg : (P E G : ℕ) → Sofar P E G 0 0 0
no_leg P E G = record { high = omega arith; low = omega arith; small = omega arith }

first-leg : (P E G D R : ℕ) → Within D R G → R ≤ P → Sofar P E G 1 D R
first-leg P E G D R w s = record { high = omega (arith, w.high); low = omega (arith, w.low); small = omega arith }

-- one more leg stays in the room
sum_under : (P E G n Q i A R D r : ℕ) → Sofar P E G i A R → Within D r G → r ≤ P → i + 1 ≤ n → n * (P + 3 + E) ≤ Q
    → A + D < Q * G
sum_under P E G n Q i A R D r s w p l h =
    let a : (i + 1) * (P + 3 + E) * G ≤ n * (P + 3 + E) * G = mul-le-mul_right G (mul-le-mul_right (P + 3 + E) l) in
    let b : n * (P + 3 + E) * G ≤ Q * G = mul-le-mul_right G h in
    let c : R * G ≤ i * P * G = mul-le-mul_right G s.small in
    let d : r * G ≤ P * G = mul-le-mul_right G p in
    omega (arith, s.high, w.high)

-- and as near
next-leg : (P E G i A R D r s : ℕ) → Sofar P E G i A R → Within D r G → r ≤ P → 2 * s ≤ 2 * (A + D) + 2 * (E * G)
    → 2 * (A + D) ≤ 2 * s + 2 * (E * G) → Sofar P E G (i + 1) s (R + r)
next-leg P E G i A R D r s f w p h l =
    record {
      high = omega (arith, f.high, w.high);
      low = omega (arith, f.low, w.low);
      small = omega (arith, f.small);
    }

-- ---- the sum of a list

-- the sum of i legs in hand, and what the bound says of it
record Held (a i : ℕ) (x : Float) (R : ℕ) : Type 0 where
  plain : Plain binary64 x
  near : Sofar (3 * 2 ^ 53) (2 ^ a) step40 i (steps_of x) R

room_power : (a : ℕ) → 2 ^ (53 + (1035 + a)) ≡ 2 ^ (54 + a) * step40
room_power a =
    ap (λ (z : ℕ). 2 ^ z) (let e : 53 + (1035 + a) ≡ 54 + a + 1034 = omega arith in e) ∙ pow-add 2 (54 + a) 1034

unit_power : (a : ℕ) → 2 ^ (1035 + a) ≡ 2 * (2 ^ a * step40)
unit_power a =
    ap (λ (z : ℕ). 2 ^ z) (let e : 1035 + a ≡ suc (a + 1034) = omega arith in e) ∙ pow-suc 2 (a + 1034)
    ∙ mul_comm (2 ^ (a + 1034)) 2 ∙ ap (λ (z : ℕ). 2 * z) (pow-add 2 a 1034)

no_overflow : (a : ℕ) → a ≤ 1000 → 2 ^ (53 + (1035 + a)) < overflow binary64
no_overflow a h = lt_of_le_of_lt (pow_mono {i = 53 + (1035 + a)} {j = 2097} (omega arith)) (lit< tt)

one_more : (n a b i : ℕ) (x d : Float) (R S : ℕ) → Enough n a b → Held a i x R → NearLeg d S → i + 1 ≤ n
    → Held a (i + 1) (add binary64 x d) (R + leg_root S)
one_more n a b i x d R S e h l k =
    let small = leg-root_small S l.small in
    let under : steps_of x + steps_of d < 2 ^ (53 + (1035 + a)) =
    subst (λ (z : ℕ). steps_of x + steps_of d < z) (sym (room_power a))
    (sum_under (3 * 2 ^ 53) (2 ^ a) step40 n (2 ^ (54 + a)) i (steps_of x) R (steps_of d) (leg_root S) h.near
    l.within small k e.room) in
    let s : Added binary64 (1035 + a) x d =
    added binary64 (1035 + a) x d h.plain l.plain under (no_overflow a e.modest) in
    record {
      plain = s.plain;
      near = next-leg (3 * 2 ^ 53) (2 ^ a) step40 i (steps_of x) R (steps_of d) (leg_root S) (steps_of (add binary64 x d))
          h.near l.within small
          (subst (λ (z : ℕ). 2 * steps_of (add binary64 x d) ≤ 2 * (steps_of x + steps_of d) + z) (unit_power a) s.high)
          (subst (λ (z : ℕ). 2 * (steps_of x + steps_of d) ≤ 2 * steps_of (add binary64 x d) + z) (unit_power a) s.low);
    }

legs-on : (n a b i : ℕ) (x : Float) (R : ℕ) (legs : List Float) (squares : List ℕ) → Enough n a b → Held a i x R
    → Legs legs squares → i + length squares ≤ n
    → Held a (i + length squares) (summed x legs) (R + lower_end squares)
unfolding summed lower_end
legs-on n a b i x R [] [] e h l k = rw (add-zero i, add-zero R) h
legs-on n a b i x R [] (S ∷ squares) e h l k = absurd l
legs-on n a b i x R (d ∷ legs) [] e h l k = absurd l
legs-on n a b i x R (d ∷ legs) (S ∷ squares) e h l k =
    let c : i + 1 + length squares ≡ i + suc (length squares) = omega arith in
    rw (← c, ← add_assoc R (leg_root S) (lower_end squares))
    (legs-on n a b (i + 1) (add binary64 x d) (R + leg_root S) legs squares e
    (one_more n a b i x d R S e h l.0 (omega arith)) l.1 (omega arith))

zero_plain : Plain binary64 (fin false 0 (pos 0))
unfolding fits
zero_plain = record { held = tt; finite-one = tt; plus = refl }

-- a whole route
route : (n a b : ℕ) (legs : List Float) (squares : List ℕ) → Enough n a b → Legs legs squares → length squares ≤ n
    → Held a (length squares) (total legs) (lower_end squares)
unfolding total lower_end
route n a b [] [] e l k = record { plain = zero_plain; near = no_leg (3 * 2 ^ 53) (2 ^ a) step40 }
route n a b [] (S ∷ squares) e l k = absurd l
route n a b (d ∷ legs) [] e l k = absurd l
route n a b (d ∷ legs) (S ∷ squares) e l k =
    let c : 1 + length squares ≡ suc (length squares) = omega arith in
    rw (← c) (legs-on n a b 1 d (leg_root S) legs squares e
    (record {
      plain = l.0.plain;
      near =
          first-leg (3 * 2 ^ 53) (2 ^ a) step40 (steps_of d) (leg_root S) l.0.within (leg-root_small S l.0.small);
    }) l.1 (omega arith))

-- ---- the bound

-- from the sum over n legs at most, with b enough for n
to_ends : (P E G n b i A R : ℕ) → Sofar P E G i A R → i ≤ n → n * (3 + E) ≤ b
    → Near (b * G) A (R * G) × Near (b * G) A ((R + i) * G)
to_ends P E G n b i A R s l h =
    let c : i * (3 + E) * G ≤ b * G = mul-le-mul_right G (le_trans (mul-le-mul_right (3 + E) l) h) in (
      record { not-above = omega (arith, s.high); not_below = omega (arith, s.low) },
      record { not-above = omega (arith, s.high); not_below = omega (arith, s.low) },
    )

pub length_near : (n a b : ℕ) (legs : List Float) (squares : List ℕ) → Enough n a b → Legs legs squares
    → length squares ≤ n → NearEnds b (total legs) squares
unfolding upper_end
length_near n a b legs squares e l k =
    let h = route n a b legs squares e l k in
    let r = to_ends (3 * 2 ^ 53) (2 ^ a) step40 n b (length squares) (steps_of (total legs)) (lower_end squares)
    h.near k e.bound in
    record { real = plain_real (total legs) h.plain; lower = r.0; upper = r.1 }

pub length_plain : (n a b : ℕ) (legs : List Float) (squares : List ℕ) → Enough n a b → Legs legs squares
    → length squares ≤ n → Plain binary64 (total legs)
length_plain n a b legs squares e l k = (route n a b legs squares e l k).plain

-- ---- the excess: computed no longer, exactly longer by twice the bound at most

pub excess : (n a b : ℕ) (legs : List Float) (squares : List ℕ) (legs' : List Float) (squares' : List ℕ)
    → Enough n a b → Legs legs squares → length squares ≤ n → Legs legs' squares' → length squares' ≤ n
    → T (le (total legs) (total legs')) → upper_end squares * step40 ≤ lower_end squares' * step40 + 2 * (b * step40)
excess n a b legs squares legs' squares' e l k l' k' h =
    let p = length_plain n a b legs squares e l k in
    let q = length_plain n a b legs' squares' e l' k' in
    twice (upper_end squares * step40) (lower_end squares' * step40) (b * step40) (steps_of (total legs))
    (steps_of (total legs'))
    (length_near n a b legs squares e l k).upper.not_below
    (le→steps binary64 (total legs) (total legs') p.held (plain_real (total legs) p) q.held
    (plain_real (total legs') q) h)
    (length_near n a b legs' squares' e l' k').lower.not-above
  where
    twice : (u w c x y : ℕ) → u ≤ x + c → x ≤ y → y ≤ w + c → u ≤ w + 2 * c
    twice u w c x y i j m = omega arith

-- ---- the bounds of the demands

-- what is enough for so many legs is enough for fewer
pub enough_fewer : (n most a b : ℕ) → n ≤ most → Enough most a b → Enough n a b
enough_fewer n most a b few e = record {
  room = le_trans (mul-le-mul_right (3 * 2 ^ 53 + 3 + 2 ^ a) few) e.room;
  bound = le_trans (mul-le-mul_right (3 + 2 ^ a) few) e.bound;
  modest = e.modest;
}

pub forty : Forty
forty = record { room = lit≤ tt; bound = lit≤ tt; modest = lit≤ tt }

pub eighty : Eighty
eighty = record { room = lit≤ tt; bound = lit≤ tt; modest = lit≤ tt }
