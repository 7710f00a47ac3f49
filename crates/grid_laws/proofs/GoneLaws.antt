-- How far along an edge a distance falls: the lengths passed before it are no more than 2^16 mm each, and what is gone
-- of it is its length and 2^-31 mm at most. Assumes nothing.
use mathlib.Core.Path.{◌≡◌, sym, ap, ◌∙◌, subst}
use mathlib.Core.Bool.{true, false, true≢false}
use Prim.Native.Nat.{ℕ, suc, ◌+◌, ◌-◌, ◌*◌, ◌^◌, ◌≤◌, ◌<◌}
use native.Mathlib.Nat.{le_of_eq, lt_of_lt_of_le, mul-le-mul_right}
use native.Mathlib.Omega.{arith}
use lib.Dec.{T, lit<}
use lib.Arith.{le→nltb}
use lib.Pow.{pow_pos}
use lib.Ieee.{Float, nan, inf, fin, Format, binary64, up, down, add, sub, div, fits, le}
use lib.Ieee.Fits.{up_pos, down_pos}
use lib.Ieee.Scale.{finite}
use Rattle.root.specs.Steps.{steps_of, sign_of, has_root}
use Rattle.root.proofs.AtMost.{at_most}
use Rattle.root.proofs.StepLaws.{steps_value, le→steps, real_finite}
use Rattle.points.specs.Numbers.{zero64, tiny}
use Rattle.grid.proofs.UnitLaws.{no_product}
use Rattle.exact.proofs.AddLaws.{Plain, Added, added, plain_value}
use Rattle.exact.proofs.GridLaws.{plain_real}
use Rattle.grid_laws.proofs.OperationLaws.{Rounded, Forward, rounded, rounded_steps, in_steps, round-none}
use Rattle.grid_laws.proofs.OperationLaws.{sub_forward, div-at}
use Rattle.grid_laws.proofs.ProductLaws.{gone_under, quotient_room}
use Rattle.grid_laws.proofs.LegLaws.{zero_plain, zero-steps, tiny_plain, tiny_below}
use Rattle.grid_laws.proofs.EdgeLaws.{Gone}

-- ---- the lengths passed

-- a sum of i lengths
pub record Sofar (i : ℕ) (x : Float) : Type 0 where
  pub plain : Plain binary64 x
  pub small : steps_of x ≤ i * (2 ^ 68 * 2 ^ 1022)

pub no_length : Sofar 0 zero64
no_length = record { plain = zero_plain; small = le_of_eq zero-steps }

sum_room : (W i B l : ℕ) → 0 < W → i < 30 → B ≤ i * (2 ^ 68 * W) → l ≤ 2 ^ 67 * W → B + l < 2 ^ 73 * W
sum_room W i B l w h b k =
    let a : suc i * (2 ^ 68 * W) ≤ 30 * (2 ^ 68 * W) = mul-le-mul_right (2 ^ 68 * W) h in
    omega arith

one_more : (W i B l a : ℕ) → B ≤ i * (2 ^ 68 * W) → l ≤ 2 ^ 67 * W → 2 * a ≤ 2 * (B + l) + 2 ^ 20 * W
    → a ≤ suc i * (2 ^ 68 * W)
one_more W i B l a b k h = omega arith

end_room : (W i a e : ℕ) → 0 < W → i < 30 → a ≤ suc i * (2 ^ 68 * W) → e ≤ 2 ^ 13 * W → a + e < 2 ^ 73 * W
end_room W i a e w h b k =
    let c : suc i * (2 ^ 68 * W) ≤ 30 * (2 ^ 68 * W) = mul-le-mul_right (2 ^ 68 * W) h in
    omega arith

-- the length of one more edge added
after_added : (i : ℕ) (before length : Float) → i < 30 → Sofar i before → Plain binary64 length
    → steps_of length ≤ 2 ^ 67 * 2 ^ 1022 → Added binary64 1042 before length
after_added i before length h s p l =
    added binary64 1042 before length s.plain p
    (sum_room (2 ^ 1022) i (steps_of before) (steps_of length) (pow_pos 1022) h s.small l) (lit< tt)

pub next-length : (i : ℕ) (before length : Float) → i < 30 → Sofar i before → Plain binary64 length
    → steps_of length ≤ 2 ^ 67 * 2 ^ 1022 → Sofar (suc i) (add binary64 before length)
next-length i before length h s p l =
    let a = after_added i before length h s p l in
    record {
      plain = a.plain;
      small = one_more (2 ^ 1022) i (steps_of before) (steps_of length) (steps_of (add binary64 before length))
          s.small l a.high;
    }

-- ---- the distance

-- what lies between two numbers that are not negative is a number that is not below zero
real_between : (f : Format) (x y z : Float) → Plain f x → Plain f z → T (le x y) → T (le y z) → T (has_root y)
unfolding le
real_between f nan y z p q h k = absurd p.finite-one
real_between f (inf s) y z p q h k = absurd p.finite-one
real_between f (fin true m e) y z p q h k = absurd (true≢false p.plus)
real_between f (fin false m e) y nan p q h k = absurd q.finite-one
real_between f (fin false m e) y (inf t) p q h k = absurd q.finite-one
real_between f (fin false m e) nan (fin t n d) p q h k = h
real_between f (fin false m e) (inf true) (fin t n d) p q h k = h
real_between f (fin false m e) (inf false) (fin t n d) p q h k = k
real_between f (fin false m e) (fin false i j) (fin t n d) p q h k = tt
real_between f (fin false m e) (fin true i j) (fin t n d) p q h k =
    let b = at_most false (m * up e * down j) true (i * up j * down e) h in
    le→nltb 0 i
    (le_of_eq (no_product i (up j) (up_pos j) (no_product (i * up j) (down e) (down_pos e) b.1)))

gone_room : (W B l a e E D : ℕ) → 0 < W → l ≤ 2 ^ 67 * W → 2 * a ≤ 2 * (B + l) + 2 ^ 20 * W → e ≤ 2 ^ 13 * W
    → 2 * E ≤ 2 * (a + e) + 2 ^ 20 * W → D ≤ E → D - B < 2 ^ 68 * W
gone_room W B l a e E D w k h i j m = omega arith

-- what is gone of the edge
record Passed (d before length : Float) : Type 0 where
  held : T (fits binary64 (sub binary64 d before))
  finite-one : T (finite (sub binary64 d before))
  none : sign_of (sub binary64 d before) ≡ true → steps_of (sub binary64 d before) ≡ 0
  modest : steps_of (sub binary64 d before) ≤ steps_of length + 2 ^ 21 * 2 ^ 1022

passed : (i : ℕ) (d before length : Float) → i < 30 → Sofar i before → Plain binary64 length
    → steps_of length ≤ 2 ^ 67 * 2 ^ 1022 → T (fits binary64 d) → T (le before d)
    → T (le d (add binary64 (add binary64 before length) tiny)) → Passed d before length
passed i d before length h s p l t u w =
    let W = 2 ^ 1022 in
    let after = add binary64 before length in
    let end = add binary64 after tiny in
    let a = after_added i before length h s p l in
    let n = next-length i before length h s p l in
    let e = added binary64 1042 after tiny n.plain tiny_plain
    (end_room W i (steps_of after) (steps_of tiny) (pow_pos 1022) h n.small tiny_below) (lit< tt) in
    let real = real_between binary64 before d end s.plain e.plain u w in
    let from = plain_real before s.plain in
    let to = plain_real end e.plain in
    let low : steps_of before ≤ steps_of d = le→steps binary64 before d s.plain.held from t real u in
    let high : steps_of d ≤ steps_of end = le→steps binary64 d end t real e.plain.held to w in
    let z = steps_of d - steps_of before in
    let v : Forward binary64 (sub binary64 d before) z (2 ^ 1074) =
    sub_forward binary64 d before (steps_of d) (steps_of before) (2 ^ 1074) (pow_pos 1074) real
    (steps_value binary64 d t (real_finite d real)) (plain_value binary64 before s.plain) low in
    let r : Rounded binary64 1037 (sub binary64 d before) v.sign z (2 ^ 1074) =
    subst (λ (x : Float). Rounded binary64 1037 x v.sign z (2 ^ 1074)) (sym v.is)
    (rounded_steps binary64 1037 v.sign z (gone_room W (steps_of before) (steps_of length) (steps_of after)
    (steps_of tiny) (steps_of end) (steps_of d) (pow_pos 1022) l a.high tiny_below e.high high) (lit< tt)) in
    record {
      held = r.held;
      finite-one = r.finite-one;
      none = λ g.
          ap steps_of v.is ∙ round-none binary64 v.sign z (2 ^ 1074) (pow_pos 1074) (lit< tt)
          (v.none (sym r.sign ∙ g));
      modest = gone_under W (steps_of before) (steps_of length) (steps_of after) (steps_of tiny) (steps_of end) (steps_of d)
          (steps_of (sub binary64 d before)) a.high tiny_below e.high high
          (in_steps binary64 1037 (sub binary64 d before) v.sign z r);
    }

-- and that over the edge's length, which is not under 1e-12
pub gone : (i : ℕ) (d before length : Float) → i < 30 → Sofar i before → Plain binary64 length
    → steps_of length ≤ 2 ^ 67 * 2 ^ 1022 → 2 ^ 12 * 2 ^ 1022 ≤ steps_of length → T (fits binary64 d) → T (le before d)
    → T (le d (add binary64 (add binary64 before length) tiny))
    → Gone (steps_of length) (steps_of (sub binary64 d before)) (div binary64 (sub binary64 d before) length)
gone i d before length h s p l b t u w =
    let n = steps_of length in
    let x = sub binary64 d before in
    let g = steps_of x in
    let q = passed i d before length h s p l t u w in
    let some : 0 < n = lt_of_lt_of_le (lit< tt) b in
    let is = div-at binary64 x length (sign_of x) g n (2 ^ 1074) (pow_pos 1074) some
    (steps_value binary64 x q.held q.finite-one) (plain_value binary64 length p) in
    let z = div binary64 x length in
    let r : Rounded binary64 1031 z (sign_of x) g n =
    subst (λ (y : Float). Rounded binary64 1031 y (sign_of x) g n) (sym is)
    (rounded binary64 1031 (sign_of x) g n some
    (quotient_room (2 ^ 1022) g n (2 ^ 1074) (pow_pos 1022) (pow_pos 1074) b q.modest) (lit< tt)) in
    record {
      held = r.held;
      finite-one = r.finite-one;
      none = λ e. ap steps_of is ∙ round-none binary64 (sign_of x) g n some (lit< tt) (q.none (sym r.sign ∙ e));
      high = r.high;
      modest = q.modest;
      some = some;
    }
