-- A distance is the same both ways, to the bit. Assumes nothing.
use mathlib.Core.Path.{◌≡◌, refl, sym, ap, ap₂, ◌∙◌}
use mathlib.Core.Bool.{Bool, true, false, not, ◌&&◌, and-true, cond}
use mathlib.Core.Logic.{◌⊎◌, inl, inr}
use Prim.Native.Nat.{ℕ, ◌+◌, ◌-◌, ◌*◌}
use native.Mathlib.Nat.{add_comm, mul_comm}
use native.Mathlib.Omega.{arith}
use borrow.Author.Tests.{ltb-true, ltb-false}
use lib.Dec.{ltb}
use lib.Ieee.{Float, nan, inf, fin, Format, binary64, up, down, round, neg}
use lib.Ieee.{sum, add, sub, mul}
use Rattle.answer.specs.declared.Point.{Point}
use Rattle.root.specs.Root.{sqrt_of}
use Rattle.root.proofs.Negation.{round-neg, neg-neg}
use Rattle.points.specs.Distance.{squares, distance_sq_of, distance_of}

-- ---- a difference the other way round: the same, or the same but for its sign

turned : {x y : Float} → y ≡ neg x → x ≡ neg y
turned {x} e = sym (neg-neg x) ∙ ap neg (sym e)

abbrev pub Mirrored : Float → Float → Type 0
Mirrored x y = (x ≡ y) ⊎ (x ≡ neg y)

-- the two numbers have the same sign: what is left over has the sign of the larger
module _ (f : Format) (s : Bool) (a b c : ℕ) where
  left_over : (p q : Bool) → ltb a b ≡ p → ltb b a ≡ q
      → Mirrored (cond p (round f (not s) (b - a) c) (round f (s && q) (a - b) c))
      (cond q (round f (not s) (a - b) c) (round f (s && p) (b - a) c))
  left_over true true e g = absurd (omega (arith, ltb-true a b e, ltb-true b a g))
  left_over true false e g = inr (rw and-true (round-neg f s (b - a) c))
  left_over false true e g = inr (rw and-true (turned (round-neg f s (a - b) c)))
  left_over false false e g =
      let h : a - b ≡ b - a = omega (arith, ltb-false a b e, ltb-false b a g) in
      inl (rw h)

sum_mirrored : (f : Format) (s : Bool) (a : ℕ) (t : Bool) (b c : ℕ)
    → Mirrored (sum f s a (not t) b c) (sum f t b (not s) a c)
unfolding sum
sum_mirrored f true a true b c = left_over f true a b c (ltb a b) (ltb b a) refl refl
sum_mirrored f false a false b c = left_over f false a b c (ltb a b) (ltb b a) refl refl
sum_mirrored f true a false b c = inr (ap (λ (n : ℕ). round f true n c) (add_comm a b) ∙ round-neg f false (b + a) c)
sum_mirrored f false a true b c = inr (ap (λ (n : ℕ). round f false n c) (add_comm a b) ∙ round-neg f true (b + a) c)

-- b - a is a - b, or that with the other sign
pub sub_mirrored : (f : Format) (x y : Float) → Mirrored (sub f x y) (sub f y x)
unfolding sub add neg
sub_mirrored f nan nan = inl refl
sub_mirrored f nan (inf t) = inl refl
sub_mirrored f nan (fin t n d) = inl refl
sub_mirrored f (inf s) nan = inl refl
sub_mirrored f (inf true) (inf true) = inl refl
sub_mirrored f (inf true) (inf false) = inr refl
sub_mirrored f (inf false) (inf true) = inr refl
sub_mirrored f (inf false) (inf false) = inl refl
sub_mirrored f (inf true) (fin t n d) = inr refl
sub_mirrored f (inf false) (fin t n d) = inr refl
sub_mirrored f (fin s m e) nan = inl refl
sub_mirrored f (fin s m e) (inf t) = inr refl
sub_mirrored f (fin s m e) (fin t n d) =
    rw (mul_comm (down d) (down e)) (sum_mirrored f s (m * up e * down d) t (n * up d * down e) (down e * down d))

-- ---- so its square is the same

square-neg : (f : Format) (x : Float) → mul f (neg x) (neg x) ≡ mul f x x
unfolding mul neg
square-neg f nan = refl
square-neg f (inf true) = refl
square-neg f (inf false) = refl
square-neg f (fin true m e) = refl
square-neg f (fin false m e) = refl

square_mirrored : (f : Format) (x y : Float) → Mirrored x y → mul f x x ≡ mul f y y
square_mirrored f x y (inl e) = rw e
square_mirrored f x y (inr e) = rw e (square-neg f y)

pub distance_sq_sym : (a b : Point) → distance_sq_of a b ≡ distance_sq_of b a
unfolding distance_sq_of squares
distance_sq_sym a b =
    ap₂ (add binary64)
    (square_mirrored binary64 (sub binary64 b.x a.x) (sub binary64 a.x b.x)
    (sub_mirrored binary64 b.x a.x))
    (square_mirrored binary64 (sub binary64 b.y a.y) (sub binary64 a.y b.y)
    (sub_mirrored binary64 b.y a.y))

pub distance_sym : (a b : Point) → distance_of a b ≡ distance_of b a
unfolding distance_of
distance_sym a b = ap sqrt_of (distance_sq_sym a b)
