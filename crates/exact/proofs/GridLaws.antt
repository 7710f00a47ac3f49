-- On the grid the differences, their squares and the sum are exact, so only the root of a leg's length is rounded.
-- Assumes nothing.
use mathlib.Core.Path.{◌≡◌, refl, sym, ap, ◌∙◌, subst}
use mathlib.Core.Bool.{Bool, true, false, not, ◌&&◌, beq, cond, true≢false, false≢true}
use Prim.Native.Nat.{ℕ, ◌+◌, ◌-◌, ◌*◌, ◌%◌, ◌^◌, ◌≤◌, ◌<◌}
use native.Mathlib.Nat.{le_trans, le_of_eq, le_of_lt, lt_of_le_of_lt, le_dest, mul_assoc, mul-le-mul, mul-le-mul_right}
use native.Mathlib.Nat.{mul-pos, le_of_mul-le-mul_right, mul-mul-mul_comm, div-add-mod', add_comm, add-le-add}
use native.Mathlib.Nat.{mul_right_comm}
use native.Mathlib.Omega.{arith}
use lib.Dec.{T, eqb, leb, ltb, eqb→eq, leb→le, ltb→lt, nltb→le, lit≤, lit<}
use lib.Ieee.{Float, nan, inf, fin, Format, binary64, up, down, round, sum, add, sub, mul, neg, fits}
use lib.Ieee.Fits.{down_pos, and_l, and_r, add-fits}
use lib.Ieee.Exact.{HasValue, round_exact}
use lib.Ieee.Scale.{round_same}
use Rattle.answer.specs.declared.Point.{Point}
use Rattle.root.specs.Steps.{steps_of, sign_of, has_root}
use Rattle.root.proofs.StepLaws.{steps_of_lem}
use Rattle.root.proofs.GridRoot.{Within, grid-root}
use Rattle.root.proofs.RootLaws.{root_fits, root_sign, root-finite}
use Rattle.grid.specs.Words.{gap}
use Rattle.grid.specs.Move.{per_mm}
use Rattle.exact.specs.Grid.{reach, on_grid, grid_point, units_of, apart, squared_length}
use Rattle.exact.specs.Length.{leg_root, step40}
use Rattle.points.specs.Distance.{distance_of, distance_sq_of, squares as squares_of}
use Rattle.exact.proofs.AddLaws.{Plain, add_at, value_plain}

-- ---- a coordinate on the grid

pub on-grid_value : (x : Float) → T (on_grid x) → HasValue x (sign_of x) (units_of x) per_mm
unfolding on_grid
on-grid_value nan t = absurd t
on-grid_value (inf s) t = absurd t
on-grid_value (fin s m e) t =
    let z : m * up e * per_mm % down e ≡ 0 =
    eqb→eq (m * up e * per_mm % down e) 0 (and_l (eqb (m * up e * per_mm % down e) 0)
    (leb (m * up e) (reach * down e)) t) in
    let d = div-add-mod' (m * up e * per_mm) (down e) in
    (refl, omega arith)

pub on-grid_small : (x : Float) → T (on_grid x) → units_of x ≤ reach * per_mm
unfolding on_grid
on-grid_small nan t = absurd t
on-grid_small (inf s) t = absurd t
on-grid_small (fin s m e) t =
    let l = leb→le (m * up e) (reach * down e) (and_r (eqb (m * up e * per_mm % down e) 0)
    (leb (m * up e) (reach * down e)) t) in
    let d = div-add-mod' (m * up e * per_mm) (down e) in
    le_of_mul-le-mul_right {k = down e} (omega arith) (down_pos e)

gap-le : (a b c : ℕ) → a ≤ c → b ≤ c → gap a b ≤ c + c
gap-le a b c h k = omega arith

pub apart_small : (x y : Float) → T (on_grid x) → T (on_grid y) → apart x y ≤ 2 ^ 24
unfolding apart
apart_small x y t u = go (beq (sign_of x) (sign_of y))
  where
    go : (b : Bool) → cond b (gap (units_of x) (units_of y)) (units_of x + units_of y) ≤ 2 ^ 24
    go true = gap-le (units_of x) (units_of y) (reach * per_mm) (on-grid_small x t) (on-grid_small y u)
    go false = omega (arith, on-grid_small x t, on-grid_small y u)

-- ---- a difference

-- with one denominator on each side
gap-less : (A B C a b c : ℕ) → 0 < C → A * c ≡ b * C → B * c ≡ a * C → A ≤ B → (B - A) * c ≡ gap a b * C
gap-less A B C a b c h p q l =
    go (le_dest l) (le_dest (le_of_mul-le-mul_right {k = C}
    (le_trans (le_of_eq (sym p)) (le_trans (mul-le-mul_right c l) (le_of_eq q))) h))
  where
    go : (w : ℕ) × (A + w ≡ B) → (z : ℕ) × (b + z ≡ a) → (B - A) * c ≡ gap a b * C
    go (w, i) (z, j) =
        let k : (A + w) * c ≡ (b + z) * C = ap (λ (n : ℕ). n * c) i ∙ q ∙ ap (λ (n : ℕ). n * C) (sym j) in
        let u : B - A ≡ w = omega arith in
        let v : gap a b ≡ z = omega arith in
        rw (u, v) (omega arith)

gap_comm : (a b : ℕ) → gap a b ≡ gap b a
gap_comm a b = add_comm (a - b) (b - a)

-- z is ±b less ±a, rounded once: its size, and its sign; where that is a's own, s, the way leads on from a to b
pub record Subtracted (f : Format) (z : Float) (s : Bool) (a b g c : ℕ) : Type 0 where
  pub sign : Bool
  pub is : z ≡ round f sign g c
  pub onward : sign ≡ s → a + g ≤ b

not_itself : (r : Bool) → not r ≡ r → ⊥
not_itself true e = false≢true e
not_itself false e = true≢false e

-- fractions in order, their sizes in other units are too
pub less-back : (A B C a b c : ℕ) → 0 < C → A * c ≡ b * C → B * c ≡ a * C → B ≤ A → a ≤ b
less-back A B C a b c h p q l =
    le_of_mul-le-mul_right {k = C} (le_trans (le_of_eq (sym q)) (le_trans (mul-le-mul_right c l) (le_of_eq p))) h

on_to : (a b : ℕ) → a ≤ b → a + gap a b ≤ b
on_to a b h = omega arith

-- of two with one sign
unlike_signs : (f : Format) (r : Bool) (A B C a b c : ℕ) → 0 < C → 0 < c → A * c ≡ b * C → B * c ≡ a * C
    → Subtracted f (cond (ltb A B) (round f (not r) (B - A) C) (round f (r && ltb B A) (A - B) C)) r a b (gap a b) c
unlike_signs f r A B C a b c h k p q = go (ltb A B) (ltb→lt A B) (nltb→le A B)
  where
    go : (t : Bool) → (T t → A < B) → (T (not t) → B ≤ A)
        → Subtracted f (cond t (round f (not r) (B - A) C) (round f (r && ltb B A) (A - B) C)) r a b (gap a b) c
    go true l g = record {
      sign = not r;
      is = round_same f (not r) (B - A) C (gap a b) c h k (gap-less A B C a b c h p q (le_of_lt (l tt)));
      onward = λ e. absurd (not_itself r e);
    }
    go false l g = record {
      sign = r && ltb B A;
      is = round_same f (r && ltb B A) (A - B) C (gap a b) c h k
          (gap-less B A C b a c h q p (g tt) ∙ ap (λ (n : ℕ). n * C) (gap_comm b a));
      onward = λ e. on_to a b (less-back A B C a b c h p q (g tt));
    }

-- ±b less ±a, by how far they are apart
abbrev pub size_between : Bool → ℕ → Bool → ℕ → ℕ
size_between s a t b = cond (beq s t) (gap a b) (a + b)

sum_cross : (A B C a b c : ℕ) → A * c ≡ b * C → B * c ≡ a * C → (A + B) * c ≡ (a + b) * C
sum_cross A B C a b c p q = omega arith

-- a fraction over a larger denominator
pub over : (x a c d e : ℕ) → x * c ≡ a * d → x * e * c ≡ a * (d * e)
over x a c d e p = omega (arith, ap (λ (z : ℕ). z * e) p)

pub over_right : (x a c d e : ℕ) → x * c ≡ a * e → x * d * c ≡ a * (d * e)
over_right x a c d e p = omega (arith, ap (λ (z : ℕ). z * d) p)

-- as it is computed
pub sub_at : (f : Format) (y x : Float) (b a c : ℕ) → 0 < c → HasValue y (sign_of y) b c → HasValue x (sign_of x) a c
    → Subtracted f (sub f y x) (sign_of x) a b (size_between (sign_of x) a (sign_of y) b) c
unfolding sub add neg sum
sub_at f nan x b a c h p q = absurd p
sub_at f (inf r) x b a c h p q = absurd p
sub_at f (fin t n d) nan b a c h p q = absurd q
sub_at f (fin t n d) (inf r) b a c h p q = absurd q
sub_at f (fin t n d) (fin s m e) b a c h p q =
    go t s (over (n * up d) b c (down d) (down e) p.1) (over_right (m * up e) a c (down d) (down e) q.1)
  where
    C_pos : 0 < down d * down e
    C_pos = mul-pos (down_pos d) (down_pos e)

    go : (t s : Bool) → n * up d * down e * c ≡ b * (down d * down e) → m * up e * down d * c ≡ a * (down d * down e)
        → Subtracted f (sum f t (n * up d * down e) (not s) (m * up e * down d) (down d * down e)) s a b
        (size_between s a t b) c
    go false false i j =
        unlike_signs f false (n * up d * down e) (m * up e * down d) (down d * down e) a b c C_pos h i j
    go true true i j = unlike_signs f true (n * up d * down e) (m * up e * down d) (down d * down e) a b c C_pos h i j
    go false true i j = record {
      sign = false;
      is = round_same f false (n * up d * down e + m * up e * down d) (down d * down e) (a + b) c C_pos h
          (sum_cross (n * up d * down e) (m * up e * down d) (down d * down e) a b c i j);
      onward = λ r. absurd (false≢true r);
    }
    go true false i j = record {
      sign = true;
      is = round_same f true (n * up d * down e + m * up e * down d) (down d * down e) (a + b) c C_pos h
          (sum_cross (n * up d * down e) (m * up e * down d) (down d * down e) a b c i j);
      onward = λ r. absurd (true≢false r);
    }

-- ---- a whole number of 2^-10 or 2^-20 of no more than 49 digits is a number of binary64

small_tenth : (s : Bool) (g : ℕ) → g ≤ 2 ^ 24 → HasValue (round binary64 s g per_mm) s g per_mm
small_tenth s g h =
    round_exact binary64 s g per_mm g 1064 (lit< tt) (lt_of_le_of_lt h (lit< tt))
    (lt_of_le_of_lt (mul-le-mul_right (2 ^ 1064) h) (lit< tt)) (sym (mul_assoc g (2 ^ 1064) per_mm))

small_twentieth : (g : ℕ) → g ≤ 2 ^ 49 → HasValue (round binary64 false g (2 ^ 20)) false g (2 ^ 20)
small_twentieth g h =
    round_exact binary64 false g (2 ^ 20) g 1054 (lit< tt) (lt_of_le_of_lt h (lit< tt))
    (lt_of_le_of_lt (mul-le-mul_right (2 ^ 1054) h) (lit< tt)) (sym (mul_assoc g (2 ^ 1054) (2 ^ 20)))

-- ---- the difference of two coordinates, and its square

-- y less x has that many grid units exactly; where its sign is x's own, y lies beyond x
pub record Difference (x y : Float) : Type 0 where
  pub sign : Bool
  pub value : HasValue (sub binary64 y x) sign (apart x y) per_mm
  pub onward : sign ≡ sign_of x → units_of x + apart x y ≤ units_of y

pub difference_exact : (x y : Float) → T (on_grid x) → T (on_grid y) → Difference x y
unfolding apart
difference_exact x y t u =
    let g = size_between (sign_of x) (units_of x) (sign_of y) (units_of y) in
    let d : Subtracted binary64 (sub binary64 y x) (sign_of x) (units_of x) (units_of y) g per_mm =
    sub_at binary64 y x (units_of y) (units_of x) per_mm (lit< tt) (on-grid_value y u) (on-grid_value x t) in
    record {
      sign = d.sign;
      value = subst (λ (z : Float). HasValue z d.sign g per_mm) (sym d.is)
          (small_tenth d.sign g (apart_small x y t u));
      onward = d.onward;
    }

square-at : (d : Float) (s : Bool) (g : ℕ) → HasValue d s g per_mm
    → mul binary64 d d ≡ round binary64 false (g * g) (2 ^ 20)
unfolding mul
square-at nan s g h = absurd h
square-at (inf t) s g h = absurd h
square-at (fin t m e) s g h = go t
  where
    cross : m * up e * (m * up e) * (2 ^ 20) ≡ g * g * (down e * down e)
    cross = mul-mul-mul_comm (m * up e) (m * up e) per_mm per_mm ∙ ap (λ (z : ℕ). z * (m * up e * per_mm)) h.1
        ∙ ap (λ (z : ℕ). g * down e * z) h.1 ∙ mul-mul-mul_comm g (down e) g (down e)

    go : (t : Bool) → mul binary64 (fin t m e) (fin t m e) ≡ round binary64 false (g * g) (2 ^ 20)
    go true = round_same binary64 false (m * up e * (m * up e)) (down e * down e) (g * g) (2 ^ 20)
        (mul-pos (down_pos e) (down_pos e)) (lit< tt) cross
    go false = round_same binary64 false (m * up e * (m * up e)) (down e * down e) (g * g) (2 ^ 20)
        (mul-pos (down_pos e) (down_pos e)) (lit< tt) cross

square_small : (g : ℕ) → g ≤ 2 ^ 24 → g * g ≤ 2 ^ 48
square_small g h = mul-le-mul {n₂ = 2 ^ 24} {m₂ = 2 ^ 24} h h

square_exact : (x y : Float) → T (on_grid x) → T (on_grid y)
    → HasValue (mul binary64 (sub binary64 y x) (sub binary64 y x)) false (apart x y * apart x y) (2 ^ 20)
square_exact x y t u =
    let d = difference_exact x y t u in
    subst (λ (z : Float). HasValue z false (apart x y * apart x y) (2 ^ 20))
    (sym (square-at (sub binary64 y x) d.sign (apart x y) d.value))
    (small_twentieth (apart x y * apart x y) (le_trans (square_small (apart x y) (apart_small x y t u)) (lit≤ tt)))

-- ---- a point on the grid

pub x_on : (p : Point) → T (grid_point p) → T (on_grid p.x)
unfolding grid_point
x_on p t = and_l (on_grid p.x) (on_grid p.y) t

pub y_on : (p : Point) → T (grid_point p) → T (on_grid p.y)
unfolding grid_point
y_on p t = and_r (on_grid p.x) (on_grid p.y) t

-- ---- the squared length of a leg between grid points

pub squared_small : (a b : Point) → T (grid_point a) → T (grid_point b) → squared_length a b ≤ 2 ^ 49
unfolding grid_point squared_length
squared_small a b t u =
    let x = square_small (apart a.x b.x) (apart_small a.x b.x (x_on a t)
    (x_on b u)) in
    let y = square_small (apart a.y b.y) (apart_small a.y b.y (y_on a t)
    (y_on b u)) in
    add-le-add {b = 2 ^ 48} {d = 2 ^ 48} x y

-- the sum of the squares, as it is computed
abbrev squares : Point → Point → Float
squares a b =
    add binary64 (mul binary64 (sub binary64 b.x a.x) (sub binary64 b.x a.x))
    (mul binary64 (sub binary64 b.y a.y) (sub binary64 b.y a.y))

squares_exact : (a b : Point) → T (grid_point a) → T (grid_point b)
    → HasValue (squares a b) false (squared_length a b) (2 ^ 20)
unfolding grid_point squared_length
squares_exact a b t u =
    let S = apart a.x b.x * apart a.x b.x + apart a.y b.y * apart a.y b.y in
    let dx = sub binary64 b.x a.x in
    let dy = sub binary64 b.y a.y in
    let is : squares a b ≡ round binary64 false S (2 ^ 20) =
    add_at binary64 (mul binary64 dx dx) (mul binary64 dy dy) (apart a.x b.x * apart a.x b.x)
    (apart a.y b.y * apart a.y b.y) (2 ^ 20) (lit< tt)
    (square_exact a.x b.x (x_on a t) (x_on b u))
    (square_exact a.y b.y (y_on a t) (y_on b u)) in
    subst (λ (z : Float). HasValue z false S (2 ^ 20)) (sym is) (small_twentieth S (squared_small a b t u))

in_steps : (x : Float) (S : ℕ) → HasValue x false S (2 ^ 20) → steps_of x ≡ S * 2 ^ 1054
in_steps x S h = steps_of_lem binary64 x false (S * 2 ^ 1054) (scaled x h)
  where
    scaled : (x : Float) → HasValue x false S (2 ^ 20) → HasValue x false (S * 2 ^ 1054) (2 ^ 1074)
    scaled nan h = h
    scaled (inf s) h = h
    scaled (fin s m e) h = (
      h.0,
      sym (mul_assoc (m * up e) (2 ^ 20) (2 ^ 1054)) ∙ ap (λ (z : ℕ). z * 2 ^ 1054) h.1
          ∙ mul_right_comm S (down e) (2 ^ 1054),
    )

pub plain_real : (x : Float) → Plain binary64 x → T (has_root x)
plain_real nan p = p.finite-one
plain_real (inf s) p = p.finite-one
plain_real (fin true m e) p = absurd (true≢false p.plus)
plain_real (fin false m e) p = tt

-- ---- a leg: a number of the format whose size is within three steps of 2^-40 mm of R

pub record NearLeg (computed : Float) (S : ℕ) : Type 0 where
  pub plain : Plain binary64 computed
  pub small : S ≤ 2 ^ 49
  pub within : Within (steps_of computed) (leg_root S) step40

pub grid-leg : (a b : Point) → T (grid_point a) → T (grid_point b) → NearLeg (distance_of a b) (squared_length a b)
unfolding distance_of distance_sq_of squares_of leg_root
grid-leg a b t u =
    let x = squares a b in
    let S = squared_length a b in
    let v = squares_exact a b t u in
    let held : T (fits binary64 x) =
    add-fits binary64 (mul binary64 (sub binary64 b.x a.x) (sub binary64 b.x a.x))
    (mul binary64 (sub binary64 b.y a.y) (sub binary64 b.y a.y)) in
    let plus = value_plain binary64 x S (2 ^ 20) held v in
    let real = plain_real x plus in
    record {
      plain = record {
        held = root_fits x real;
        finite-one = root-finite x held real;
        plus = root_sign x held real ∙ plus.plus;
      };
      small = squared_small a b t u;
      within = grid-root x S held real (in_steps x S v) (squared_small a b t u);
    }
