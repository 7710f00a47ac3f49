-- `moved` is the move that the words say, and no other function is. Assumes nothing.
use Rattle.std.proofs.Common.{◌≡◌, ℕ, zero, suc, ◌+◌, ◌*◌, ◌<◌, ◌≤◌, Bool, true, false, cond, ltb, sym, refl, ap, ◌∙◌, subst, le_trans, le_of_eq, mul-le-mul_right, le_antisymm, one-mul, zero-mul, arith, lit<, lt-ltb}
use mathlib.Core.Bool.{beq}
use lib.Ieee.{Float, nan, inf, fin, up, down}
use lib.Ieee.Fits.{down_pos}
use lib.Ieee.Exact.{HasValue}
use Rattle.grid.specs.Move.{per_mm, units_near, moved}
use Rattle.grid.specs.Words.{gap, away, NearestOnGrid, Moves, Stays, Only, Claim}
use Rattle.grid.proofs.UnitLaws.{no_product, Beside, nearest, larger}
use Rattle.grid.proofs.MoveLaws.{sign_for, beside, moved_value, moved_fits, same_number}

module _ (s : Bool) (a c w : ℕ) (C : 0 < c) (b : Beside (a * per_mm) c w) where
  -- with the sign that is told, a number is as far off as the sizes are
  told : away s a c (sign_for s w) w ≡ gap (a * per_mm) (w * c)
  told = go s w
    where
      go : (s : Bool) (w : ℕ) → away s a c (sign_for s w) w ≡ gap (a * per_mm) (w * c)
      go false w = refl
      go true zero = let z = zero-mul c in omega arith
      go true (suc w) = rw (lt-ltb 0 (suc w) (omega arith))

  least : (t : Bool) (n : ℕ) → away s a c (sign_for s w) w ≤ away s a c t n
  least t n = le_trans (le_of_eq told) (go (beq s t))
    where
      go : (p : Bool) → gap (a * per_mm) (w * c) ≤ cond p (gap (a * per_mm) (n * c)) (a * per_mm + n * c)
      go true = nearest (a * per_mm) c w n b
      go false = let near = nearest (a * per_mm) c w 0 b in let z = zero-mul c in omega arith

  most : (t : Bool) (n : ℕ) → away s a c t n ≡ away s a c (sign_for s w) w → n ≤ w
  most t n e = go (beq s t) (e ∙ told)
    where
      go : (p : Bool) → cond p (gap (a * per_mm) (n * c)) (a * per_mm + n * c) ≡ gap (a * per_mm) (w * c) → n ≤ w
      go true h = larger (a * per_mm) c w n C b h
      go false h =
          let near = nearest (a * per_mm) c w 0 b in
          let z = zero-mul c in
          let none = no_product n c C (omega arith) in
          omega arith

plus_zero : (s : Bool) (w : ℕ) → w ≡ 0 → sign_for s w ≡ false
plus_zero true w h = ap (λ (z : ℕ). ltb 0 z) h
plus_zero false w h = refl

moves : Moves moved
moves s m e f =
    let w = units_near (fin s m e) in record {
      sign = sign_for s w;
      units = w;
      on-grid = moved_value s m e f;
      held = moved_fits (fin s m e) f;
      no_nearer = least s (m * up e) (down e) w (down_pos e) (beside s m e);
      farther_of_two = most s (m * up e) (down e) w (down_pos e) (beside s m e);
      no_minus_zero = plus_zero s w;
    }

stays : Stays moved
unfolding moved
stays = record { no_number = refl; infinite = λ s. refl }

-- ---- two answers that the words allow are one

-- they have the same units
same_units : (s : Bool) (a c : ℕ) (x y : Float) (p : NearestOnGrid s a c x) (q : NearestOnGrid s a c y)
    → p.units ≡ q.units
same_units s a c x y p q =
    let l = p.no_nearer q.sign q.units in
    let m = q.no_nearer p.sign p.units in
    let e : away s a c p.sign p.units ≡ away s a c q.sign q.units = le_antisymm l m in
    le_antisymm (q.farther_of_two p.sign p.units e) (p.farther_of_two q.sign q.units (sym e))

-- some units have the number's sign, since zero would be nearer than the other
own_sign : (s t : Bool) (a c u : ℕ) → 0 < c → 0 < u → ((r : Bool) (n : ℕ) → away s a c t u ≤ away s a c r n) → t ≡ s
own_sign true true a c u C U h = refl
own_sign false false a c u C U h = refl
own_sign true false a c u C U h =
    let l = h true 0 in let g = mul-le-mul_right c U in absurd (omega (arith, l, g, zero-mul c, one-mul c))
own_sign false true a c u C U h =
    let l = h false 0 in let g = mul-le-mul_right c U in absurd (omega (arith, l, g, zero-mul c, one-mul c))

same_sign : (s : Bool) (a c : ℕ) (x y : Float) → 0 < c → (p : NearestOnGrid s a c x) (q : NearestOnGrid s a c y)
    → p.sign ≡ q.sign
same_sign s a c x y C p q = go p.units refl
  where
    e : p.units ≡ q.units
    e = same_units s a c x y p q

    go : (u : ℕ) → p.units ≡ u → p.sign ≡ q.sign
    go zero h = p.no_minus_zero h ∙ sym (q.no_minus_zero (sym e ∙ h))
    go (suc u) h =
        own_sign s p.sign a c p.units C (omega arith) p.no_nearer
        ∙ sym (own_sign s q.sign a c q.units C (omega (arith, e)) q.no_nearer)

only : Only
only move g nan f = g.1.no_number ∙ sym stays.no_number
only move g (inf s) f = g.1.infinite s ∙ sym (stays.infinite s)
only move g (fin s m e) f =
    let x = move (fin s m e) in
    let y = moved (fin s m e) in
    let p = g.0 s m e f in
    let q = moves s m e f in
    same_number x y q.sign p.units per_mm q.units per_mm p.held q.held (lit< tt) (lit< tt)
    (subst (λ (t : Bool). HasValue x t p.units per_mm) (same_sign s (m * up e) (down e) x y (down_pos e) p q)
    p.on-grid)
    q.on-grid
    (ap (λ (u : ℕ). u * per_mm) (same_units s (m * up e) (down e) x y p q))

pub claim : Claim
claim = ((moves, stays), only)
