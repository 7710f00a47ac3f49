-- The start's choice is the nearest candidate offered, and of equally near ones the first. Assumes nothing.
use mathlib.Core.Bool.{Bool, true, false, cond, true≢false}
use mathlib.Core.Logic.{◌⊎◌, inl, inr}
use mathlib.Core.Path.{◌≡◌, refl, sym, ap, ◌∙◌, subst}
use Prim.Native.Nat.{ℕ, zero, suc, ◌+◌, ◌-◌, ◌*◌, ◌≤◌, ◌<◌}
use native.Mathlib.Nat.{zero-add, add-zero, add-suc, suc-add}
use native.Mathlib.Omega.{arith}
use borrow.Author.Tests.{ltb-true, ltb-false}
use lib.Dec.{T}
use lib.Ieee.{Float, nan, inf, fin, lt, le, eq, up, down, of_bits, of_fields, odd}
use lib.ListN.{get_or}
use Rattle.root.proofs.AtMost.{at_most, tested}
use Rattle.closure.proofs.PairLaws.{same_or}
use Rattle.improve.proofs.FloatOrder.{le_trans_float, lt→le}
use Rattle.table.specs.Each.{each}
use Rattle.start.specs.Nearest.{Ground, Way, reach_of, nothing_yet, closer, offer, offered, is_open, considered, chosen}
use Rattle.start.proofs.ChoiceLaws.{InContour}

-- ---- floats that are finite and have no minus sign

abbrev pub Real : Float → Type 0
Real nan = ⊥
Real (inf s) = ⊥
Real (fin s m e) = s ≡ false

not-nearer : (x y : Float) → Real x → Real y → lt x y ≡ false → T (le y x)
unfolding lt le eq
not-nearer nan y p q h = absurd p
not-nearer (inf s) y p q h = absurd p
not-nearer (fin true m e) y p q h = absurd (true≢false p)
not-nearer (fin false m e) nan p q h = absurd q
not-nearer (fin false m e) (inf t) p q h = absurd q
not-nearer (fin false m e) (fin true n d) p q h = absurd (true≢false q)
not-nearer (fin false m e) (fin false n d) p q h =
    tested false (n * up d * down e) false (m * up e * down d) (ltb-false (m * up e * down d) (n * up d * down e) h)

nearer-not : (x y : Float) → Real x → Real y → lt x y ≡ true → T (le y x) → ⊥
unfolding lt le eq
nearer-not nan y p q h k = p
nearer-not (inf s) y p q h k = p
nearer-not (fin true m e) y p q h k = true≢false p
nearer-not (fin false m e) nan p q h k = q
nearer-not (fin false m e) (inf t) p q h k = q
nearer-not (fin false m e) (fin true n d) p q h k = true≢false q
nearer-not (fin false m e) (fin false n d) p q h k =
    let l = ltb-true (m * up e * down d) (n * up d * down e) h in
    let g = at_most false (n * up d * down e) false (m * up e * down d) k in
    omega arith

self : (x : Float) → Real x → T (le x x)
unfolding lt le eq
self nan p = absurd p
self (inf s) p = absurd p
self (fin true m e) p = absurd (true≢false p)
self (fin false m e) p = tested false (m * up e * down e) false (m * up e * down e) (omega arith)

-- ---- the best of those offered

-- a choice at distance d, of candidate a if one is found, among those offered, which are all below the bound
record Best (reach : ℕ → Float) (Offered : ℕ → Type 0) (bound : ℕ) (d : Float) (found : Bool) (a : ℕ) : Type 0 where
  real : Real d
  reals : (b : ℕ) → Offered b → Real (reach b)
  least : (b : ℕ) → Offered b → T (le d (reach b))
  own : found ≡ true → d ≡ reach a
  before : found ≡ true → a < bound
  first : found ≡ true → (b : ℕ) → Offered b → b < a → lt d (reach b) ≡ true

-- fewer offered, and a higher bound
fewer : (reach : ℕ → Float) (O P : ℕ → Type 0) (m n : ℕ) (d : Float) (found : Bool) (a : ℕ) → ((b : ℕ) → P b → O b)
    → m ≤ n
    → Best reach O m d found a → Best reach P n d found a
fewer reach O P m n d found a sub up' w = record {
  real = w.real;
  reals = λ b o. w.reals b (sub b o);
  least = λ b o. w.least b (sub b o);
  own = w.own;
  before = λ e. (let l = w.before e in omega arith);
  first = λ e b o l. w.first e b (sub b o) l;
}

-- one more is offered: the one at the bound
module _ (reach : ℕ → Float) (O : ℕ → Type 0) (i : ℕ) (d : Float) (found : Bool) (a : ℕ)
    (w : Best reach O i d found a) (r : Real (reach i)) where
  abbrev More : ℕ → Type 0
  More b = O b ⊎ (b ≡ i)

  reals_more : (b : ℕ) → More b → Real (reach b)
  reals_more b (inl o) = w.reals b o
  reals_more b (inr e) = subst (λ (j : ℕ). Real (reach j)) (sym e) r

  taken : lt (reach i) d ≡ true → Best reach More (suc i) (reach i) true i
  taken h = record {
    real = r;
    reals = reals_more;
    least = least_more;
    own = λ e. refl;
    before = λ e. omega arith;
    first = λ e. first_more;
  }
    where
      least_more : (b : ℕ) → More b → T (le (reach i) (reach b))
      least_more b (inl o) = le_trans_float (reach i) d (reach b) (lt→le (reach i) d h) (w.least b o)
      least_more b (inr e) = subst (λ (j : ℕ). T (le (reach i) (reach j))) (sym e) (self (reach i) r)

      strict : (b : ℕ) → O b → (c : Bool) → lt (reach i) (reach b) ≡ c → c ≡ true
      strict b o true e = refl
      strict b o false e =
          absurd (nearer-not (reach i) d r w.real h
          (le_trans_float d (reach b) (reach i) (w.least b o) (not-nearer (reach i) (reach b) r (w.reals b o) e)))

      first_more : (b : ℕ) → More b → b < i → lt (reach i) (reach b) ≡ true
      first_more b (inl o) l = strict b o (lt (reach i) (reach b)) refl
      first_more b (inr e) l = absurd (omega arith)

  passed : lt (reach i) d ≡ false → Best reach More (suc i) d found a
  passed h = record {
    real = w.real;
    reals = reals_more;
    least = least_more;
    own = w.own;
    before = λ e. (let l = w.before e in omega arith);
    first = first_more;
  }
    where
      least_more : (b : ℕ) → More b → T (le d (reach b))
      least_more b (inl o) = w.least b o
      least_more b (inr e) = subst (λ (j : ℕ). T (le d (reach j))) (sym e) (not-nearer (reach i) d r w.real h)

      first_more : found ≡ true → (b : ℕ) → More b → b < a → lt d (reach b) ≡ true
      first_more f b (inl o) l = w.first f b o l
      first_more f b (inr e) l = let m = w.before f in absurd (omega arith)

-- ---- all that are offered, in order

-- what holds of a number and a state, and each step carries to the next number
each_on : {S : Type 0} (step : ℕ → S → S) (P : ℕ → S → Type 0) (k a : ℕ)
    → ((i : ℕ) → a ≤ i → i < a + k → (s : S) → P i s → P (suc i) (step i s)) → (s : S) → P a s
    → P (a + k) (each step k a s)
unfolding each
each_on step P zero a h s p = rw (add-zero a) p
each_on step P (suc k) a h s p =
    rw (add-suc a k, ← suc-add a k) (each_on step P k (suc a) (λ i l g. h i (omega arith) (omega arith)) (step a s)
    (h a (omega arith) (omega arith) s p))

-- a candidate of an open contour below k
pub record Open (ground : Ground) (way : Way) (k b : ℕ) : Type 0 where
  pub contour : ℕ
  pub below : contour < k
  pub is_open_lem : is_open ground way contour ≡ true
  pub among : InContour ground.first contour b

-- where each contour's first candidate stands
abbrev first_in : Ground → ℕ → ℕ
first_in ground k = get_or ground.first k 0

module _ (ground : Ground) (way : Way) (n : ℕ) (rises : (k : ℕ) → k < n → first_in ground k ≤ first_in ground (suc k))
    (reals : (b : ℕ) → Open ground way n b → Real (reach_of ground way b)) where
  abbrev reach : ℕ → Float
  reach a = reach_of ground way a

  -- those below contour k, and those of contour k below i
  abbrev So : ℕ → ℕ → ℕ → Type 0
  So k i b = Open ground way k b ⊎ ((first_in ground k ≤ b) × (b < i))

  one-offered : (k i : ℕ) → k < n → is_open ground way k ≡ true → InContour ground.first k i → (best : _)
      → let after = offer ground way k i best in Best reach (So k i) i best.distance best.found best.candidate
      → Best reach (So k (suc i)) (suc i) after.distance after.found after.candidate
  unfolding offer closer
  one-offered k i h o m best w = go (lt (reach i) best.distance) refl
    where
      real : Real (reach i)
      real = reals i (record { contour = k; below = h; is_open_lem = o; among = m })

      less : (b : ℕ) → So k (suc i) b → More reach (So k i) i best.distance best.found best.candidate w real b
      less b (inl z) = inl (inl z)
      less b (inr (l, g)) = split (same_or b i)
        where
          split : (b ≡ i) ⊎ (b ≡ i → ⊥)
              → More reach (So k i) i best.distance best.found best.candidate w real b
          split (inl e) = inr e
          split (inr d) = inl (inr (l, omega arith))

      go : (c : Bool) → lt (reach i) best.distance ≡ c
          → Best reach (So k (suc i)) (suc i) (cond c
          (record { distance = reach i; contour = k; candidate = i; found = true }) best).distance
          (cond c (record { distance = reach i; contour = k; candidate = i; found = true }) best).found
          (cond c (record { distance = reach i; contour = k; candidate = i; found = true }) best).candidate
      go true e =
          fewer reach _ (So k (suc i)) (suc i) (suc i) _ _ _ less (omega arith) (taken reach (So k i) i _ _ _ w real e)
      go false e =
          fewer reach _ (So k (suc i)) (suc i) (suc i) _ _ _ less (omega arith) (passed reach (So k i) i _ _ _ w real e)

  contour_offered : (k : ℕ) → k < n → (best : _)
      → let after = considered ground way k best in Best reach (Open ground way k) (first_in ground k) best.distance
      best.found best.candidate
      → Best reach (Open ground way (suc k)) (first_in ground (suc k)) after.distance after.found
      after.candidate
  unfolding considered offered
  contour_offered k h best w = go (is_open ground way k) refl
    where
      none : (b : ℕ) → So k (first_in ground k) b → Open ground way k b
      none b (inl z) = z
      none b (inr (l, g)) = absurd (omega arith)

      those : (b : ℕ) → Open ground way (suc k) b → So k (first_in ground (suc k)) b
      those b o = split (same_or o.contour k)
        where
          split : (o.contour ≡ k) ⊎ (o.contour ≡ k → ⊥) → So k (first_in ground (suc k)) b
          split (inl e) =
              inr (
                subst (λ (j : ℕ). first_in ground j ≤ b) e o.among.from,
                subst
                    (λ (j : ℕ). b < first_in ground (suc j)) e o.among.to,
              )
          split (inr d) =
              inl (record {
                contour = o.contour;
                below = (let l = o.below in omega arith);
                is_open_lem = o.is_open_lem;
                among = o.among;
              })

      shut : is_open ground way k ≡ false → (b : ℕ) → Open ground way (suc k) b → Open ground way k b
      shut e b o = split (same_or o.contour k)
        where
          split : (o.contour ≡ k) ⊎ (o.contour ≡ k → ⊥) → Open ground way k b
          split (inl q) = absurd (true≢false (sym o.is_open_lem ∙ ap (is_open ground way) q ∙ e))
          split (inr d) =
              record {
                contour = o.contour;
                below = (let l = o.below in omega arith);
                is_open_lem = o.is_open_lem;
                among = o.among;
              }

      go : (c : Bool) → is_open ground way k ≡ c
          → let after = cond c (each (offer ground way k) (first_in ground (suc k) - first_in ground k)
          (first_in ground k) best) best in
          Best reach (Open ground way (suc k)) (first_in ground (suc k)) after.distance after.found
          after.candidate
      go true o =
          let count = first_in ground (suc k) - first_in ground k in
          let after = each (offer ground way k) count (first_in ground k) best in
          let all = each_on (offer ground way k)
          (λ i b. Best reach (So k i) i b.distance b.found b.candidate) count (first_in ground k)
          (λ i l g b. one-offered k i h o (record { from = l; to = omega (arith, rises k h) }) b) best
          (fewer reach _ (So k (first_in ground k)) (first_in ground k) (first_in ground k) _ _ _ none (omega arith) w) in
          let e : first_in ground k + count ≡ first_in ground (suc k) = omega (arith, rises k h) in
          fewer reach (So k (first_in ground (suc k))) _ (first_in ground (suc k)) (first_in ground (suc k)) _ _ _ those
          (omega arith)
          (subst (λ (i : ℕ). Best reach (So k i) i after.distance after.found after.candidate) e all)
      go false e = fewer reach _ _ (first_in ground k) (first_in ground (suc k)) _ _ _ (shut e) (rises k h) w

  all_offered : let best = chosen ground way n in Best reach (Open ground way n) (first_in ground n) best.distance
      best.found best.candidate
  unfolding chosen of_bits of_fields odd
  all_offered =
      let all = each_on (considered ground way)
      (λ k b. Best reach (Open ground way k) (first_in ground k) b.distance b.found b.candidate) n 0
      (λ k l g b. contour_offered k (omega arith) b) nothing_yet
      (record {
        real = refl;
        reals = λ b o. absurd (let l = o.below in omega arith);
        least = λ b o. absurd (let l = o.below in omega arith);
        own = λ e. absurd (true≢false (sym e));
        before = λ e. absurd (true≢false (sym e));
        first = λ e. absurd (true≢false (sym e));
      }) in
      let best = each (considered ground way) n 0 nothing_yet in
      subst (λ (k : ℕ). Best reach (Open ground way k) (first_in ground k) best.distance best.found
      best.candidate) (zero-add n) all

  -- nothing that is offered is nearer than the choice, and nothing offered before it is as near
  pub chosen_least : let best = chosen ground way n in best.found ≡ true → (b : ℕ) → Open ground way n b
      → T (le (reach best.candidate) (reach b))
  chosen_least e b o = subst (λ (x : Float). T (le x (reach b))) (all_offered.own e) (all_offered.least b o)

  pub chosen-first : let best = chosen ground way n in best.found ≡ true → (b : ℕ) → Open ground way n b
      → b < best.candidate → lt (reach best.candidate) (reach b) ≡ true
  chosen-first e b o l = subst (λ (x : Float). lt x (reach b) ≡ true) (all_offered.own e) (all_offered.first e b o l)
