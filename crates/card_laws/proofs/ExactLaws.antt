-- A search tells exactly what a row says: it finds a place exactly where the row holds. And rows in turn: what the
-- first refusal tells of each. Assumes nothing.
use Rattle.std.specs.Prelude.{Err, None, Ok, Some}
use mathlib.Mathlib.Data.Bool.Basic.{eq-false_of_not-eq-true}
use mathlib.Core.Path.{◌≡◌, refl, sym, ap, ◌∙◌, subst}
use mathlib.Core.Bool.{Bool, true, false}
use mathlib.Core.List.{List, ◌∷◌}
use Prim.Native.Nat.{ℕ, ◌<◌}
use native.Mathlib.Omega.{arith}
use Rattle.answer.specs.declared.Refusal.{Refusal}
use Rattle.answer.specs.Answer.{Check, Found}
use Rattle.answer.specs.Lowest.{lowest, refuse_at}
use Rattle.answer.specs.Stage.{or_else, first_refusal}
use Rattle.answer.proofs.LowestLaws.{LowestAt, at_is, is_at_lem, is_absent}
use Rattle.card.specs.Stages.{found_if}
use Rattle.card_laws.specs.Table.{Lowest, No}
use Rattle.answer.proofs.Truth.{true_false}

pub record Exact (f : Found) (Row : ℕ → Type 0) : Type 0 where
  pub found : (p : ℕ) → f ≡ Some p → Row p
  pub here : (p : ℕ) → Row p → f ≡ Some p

-- ---- the lowest place, and a place under a test

pub lowest_exact : (test : ℕ → Bool) (n : ℕ) (Fault : ℕ → Type 0)
    → ((k : ℕ) → k < n → test k ≡ true → Fault k) → ((k : ℕ) → k < n → Fault k → test k ≡ true)
    → Exact (lowest test n) (Lowest n Fault)
lowest_exact test n Fault to from = record { found = found; here = here }
  where
    found : (p : ℕ) → lowest test n ≡ Some p → Lowest n Fault p
    found p e = go (is_at_lem test n p e)
      where
        go : LowestAt test n p → Lowest n Fault p
        go w =
            record {
              within = w.within;
              holds = to p w.within w.holds;
              before = λ j h b. true_false {b = test j} (from j (omega (arith, w.within)) b) (w.before j h);
            }

    here : (p : ℕ) → Lowest n Fault p → lowest test n ≡ Some p
    here p r =
        at_is test n p
        (record {
          within = r.within;
          holds = from p r.within r.holds;
          before = λ j h. eq-false_of_not-eq-true {b = test j} (λ t. r.before j h (to j (omega (arith, r.within)) t));
        })

pub if_exact : (b : Bool) (k : ℕ) (Row : ℕ → Type 0) → (b ≡ true → Row k) → ((p : ℕ) → Row p → (b ≡ true) × (p ≡ k))
    → Exact (found_if b k) Row
if_exact true k Row to from =
    record { found = λ p e. subst Row (let q : k ≡ p = cc in q) (to refl); here = λ p r. ap Some (sym (from p r).1) }
if_exact false k Row to from =
    record {
      found = λ p e. let z : ◌≡◌ {A = ℕ} 0 1 = cc in absurd (omega arith);
      here = λ p r. absurd (true_false {b = false} (from p r).0 refl);
    }

-- ---- rows in turn

module _ (number : ℕ) (f : Found) (Row : ℕ → Type 0) (exact : Exact f Row) (more : List Check) where
  pub stop : (p : ℕ) → Row p → first_refusal (refuse_at number f ∷ more) ≡ Err (record { number = number; place = p })
  unfolding first_refusal
  stop p r = rw (exact.here p r)

  pub on : No Row → first_refusal (refuse_at number f ∷ more) ≡ first_refusal more
  unfolding first_refusal
  on no_row = go f refl
    where
      go : (g : Found) → f ≡ g → or_else (refuse_at number f) (first_refusal more) ≡ first_refusal more
      go (Some p) e = absurd (no_row p (exact.found p e))
      go None e = rw e

  pub in_turn : (G : ℕ → ℕ → Type 0) → ((p : ℕ) → Row p → G number p)
      → (No Row → (r : Refusal) → first_refusal more ≡ Err r → G r.number r.place)
      → (r : Refusal) → first_refusal (refuse_at number f ∷ more) ≡ Err r → G r.number r.place
  unfolding first_refusal
  in_turn G this later r e = go f refl
    where
      go : (g : Found) → f ≡ g → G r.number r.place
      go (Some p) h =
          let q : ◌≡◌ {A = Refusal} (record { number = number; place = p }) r =
          cc (ap (λ (z : Found). or_else (refuse_at number z) (first_refusal more)) h) in
          subst (λ (z : Refusal). G z.number z.place) q (this p (exact.found p h))
      go None h =
          later (λ p row. absurd_found p (sym h ∙ exact.here p row)) r
          (ap (λ (z : Found). or_else (refuse_at number z) (first_refusal more)) (sym h) ∙ e)
        where
          absurd_found : (p : ℕ) → None ≡ Some p → ⊥
          absurd_found p z = let y : ◌≡◌ {A = ℕ} 0 1 = cc in omega arith

  pub none_here : first_refusal (refuse_at number f ∷ more) ≡ Ok tt → No Row
  unfolding first_refusal
  none_here e p row = let z : ◌≡◌ {A = ℕ} 0 1 =
      cc (ap (λ (g : Found). or_else (refuse_at number g) (first_refusal more)) (exact.here p row)) in omega arith

-- ---- where no place is the lowest, there is none

pub nowhere : (test : ℕ → Bool) (n : ℕ) (Fault : ℕ → Type 0) → ((k : ℕ) → k < n → test k ≡ true → Fault k)
    → ((k : ℕ) → k < n → Fault k → test k ≡ true)
    → No (Lowest n Fault) → (k : ℕ) → k < n → Fault k → ⊥
nowhere test n Fault to from no_row k h b = go (lowest test n) refl
  where
    go : (f : Found) → lowest test n ≡ f → ⊥
    go (Some p) e = no_row p ((lowest_exact test n Fault to from).found p e)
    go None e = true_false {b = test k} (from k h b) (is_absent test n e k h)
