-- When and what `first_refusal` tells: the refusal of the first stage that refuses, exactly. Assumes nothing.
use Rattle.std.specs.Prelude.{Err, Ok}
use mathlib.Core.Path.{◌≡◌, refl}
use mathlib.Core.Bool.{Bool, true, false}
use mathlib.Core.List.{List, [], ◌∷◌}
use Prim.Native.Nat.{ℕ, zero, suc, ◌<◌}
use native.Mathlib.Nat.{zero-lt-suc, not-suc-le-zero, le_of_suc-le-suc}
use Prim.Native.Nat.{suc-le-suc}
use native.Mathlib.Omega.{arith}
use lib.ListN.{length, get_or}
use Rattle.answer.specs.declared.Refusal.{Refusal}
use Rattle.answer.specs.Answer.{Check}
use Rattle.answer.specs.Stage.{first_refusal}
use Rattle.answer.specs.Lowest.{refuse_if}

-- stage k refuses with r, and no earlier stage refuses
pub record FirstAt (stages : List Check) (k : ℕ) (r : Refusal) : Type 0 where
  pub within : k < length stages
  pub refuses : get_or stages k (Ok tt) ≡ Err r
  pub before : (j : ℕ) → j < k → get_or stages j (Ok tt) ≡ Ok tt

-- no stage refuses
abbrev pub AllFine : List Check → Type 0
AllFine stages = (j : ℕ) → j < length stages → get_or stages j (Ok tt) ≡ Ok tt

pub refused_is : (stages : List Check) (k : ℕ) (r : Refusal) → FirstAt stages k r → first_refusal stages ≡ Err r
unfolding first_refusal
refused_is [] k r h = absurd (not-suc-le-zero h.within)
refused_is (a ∷ more) zero r h = rw h.refuses
refused_is (a ∷ more) (suc k) r h =
    let e : a ≡ Ok tt = h.before 0 (zero-lt-suc k) in
    rw e (refused_is more k r (record {
      within = le_of_suc-le-suc h.within;
      refuses = h.refuses;
      before = λ j g. h.before (suc j) (suc-le-suc g);
    }))

pub fine_is : (stages : List Check) → AllFine stages → first_refusal stages ≡ Ok tt
unfolding first_refusal
fine_is [] h = refl
fine_is (a ∷ more) h =
    let e : a ≡ Ok tt = h 0 (zero-lt-suc (length more)) in
    rw e (fine_is more (λ j g. h (suc j) (suc-le-suc g)))

pub is_refused : (stages : List Check) (r : Refusal) → first_refusal stages ≡ Err r → (k : ℕ) × FirstAt stages k r
unfolding first_refusal
is_refused [] r e = let z : ◌≡◌ {A = ℕ} 0 1 = cc in absurd (omega arith)
is_refused (Err q ∷ more) r e =
    (0, record { within = zero-lt-suc (length more); refuses = e; before = λ j g. absurd (not-suc-le-zero g) })
is_refused (Ok _ ∷ more) r e = go (is_refused more r e)
  where
    go : (k : ℕ) × FirstAt more k r → (k : ℕ) × FirstAt (Ok tt ∷ more) k r
    go (k, h) = (suc k, record { within = suc-le-suc h.within; refuses = h.refuses; before = earlier })
      where
        earlier : (j : ℕ) → j < suc k → get_or (Ok tt ∷ more) j (Ok tt) ≡ Ok tt
        earlier zero g = refl
        earlier (suc j) g = h.before j (le_of_suc-le-suc g)

pub is_fine : (stages : List Check) → first_refusal stages ≡ Ok tt → AllFine stages
unfolding first_refusal
is_fine [] e j h = absurd (not-suc-le-zero h)
is_fine (Err q ∷ more) e j h = let z : ◌≡◌ {A = ℕ} 0 1 = cc in absurd (omega arith)
is_fine (Ok _ ∷ more) e zero h = refl
is_fine (Ok _ ∷ more) e (suc j) h = is_fine more e j (le_of_suc-le-suc h)

-- ---- a stage as code takes it, with t for the definition's test b: it answers r there, or goes on

module _ (number place : ℕ) {t b : Bool} (is : t ≡ b) (more : List Check) where
  pub told_here : {r : Check} → t ≡ true → r ≡ Err (record { number = number; place = place })
      → r ≡ first_refusal (refuse_if b number place ∷ more)
  unfolding first_refusal
  told_here e f = rw (← is, e) f

  pub told_later : {r : Check} → t ≡ false → r ≡ first_refusal more → r ≡ first_refusal (refuse_if b number place ∷ more)
  unfolding first_refusal
  told_later e f = rw (← is, e) f

pub none_told : (Ok tt) ≡ first_refusal []
unfolding first_refusal
none_told = refl
