-- What the tests on a block say in words: its start byte by byte, a run of zeros at each place; and fields read at a
-- place that was cut off at the end of the bytes. Assumes nothing.
use mathlib.Mathlib.Data.Bool.Basic.{and_elim_left, and_elim_right, and_intro}
use mathlib.Core.Path.{◌≡◌, refl, sym, ap, ◌∙◌}
use mathlib.Core.Bool.{Bool, true, false, ◌&&◌}
use mathlib.Core.List.{List, [], ◌∷◌}
use Prim.Native.Nat.{ℕ, zero, suc, ◌+◌, ◌≤◌, ◌<◌, min, suc-le-suc}
use native.Mathlib.Nat.{add-zero, add_assoc, zero-lt-suc}
use native.Mathlib.Omega.{arith}
use lib.Dec.{eqb, ltb}
use lib.Ieee.{Float}
use lib.ListN.{length, take, drop, get_or, length-take}
use lib.Seq.{get_or-take, get_or-drop}
use borrow.Author.Tests.{eqb-true, eq-eqb, ltb-true, ltb-false}
use Rattle.block.specs.Field.{byte_at, u16_at, u32_at, u64_at, f64_at}
use Rattle.block.specs.Block.{starts, Due, all_zero, zeros_at}
use Rattle.block.proofs.FieldLaws.{past_byte}

-- ---- the start of a block

module _ (s : List ℕ) (at kind version number : ℕ) where
  pub due_is : starts s at kind version number ≡ true → Due s at kind version number
  unfolding starts
  due_is e =
      let a = eqb (byte_at s at) kind in
      let b = eqb (byte_at s (at + 1)) version in
      let c = eqb (u16_at s (at + 2)) number in
      let d = eqb (u32_at s (at + 4)) 0 in
      record {
        kind_is = eqb-true _ _ (and_elim_left a (b && (c && d)) e);
        version_is = eqb-true _ _ (and_elim_left b (c && d) (and_elim_right a (b && (c && d)) e));
        number_is = eqb-true _ _ (and_elim_left c d (and_elim_right b (c && d) (and_elim_right a (b && (c && d)) e)));
        zeros_are = eqb-true _ _ (and_elim_right c d (and_elim_right b (c && d) (and_elim_right a (b && (c && d)) e)));
      }

  pub is_due : Due s at kind version number → starts s at kind version number ≡ true
  unfolding starts
  is_due h =
      and_intro (eq-eqb _ _ h.kind_is) (and_intro (eq-eqb _ _ h.version_is)
      (and_intro (eq-eqb _ _ h.number_is) (eq-eqb _ _ h.zeros_are)))

-- ---- a run of zeros

zero-each : (t : List ℕ) → all_zero t ≡ true → (i : ℕ) → get_or t i 0 ≡ 0
unfolding all_zero
zero-each [] e i = refl
zero-each (x ∷ t) e zero = eqb-true x 0 (and_elim_left (eqb x 0) (all_zero t) e)
zero-each (x ∷ t) e (suc i) = zero-each t (and_elim_right (eqb x 0) (all_zero t) e) i

each-zero : (t : List ℕ) → ((i : ℕ) → i < length t → get_or t i 0 ≡ 0) → all_zero t ≡ true
unfolding all_zero
each-zero [] h = refl
each-zero (x ∷ t) h =
    and_intro {a = eqb x 0} {b = all_zero t} (eq-eqb x 0 (h 0 (zero-lt-suc (length t))))
    (each-zero t (λ i g. h (suc i) (suc-le-suc g)))

pub zeros_each : (s : List ℕ) (at count : ℕ) → zeros_at s at count ≡ true → (i : ℕ) → i < count → byte_at s (at + i) ≡ 0
unfolding zeros_at
zeros_each s at count e i h =
    sym (get_or-drop at s i 0) ∙ sym (get_or-take count (drop at s) i 0 h) ∙ zero-each (take count (drop at s)) e i

pub each_zeros : (s : List ℕ) (at count : ℕ) → ((i : ℕ) → i < count → byte_at s (at + i) ≡ 0) → zeros_at s at count ≡ true
unfolding zeros_at
each_zeros s at count h =
    each-zero (take count (drop at s)) (λ i g.
    let k : i < count = omega (arith, length-take count (drop at s)) in
    get_or-take count (drop at s) i 0 k ∙ get_or-drop at s i 0 ∙ h i k)

-- a zero before the run changes nothing
pub zero-before : (s : List ℕ) (at count : ℕ) → byte_at s at ≡ 0 → zeros_at s (suc at) count ≡ zeros_at s at (suc count)
unfolding zeros_at all_zero
zero-before [] zero zero e = refl
zero-before [] zero (suc count) e = refl
zero-before [] (suc at) zero e = refl
zero-before [] (suc at) (suc count) e = refl
zero-before (x ∷ s) zero count e = rw e
zero-before (x ∷ s) (suc at) count e = zero-before s at count e

-- ---- a place that was cut off at the end reads what the place itself reads

module _ (s : List ℕ) (a : ℕ) where
  pub cut_byte : (i : ℕ) → byte_at s (min a (length s) + i) ≡ byte_at s (a + i)
  cut_byte i = go (ltb a (length s)) refl
    where
      go : (b : Bool) → ltb a (length s) ≡ b → byte_at s (min a (length s) + i) ≡ byte_at s (a + i)
      go true t =
          let h : a < length s = ltb-true _ _ t in
          let e : min a (length s) ≡ a = omega arith in
          rw e
      go false t =
          let h : length s ≤ a = ltb-false _ _ t in
          past_byte s (min a (length s) + i) (omega arith) ∙ sym (past_byte s (a + i) (omega arith))

  -- the same one field further on
  further : (f : ℕ → ℕ) → ((i : ℕ) → f (min a (length s) + i) ≡ f (a + i)) → (i j : ℕ)
      → f (min a (length s) + i + j) ≡ f (a + i + j)
  further f h i j = rw (add_assoc (min a (length s)) i j, add_assoc a i j) (h (i + j))

  pub cut_u16 : (i : ℕ) → u16_at s (min a (length s) + i) ≡ u16_at s (a + i)
  unfolding u16_at
  cut_u16 i = rw (cut_byte i, further (byte_at s) cut_byte i 1)

  pub cut_u32 : (i : ℕ) → u32_at s (min a (length s) + i) ≡ u32_at s (a + i)
  unfolding u32_at
  cut_u32 i = rw (cut_u16 i, further (u16_at s) cut_u16 i 2)

  pub cut_u64 : (i : ℕ) → u64_at s (min a (length s) + i) ≡ u64_at s (a + i)
  unfolding u64_at
  cut_u64 i = rw (cut_u32 i, further (u32_at s) cut_u32 i 4)

  pub cut_f64 : (i : ℕ) → f64_at s (min a (length s) + i) ≡ f64_at s (a + i)
  unfolding f64_at
  cut_f64 i = rw (cut_u64 i)

-- ---- a field that was read at such a place

module _ (s : List ℕ) (a at : ℕ) (cut : at ≡ min a (length s)) where
  pub byte_of : (r : ℕ) → r ≡ byte_at s at → r ≡ byte_at s a
  byte_of r e =
      e ∙ ap (byte_at s) (cut ∙ sym (add-zero (min a (length s)))) ∙ cut_byte s a 0 ∙ ap (byte_at s) (add-zero a)

  pub u16_of : (r : ℕ) → r ≡ u16_at s at → r ≡ u16_at s a
  u16_of r e = e ∙ ap (u16_at s) (cut ∙ sym (add-zero (min a (length s)))) ∙ cut_u16 s a 0 ∙ ap (u16_at s) (add-zero a)

  pub u32_of : (r : ℕ) → r ≡ u32_at s at → r ≡ u32_at s a
  u32_of r e = e ∙ ap (u32_at s) (cut ∙ sym (add-zero (min a (length s)))) ∙ cut_u32 s a 0 ∙ ap (u32_at s) (add-zero a)

  pub u32_on : (i r : ℕ) → r ≡ u32_at s (at + i) → r ≡ u32_at s (a + i)
  u32_on i r e = e ∙ ap (λ (x : ℕ). u32_at s (x + i)) cut ∙ cut_u32 s a i

  pub f64_of : (r : Float) → r ≡ f64_at s at → r ≡ f64_at s a
  f64_of r e = e ∙ ap (f64_at s) (cut ∙ sym (add-zero (min a (length s)))) ∙ cut_f64 s a 0 ∙ ap (f64_at s) (add-zero a)

  pub f64_on : (i : ℕ) (r : Float) → r ≡ f64_at s (at + i) → r ≡ f64_at s (a + i)
  f64_on i r e = e ∙ ap (λ (x : ℕ). f64_at s (x + i)) cut ∙ cut_f64 s a i
