-- The twins that there are, computed: one test over all places of the file, and one over blocks or contours for each
-- other premise. Assumes nothing.
use Rattle.std.specs.Prelude.{None, Ok}
use mathlib.Mathlib.Data.Bool.Basic.{eq-false_of_not-eq-true, and_elim_left, and_elim_right}
use mathlib.Core.Path.{◌≡◌, refl, sym, ap, ◌∙◌}
use mathlib.Core.Logic.{◌⊎◌, inl, inr, ⊎_elim}
use mathlib.Core.Bool.{Bool, true, false, not, ◌||◌, ◌&&◌, true≢false}
use mathlib.Core.List.{List, [], ◌∷◌}
use Prim.Native.Nat.{ℕ, zero, suc, ◌+◌, ◌*◌, ◌-◌, ◌/◌, ◌%◌, ◌<◌}
use native.Mathlib.Nat.{add-zero, zero-add, add-suc, suc-add}
use native.Mathlib.Omega.{arith}
use lib.Dec.{eqb, leb, ltb}
use lib.ListN.{length}
use borrow.Author.Tests.{eqb-true, leb-true, ltb-true, not-false}
use Rattle.answer.specs.Lowest.{lowest}
use Rattle.answer.proofs.LowestLaws.{is_absent}
use Rattle.answer.proofs.Truth.{or_cases}
use Rattle.block.specs.Field.{byte_at}
use Rattle.block.specs.Block.{block_bytes, check_offset, checked, zeros_at}
use Rattle.block.proofs.Readings.{zeros_each}
use Rattle.fields.specs.Layout.{blocks_of, payload, contours_of, grid_of, part_of, part_offset}
use Rattle.card.specs.Stages.{check_fault}
use Rattle.card.specs.Verdict.{check_of}
use Rattle.card_laws.proofs.Starred.{verdict_computes}
use Rattle.parts.specs.Twins.{Own, of_version, of_check, of_part, ChecksDue, Twins}
use Rattle.parts.specs.Witness.{second, first, Witness}

-- place a of a card of n contours is one of those that twins need not share
abbrev own_at : ℕ → ℕ → Bool
own_at n a =
    let p = a % block_bytes in
    let b = a / block_bytes in
    eqb p 1 || (leb check_offset p || (ltb 0 b && (leb b n && leb (8 + part_offset) p)))

-- from place a on, two files are as long and differ at such places only
unfoldable like_from : ℕ → ℕ → List ℕ → List ℕ → Bool
like_from n a [] [] = true
like_from n a [] (y ∷ t) = false
like_from n a (x ∷ s) [] = false
like_from n a (x ∷ s) (y ∷ t) = (own_at n a || eqb y x) && like_from n (suc a) s t

like_at : (n a : ℕ) (s t : List ℕ) → like_from n a s t ≡ true → (i : ℕ) → own_at n (a + i) ≡ false
    → byte_at t i ≡ byte_at s i
unfolding like_from
like_at n a [] [] e i o = refl
like_at n a [] (y ∷ t) e i o = absurd (true≢false (sym e))
like_at n a (x ∷ s) [] e i o = absurd (true≢false (sym e))
like_at n a (x ∷ s) (y ∷ t) e zero o =
    let own : own_at n a ≡ false = ap (own_at n) (sym (add-zero a)) ∙ o in
    let like : (own_at n a || eqb y x) ≡ true = and_elim_left (own_at n a || eqb y x) (like_from n (suc a) s t) e in
    eqb-true y x (rw own at like)
like_at n a (x ∷ s) (y ∷ t) e (suc i) o =
    like_at n (suc a) s t (and_elim_right (own_at n a || eqb y x) (like_from n (suc a) s t) e) i
    (ap (own_at n) (suc-add a i ∙ sym (add-suc a i)) ∙ o)

-- a test that fails nowhere below n
everywhere : (f : ℕ → Bool) (n : ℕ) → lowest (λ k. not (f k)) n ≡ None → (k : ℕ) → k < n → f k ≡ true
everywhere f n e k h = not-false (f k) (is_absent (λ k. not (f k)) n e k h)

-- what is computed of two files
record Computed (s t : List ℕ) : Type 0 where
  some_block : ltb 0 (blocks_of s) ≡ true
  as_long : length t ≡ length s
  like : like_from (contours_of s) 0 s t ≡ true
  two : lowest (λ b. not (eqb (byte_at s (block_bytes * b + 1)) 2)) (blocks_of s) ≡ None
  one : lowest (λ b. not (eqb (byte_at t (block_bytes * b + 1)) 1)) (blocks_of t) ≡ None
  checks : (check_fault s ≡ None) × (check_fault t ≡ None)
  no_grid : grid_of s ≡ 0
  no_part : lowest (λ k. not (eqb (part_of s k) 0)) (contours_of s) ≡ None
  zeros : lowest (λ k. not (zeros_at t (payload (k + 1) + part_offset) 8)) (contours_of s) ≡ None

module _ (s t : List ℕ) (c : Computed s t) where
  checked_all : (u : List ℕ) → check_fault u ≡ None → ChecksDue u
  unfolding check_fault checked
  checked_all u e b h = eqb-true _ _ (everywhere (λ b. checked u (block_bytes * b)) (blocks_of u) e b h)

  own_at_lem : (b p : ℕ) → p < block_bytes → own_at (contours_of s) (block_bytes * b + p) ≡ true → Own s b p
  own_at_lem b p h e =
      let ep : (block_bytes * b + p) % block_bytes ≡ p = omega arith in
      let eb : (block_bytes * b + p) / block_bytes ≡ b = omega arith in
      go (or_cases _ _ (rw (ep, eb) at e))
    where
      in_part_lem : (ltb 0 b && (leb b (contours_of s) && leb (8 + part_offset) p)) ≡ true → Own s b p
      in_part_lem f =
          let g = and_elim_right (ltb 0 b) (leb b (contours_of s) && leb (8 + part_offset) p) f in
          of_part (ltb-true _ _ (and_elim_left (ltb 0 b) (leb b (contours_of s) && leb (8 + part_offset) p) f))
          (leb-true _ _ (and_elim_left (leb b (contours_of s)) (leb (8 + part_offset) p) g))
          (leb-true _ _ (and_elim_right (leb b (contours_of s)) (leb (8 + part_offset) p) g))

      go : (eqb p 1 ≡ true)
          ⊎ ((leb check_offset p || (ltb 0 b && (leb b (contours_of s) && leb (8 + part_offset) p))) ≡ true) → Own s b p
      go (inl v) = of_version (eqb-true _ _ v)
      go (inr f) = ⊎_elim (λ (k : leb check_offset p ≡ true). of_check (leb-true _ _ k)) in_part_lem (or_cases _ _ f)

  twins : Twins s t
  twins = record {
    some_block = ltb-true _ _ c.some_block;
    as_long = c.as_long;
    shared = λ b p h free.
        like_at (contours_of s) 0 s t c.like (block_bytes * b + p)
        (ap (own_at (contours_of s)) (zero-add (block_bytes * b + p))
        ∙ eq-false_of_not-eq-true {b = own_at (contours_of s) (block_bytes * b + p)} (λ e. free (own_at_lem b p h e)));
    two = λ b h. eqb-true _ _ (everywhere (λ b. eqb (byte_at s (block_bytes * b + 1)) 2) (blocks_of s) c.two b h);
    one = λ b h. eqb-true _ _ (everywhere (λ b. eqb (byte_at t (block_bytes * b + 1)) 1) (blocks_of t) c.one b h);
    checks = (checked_all s c.checks.0, checked_all t c.checks.1);
    no_grid = c.no_grid;
    no_part = λ k h. eqb-true _ _ (everywhere (λ k. eqb (part_of s k) 0) (contours_of s) c.no_part k h);
    zeros = λ k p h l g.
        let place : payload (k + 1) + part_offset + (p - part_offset) ≡ payload (k + 1) + p = omega arith in
        ap (byte_at t) (sym place) ∙ zeros_each t (payload (k + 1) + part_offset) 8
        (everywhere (λ k. zeros_at t (payload (k + 1) + part_offset) 8) (contours_of s) c.zeros k h)
        (p - part_offset) (omega arith);
  }

computed : Computed second first
unfolding verdict_computes like_from
computed = record {
  some_block = refl;
  as_long = refl;
  like = refl;
  two = refl;
  one = refl;
  checks = (refl, refl);
  no_grid = refl;
  no_part = refl;
  zeros = refl;
}

fine : check_of second ≡ Ok tt
unfolding verdict_computes
fine = refl

pub claim : Witness
unfolding verdict_computes
claim = record { are_twins = twins second first computed; is_fine = fine; has_copy = refl }
