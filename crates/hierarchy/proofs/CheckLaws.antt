-- Which refusal the first of the checks on a list of pairs gives. Assumes nothing.
use Rattle.std.specs.Prelude.{Err, Ok}
use mathlib.Core.Bool.{true}
use mathlib.Core.Path.{◌≡◌, sym, ap, ◌∙◌}
use mathlib.Core.Logic.{⊎_elim, ◌↔◌}
use mathlib.Core.List.{List}
use Prim.Native.Nat.{ℕ, ◌+◌, ◌*◌, ◌/◌, ◌%◌, ◌≤◌, ◌<◌}
use native.Mathlib.Omega.{arith}
use borrow.Author.Tests.{lt-ltb, le-ltb, eq-eqb, ne_eqb}
use lib.ListN.{length}
use Rattle.answer.specs.declared.Refusal.{Refusal}
use Rattle.answer.specs.Stage.{first_refusal}
use Rattle.closure.specs.Limits.{contour_limit, pair_limit}
use Rattle.closure.proofs.PairLaws.{same_or, lt-or}
use Rattle.keep.specs.Keep.{keeps_pairs}
use Rattle.keep.specs.Legal.{EachOnce, Legal}
use Rattle.keep.proofs.OrderLaws.{keeps_legal, legal_keeps}
use Rattle.hierarchy.specs.Questions.{pairs_check, valid_sequence}

module _ (contours : ℕ) (pairs : List ℕ) where
  pub check-contours : contour_limit < contours
      → Err (record { number = 4; place = 1 }) ≡ pairs_check contours pairs
  unfolding pairs_check first_refusal
  check-contours h = rw (lt-ltb contour_limit contours h)

  pub check-pairs : contours ≤ contour_limit → pair_limit < length pairs / 2 + length pairs % 2
      → Err (record { number = 4; place = 2 }) ≡ pairs_check contours pairs
  unfolding pairs_check first_refusal
  check-pairs h l = rw (le-ltb contour_limit contours h, lt-ltb pair_limit (length pairs / 2 + length pairs % 2) l)

  pub check_half : contours ≤ contour_limit → length pairs / 2 + length pairs % 2 ≤ pair_limit → length pairs % 2 ≡ 1 →
      Err (record { number = 10; place = length pairs / 2 }) ≡ pairs_check contours pairs
  unfolding pairs_check first_refusal
  check_half h l o =
      rw (
        le-ltb contour_limit contours h,
        le-ltb pair_limit (length pairs / 2 + length pairs % 2) l,
        eq-eqb (length pairs % 2)
            1 o,
      )

  pub check_fine : contours ≤ contour_limit → length pairs / 2 + length pairs % 2 ≤ pair_limit
      → (length pairs % 2 ≡ 1 → ⊥)
      → Ok tt ≡ pairs_check contours pairs
  unfolding pairs_check first_refusal
  check_fine h l e =
      rw (
        le-ltb contour_limit contours h,
        le-ltb pair_limit (length pairs / 2 + length pairs % 2) l,
        ne_eqb (length pairs % 2)
            1 e,
      )

-- what passes is within the limits
pub record Small (contours : ℕ) (pairs : List ℕ) : Type 0 where
  pub few : contours ≤ contour_limit
  pub short : length pairs ≤ 2 * pair_limit

pub fine_small : (contours : ℕ) (pairs : List ℕ) → Ok tt ≡ pairs_check contours pairs → Small contours pairs
fine_small contours pairs e = ⊎_elim
    (λ (h : contour_limit < contours). absurd (never (e ∙ sym (check-contours contours pairs h))))
    (λ (h : contours ≤ contour_limit). ⊎_elim
    (λ (l : pair_limit < length pairs / 2 + length pairs % 2). absurd (never (e ∙ sym (check-pairs contours pairs h l))))
    (λ (l : length pairs / 2 + length pairs % 2 ≤ pair_limit). ⊎_elim
    (λ (o : length pairs % 2 ≡ 1). absurd (never (e ∙ sym (check_half contours pairs h l o))))
    (λ (o : length pairs % 2 ≡ 1 → ⊥). record { few = h; short = omega arith }) (same_or (length pairs % 2) 1))
    (lt-or pair_limit (length pairs / 2 + length pairs % 2)))
    (lt-or contour_limit contours)
  where
    never : {r : Refusal} → Ok (tt {0}) ≡ Err r → ⊥
    never p = let z : ◌≡◌ {A = ℕ} 0 1 = cc in omega arith

-- a sequence of each position once is valid exactly where it is a legal order
pub valid_exactly : (contours : ℕ) (pairs order : List ℕ) → Ok tt ≡ pairs_check contours pairs
    → EachOnce contours order →
    (valid_sequence contours pairs order ≡ Ok true) ↔ Legal contours pairs order
valid_exactly contours pairs order fine each = (
  (λ e. keeps_legal contours order each pairs (let s : Ok (keeps_pairs order pairs) ≡ Ok true =
      told ∙ e in cc)),
  (λ legal. sym told ∙ ap Ok (legal_keeps contours order each pairs legal)),
)
  where
    told : Ok (keeps_pairs order pairs) ≡ valid_sequence contours pairs order
    told = rw (
      ← fine,
      le-ltb contour_limit (length order) (omega (arith, each.size, (fine_small contours pairs fine).few)),
    )
