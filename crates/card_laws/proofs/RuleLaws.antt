-- What is found to enclose a contour is what the table's rule says. Assumes nothing.
use Rattle.std.specs.Prelude.{Some}
use mathlib.Mathlib.Data.Bool.Basic.{and_elim_left, and_elim_right, and_intro, not_iff_not, eq-false_of_not-eq-true}
use mathlib.Core.Path.{◌≡◌}
use mathlib.Core.Bool.{true, ◌&&◌}
use mathlib.Core.List.{List}
use Prim.Native.Nat.{ℕ, ◌<◌}
use lib.Dec.{eqb}
use borrow.Author.Tests.{eq-eqb, eqb-true}
use Rattle.answer.proofs.LowestLaws.{at_is}
use Rattle.answer.proofs.Truth.{true_false}
use Rattle.fields.specs.Layout.{contours_of, type_of, part_of, copy_of}
use Rattle.card.specs.Rules.{is_hole, encloses, enclosing_of}
use Rattle.card.proofs.RuleLaws.{found_enclosing}
use Rattle.card_laws.specs.Table.{Encloses, ByRule}

module _ (s : List ℕ) (i : ℕ) where
  encloses_is : (j : ℕ) → encloses s i j ≡ true → Encloses s i j
  encloses_is j e =
      let same : (eqb (part_of s j) (part_of s i) && eqb (copy_of s j) (copy_of s i)) ≡ true =
      and_elim_right (eqb (type_of s j) 0) _ e in
      record {
        exterior = eqb-true _ _ (and_elim_left (eqb (type_of s j) 0) _ e);
        same_part = eqb-true _ _ (and_elim_left (eqb (part_of s j) (part_of s i)) _ same);
        same_copy = eqb-true _ _ (and_elim_right (eqb (part_of s j) (part_of s i)) _ same);
      }

  is_enclosing : (j : ℕ) → Encloses s i j → encloses s i j ≡ true
  is_enclosing j o =
      and_intro (eq-eqb _ _ o.exterior) (and_intro (eq-eqb _ _ o.same_part) (eq-eqb _ _ o.same_copy))

  -- a contour that is found is the rule's
  pub enclosing_rule : (j : ℕ) → i < contours_of s → enclosing_of s i ≡ Some j → ByRule s i j
  enclosing_rule j h e =
      let found = found_enclosing s i j e in
      let w = found.1 in
      record {
        is_contour = h;
        interior = eqb-true _ _ (and_elim_left (eqb (type_of s i) 1) _ found.0);
        of_a_part = λ z. (not_iff_not {b = eqb (part_of s i) 0}).0 (and_elim_right (eqb (type_of s i) 1) _ found.0)
            (eq-eqb _ _ z);
        enclosed = record {
          within = w.within;
          holds = encloses_is j w.holds;
          before = λ k g o. true_false {b = encloses s i k} (is_enclosing k o) (w.before k g);
        };
      }

  -- and the rule's is found
  pub rule_enclosing : (j : ℕ) → ByRule s i j → enclosing_of s i ≡ Some j
  unfolding enclosing_of
  rule_enclosing j r =
      let hole : is_hole s i ≡ true =
      and_intro (eq-eqb _ _ r.interior) ((not_iff_not {b = eqb (part_of s i) 0}).1
      (λ t. r.of_a_part (eqb-true _ _ t))) in
      let o = r.enclosed in
      rw hole (at_is (encloses s i) (contours_of s) j
      (record {
        within = o.within;
        holds = is_enclosing j o.holds;
        before = λ k g. eq-false_of_not-eq-true {b = encloses s i k} (λ t. o.before k g (encloses_is k t));
      }))
