-- Row 8 of the table: the test on the bits is the rule on numbers. Assumes nothing.
use Rattle.std.specs.Prelude.{None, Some, is_some}
use mathlib.Core.Path.{◌≡◌, refl, sym, ap, ◌∙◌}
use mathlib.Core.Bool.{Bool, true, false}
use mathlib.Core.List.{List}
use Prim.Native.Nat.{ℕ, zero, suc, ◌+◌, ◌<◌}
use Rattle.answer.specs.Answer.{Found}
use Rattle.answer.specs.Lowest.{lowest}
use Rattle.answer.proofs.LowestLaws.{is_at_lem, is_absent}
use Rattle.block.specs.Field.{u64_at, f64_at}
use Rattle.points.specs.Bad.{bad_point}
use Rattle.fields.specs.Layout.{home_offset, contours_of, vertex_count_of, vertex_offset}
use Rattle.fields.specs.Values.{point_at}
use Rattle.card.specs.Stages.{far_point, far_vertex, far_place, far_fault}
use Rattle.card_laws.specs.Table.{FarCoordinate, at_home, at-vertex, Row8, No}
use Rattle.card_laws.proofs.ExactLaws.{Exact, lowest_exact, nowhere}
use Rattle.card_laws.proofs.FarNumber.{far_is}
use Rattle.answer.proofs.Truth.{true_false}

pub far_point_is : (s : List ℕ) (at : ℕ) → far_point s at ≡ bad_point (point_at s at)
unfolding bad_point point_at f64_at
far_point_is s at = rw (far_is (u64_at s at), far_is (u64_at s (at + 8)))

module _ (s : List ℕ) where
  far_coordinate : (p : ℕ) → far_place s p ≡ true → FarCoordinate s p
  unfolding far_vertex
  far_coordinate zero e = at_home (sym (far_point_is s home_offset) ∙ e)
  far_coordinate (suc k) e = go (lowest far (vertex_count_of s k)) refl
    where
      far : ℕ → Bool
      far = λ j. far_point s (vertex_offset k j)

      go : (f : Found) → lowest far (vertex_count_of s k) ≡ f → FarCoordinate s (suc k)
      go (Some j) h =
          let w = is_at_lem far (vertex_count_of s k) j h in
          at-vertex k j w.within (sym (far_point_is s (vertex_offset k j)) ∙ w.holds)
      go None h = absurd (true_false {b = false} (ap is_some (sym h) ∙ e) refl)

  coordinate_far : (p : ℕ) → FarCoordinate s p → far_place s p ≡ true
  unfolding far_vertex
  coordinate_far p (at_home e) = far_point_is s home_offset ∙ e
  coordinate_far p (at-vertex k j h e) = go (lowest far (vertex_count_of s k)) refl
    where
      far : ℕ → Bool
      far = λ i. far_point s (vertex_offset k i)

      go : (f : Found) → lowest far (vertex_count_of s k) ≡ f → is_some (lowest far (vertex_count_of s k)) ≡ true
      go (Some i) g = ap is_some g
      go None g =
          absurd (true_false {b = far j} (far_point_is s (vertex_offset k j) ∙ e)
          (is_absent far (vertex_count_of s k) g j h))

  pub exact8 : Exact (far_fault s) (Row8 s)
  unfolding far_fault
  exact8 = lowest_exact (far_place s) (contours_of s + 1) (FarCoordinate s) (λ p h. far_coordinate p)
      (λ p h. coordinate_far p)

  pub no_far : No (Row8 s) → (p : ℕ) → p < contours_of s + 1 → FarCoordinate s p → ⊥
  no_far = nowhere (far_place s) (contours_of s + 1) (FarCoordinate s) (λ p h. far_coordinate p) (λ p h. coordinate_far p)
