-- Every fine card has each fact that later parts stand on; and the record of a card's fields reads what the field
-- questions read. Assumes nothing.
use Rattle.std.specs.Prelude.{Ok}
use mathlib.Mathlib.Data.Bool.Basic.{eq-false_of_not-eq-true}
use mathlib.Core.Path.{◌≡◌, refl, sym, ap, ◌∙◌}
use mathlib.Core.Logic.{◌⊎◌, inl, inr}
use mathlib.Core.Bool.{Bool, true, false, cond}
use mathlib.Core.List.{List, [], ◌∷◌, ◌++◌}
use Prim.Native.Nat.{ℕ, zero, suc, ◌+◌, ◌*◌, ◌%◌, ◌≤◌, ◌<◌}
use native.Mathlib.Nat.{eq-or-lt_of_le, not-suc-le-zero, le_of_suc-le-suc}
use native.Mathlib.Omega.{arith}
use lib.Dec.{ltb, eqb, lit<}
use lib.ListN.{length, get_or, length-append, get_or-append}
use lib.Seq.{get_or_at}
use borrow.Author.Tests.{ltb-true, ltb-false, eqb-true, eqb-false}
use Rattle.answer.specs.declared.Point.{Point}
use Rattle.block.specs.Field.{byte_at}
use Rattle.block.specs.Block.{block_bytes}
use Rattle.points.specs.Bad.{bad_point}
use Rattle.closure.specs.Limits.{contour_limit, pair_limit}
use Rattle.fields.specs.Limits.{per_contour_limit, candidate_limit, pass_limit, vertex_limit}
use Rattle.fields.specs.Layout.{blocks_of, payload, is_two, contours_of, pairs_of, per_contour_of, passes_of, home_offset}
use Rattle.fields.specs.Layout.{exterior_of, interior_of, grid_offset, id_of, vertex_count_of, type_of, vertex_offset}
use Rattle.fields.specs.Layout.{before_id_of, before_tag_of, after_id_of, after_tag_of}
use Rattle.fields.specs.Values.{point_at}
use Rattle.card.specs.Stages.{blocks_due, before_of, after_of}
use Rattle.card.specs.Verdict.{check_of}
use Rattle.card_laws.specs.Table.{No, Row1, Row3, Row4, Row5, Row6, Row8, Row9, Row10, Row11, Row12, BadField}
use Rattle.card_laws.specs.Table.{contours, pairs, candidates, passes, exterior, interior, all_candidates, grid}
use Rattle.card_laws.specs.Table.{BadContour, few_vertices, many_vertices, no_type, FarCoordinate, at_home}
use Rattle.card_laws.specs.Table.{at-vertex, OtherTag, Sound}
use Rattle.card_laws.specs.Card.{Contour, Pair, tabulated, contour_of, pair_of, card_of, Names, Accepted}
use Rattle.card_laws.proofs.RowLaws.{version_due, due_blocks, no_bad_field, no_bad_contour}
use Rattle.card_laws.proofs.FarRow.{no_far}
use Rattle.card_laws.proofs.PairRows.{same_contour, before_has, after_has, no_other_tag}
use Rattle.card_laws.proofs.CycleRow.{no_cycle}
use Rattle.card_laws.proofs.Verdicts.{exactly}

-- ---- what was not refused

not_below : (a b : ℕ) → (a < b → ⊥) → b ≤ a
not_below a b h = ltb-false a b (eq-false_of_not-eq-true {b = ltb a b} (λ t. h (ltb-true a b t)))

must_be : (a b : ℕ) → ((a ≡ b → ⊥) → ⊥) → a ≡ b
must_be a b h = go (eqb a b) refl
  where
    go : (t : Bool) → eqb a b ≡ t → a ≡ b
    go true e = eqb-true a b e
    go false e = absurd (h (eqb-false a b e))

module _ (s : List ℕ) (sound : Sound s) where
  row1 : No (Row1 s)
  row1 = sound.0.0.0.0.0.0.0.0.0.0.0.0

  row3 : No (Row3 s 1)
  row3 = sound.0.0.0.0.0.0.0.0.0.0.1

  row4 : No (Row4 s)
  row4 = sound.0.0.0.0.0.0.0.0.0.1

  row5 : No (Row5 s)
  row5 = sound.0.0.0.0.0.0.0.0.1

  row6 : No (Row6 s)
  row6 = sound.0.0.0.0.0.0.1

  row8 : No (Row8 s)
  row8 = sound.0.0.0.0.1

  row9 : No (Row9 s)
  row9 = sound.0.0.0.1

  row10 : No (Row10 s)
  row10 = sound.0.0.1

  row11 : No (Row11 s)
  row11 = sound.0.1

  row12 : No (Row12 s)
  row12 = sound.1

  -- ---- the head

  fine_field : (f : ℕ) → f < 9 → BadField s f → ⊥
  fine_field = no_bad_field s row4

  fine_grid : (two : Bool) → is_two s ≡ two → cond two (byte_at s (payload 0 + grid_offset)) 0 ≤ 1
  fine_grid true e =
      not_below 1 (byte_at s (payload 0 + grid_offset)) (λ h. fine_field 8 (lit< tt) (grid (eqb-true _ _ e) h))
  fine_grid false e = omega arith

  whole_length : length s ≡ block_bytes * blocks_due s
  whole_length =
      let blocks : blocks_of s ≡ blocks_due s =
      must_be (blocks_of s) (blocks_due s) (λ d. row5 (blocks_of s)
      (record { differs = λ p w e. d (due_blocks s p w e); told = refl })) in
      let rest : length s % block_bytes ≡ 0 =
      must_be (length s % block_bytes) 0 (λ d. row1 _ (record { cause = inr (inl d); told = refl })) in
      rw (← blocks) (omega arith)

  -- ---- the contours

  fine_contour : (k : ℕ) → k < contours_of s → BadContour s k → ⊥
  fine_contour = no_bad_contour s row6

  fine_point : (p : ℕ) → p < contours_of s + 1 → FarCoordinate s p → ⊥
  fine_point = no_far s row8

  -- ---- the pairs

  before_names : (q : ℕ) → q < pairs_of s → Names s (before_id_of s q) (before_tag_of s q) (before_of s q)
  before_names q h =
      let has = before_has s row9 row10 q h in
      record {
        is_contour = has.is_contour;
        same_id = has.same;
        same_tag = must_be _ _ (λ d. no_other_tag s row9 row10 row11 q h (OtherTag.first (before_of s q) has d));
      }

  after_names : (q : ℕ) → q < pairs_of s → Names s (after_id_of s q) (after_tag_of s q) (after_of s q)
  after_names q h =
      let has = after_has s row9 row10 q h in
      record {
        is_contour = has.is_contour;
        same_id = has.same;
        same_tag = must_be _ _ (λ d. no_other_tag s row9 row10 row11 q h (OtherTag.second (after_of s q) has d));
      }

  facts : Accepted s
  facts =
      record {
        whole = whole_length;
        version_known = version_due s row3;
        few_contours = not_below contour_limit (contours_of s) (λ h. fine_field 1 (lit< tt) (contours h));
        few_pairs = not_below pair_limit (pairs_of s) (λ h. fine_field 2 (lit< tt) (pairs h));
        some_candidates = not_below (per_contour_of s) 1 (λ h. fine_field 3 (lit< tt) (candidates (inl h)));
        few_candidates = not_below per_contour_limit (per_contour_of s) (λ h. fine_field 3 (lit< tt) (candidates (inr h)));
        few_in_all =
            not_below candidate_limit (contours_of s * per_contour_of s) (λ h. fine_field 7 (lit< tt) (all_candidates h));
        few_passes = not_below pass_limit (passes_of s) (λ h. fine_field 4 (lit< tt) (passes h));
        exterior_known = not_below 2 (exterior_of s) (λ h. fine_field 5 (lit< tt) (exterior h));
        interior_known = not_below 2 (interior_of s) (λ h. fine_field 6 (lit< tt) (interior h));
        grid_known = fine_grid (is_two s) refl;
        some_vertices = λ k h. not_below (vertex_count_of s k) 1 (λ g. fine_contour k h (few_vertices g));
        few_vertices = λ k h. not_below vertex_limit (vertex_count_of s k) (λ g. fine_contour k h (many_vertices g));
        type_known = λ k h. not_below 1 (type_of s k) (λ g. fine_contour k h (no_type g));
        home_near = eq-false_of_not-eq-true {b = bad_point (point_at s home_offset)}
            (λ t. fine_point 0 (omega arith) (at_home t));
        vertex_near =
            λ k j h g. eq-false_of_not-eq-true {b = bad_point (point_at s (vertex_offset k j))}
            (λ t. fine_point (suc k) (omega arith) (at-vertex k j g t));
        ids_differ =
            λ j k hj hk e. same_contour s row9 (id_of s k) j k (record { is_contour = hj; same = e })
            (record { is_contour = hk; same = refl });
        before_named = before_names;
        after_named = after_names;
        acyclic = no_cycle s row9 row10 row12;
      }

pub accepted : (s : List ℕ) → check_of s ≡ Ok tt → Accepted s
accepted s e = facts s ((exactly s).fine_only e)

-- ---- the record of a card

pub length-tabulated : {A : Type 0} (f : ℕ → A) (n : ℕ) → length (tabulated f n) ≡ n
unfolding tabulated
length-tabulated f zero = refl
length-tabulated f (suc n) = omega (arith, length-append (tabulated f n) (f n ∷ []), length-tabulated f n)

pub at-tabulated : {A : Type 0} (f : ℕ → A) (n k : ℕ) (d : A) → k < n → get_or (tabulated f n) k d ≡ f k
unfolding tabulated
at-tabulated f zero k d h = absurd (not-suc-le-zero h)
at-tabulated f (suc n) k d h = go (eq-or-lt_of_le (le_of_suc-le-suc h)) (at-tabulated f n k d)
  where
    go : (k ≡ n) ⊎ (k < n) → (k < n → get_or (tabulated f n) k d ≡ f k) → get_or (tabulated f n ++ (f n ∷ [])) k d ≡ f k
    go (inl e) earlier = get_or_at (tabulated f n) (f n) [] d k (length-tabulated f n ∙ sym e) ∙ ap f (sym e)
    go (inr g) earlier =
        get_or-append (tabulated f n) (f n ∷ []) d k (omega (arith, length-tabulated f n)) ∙ earlier g

-- the record has as many contours, vertices and pairs as the counts say, and each is what the field questions read
pub contours_in_all : (s : List ℕ) → length (card_of s).contours ≡ contours_of s
contours_in_all s = length-tabulated (contour_of s) (contours_of s)

pub contour_at : (s : List ℕ) (k : ℕ) (d : Contour) → k < contours_of s → get_or (card_of s).contours k d ≡ contour_of s k
contour_at s k d h = at-tabulated (contour_of s) (contours_of s) k d h

pub vertices_in_all : (s : List ℕ) (k : ℕ) → length (contour_of s k).vertices ≡ vertex_count_of s k
vertices_in_all s k = length-tabulated (λ j. point_at s (vertex_offset k j)) (vertex_count_of s k)

pub vertex-at : (s : List ℕ) (k j : ℕ) (d : Point) → j < vertex_count_of s k
    → get_or (contour_of s k).vertices j d ≡ point_at s (vertex_offset k j)
vertex-at s k j d h = at-tabulated (λ j. point_at s (vertex_offset k j)) (vertex_count_of s k) j d h

pub pairs_in_all : (s : List ℕ) → length (card_of s).pairs ≡ pairs_of s
pairs_in_all s = length-tabulated (pair_of s) (pairs_of s)

pub pair_at_lem : (s : List ℕ) (q : ℕ) (d : Pair) → q < pairs_of s → get_or (card_of s).pairs q d ≡ pair_of s q
pair_at_lem s q d h = at-tabulated (pair_of s) (pairs_of s) q d h
