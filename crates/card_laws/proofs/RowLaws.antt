-- Each stage's search tells exactly what its row of the table says. Assumes nothing.
use Rattle.std.specs.Prelude.{None, Some, is_some}
use mathlib.Mathlib.Data.Bool.Basic.{or_inl, or_inr, not_iff_not, and_intro, and_elim_left, and_elim_right}
use mathlib.Core.Path.{◌≡◌, refl, sym, ap, ◌∙◌, subst}
use mathlib.Core.Logic.{◌⊎◌, inl, inr}
use mathlib.Core.Bool.{Bool, true, false, not, cond, ◌||◌, ◌&&◌}
use mathlib.Core.List.{List}
use Prim.Native.Nat.{ℕ, zero, suc, ◌+◌, ◌*◌, ◌-◌, ◌/◌, ◌%◌, ◌≤◌, ◌<◌, min}
use native.Mathlib.Omega.{arith}
use lib.Dec.{eqb, ltb}
use lib.ListN.{length, get_or}
use borrow.Author.Tests.{ltb-true, lt-ltb, eqb-true, eq-eqb}
use Rattle.answer.specs.Answer.{Found}
use Rattle.answer.specs.Lowest.{lowest}
use Rattle.answer.proofs.LowestLaws.{is_at_lem, is_absent}
use Rattle.block.specs.Field.{byte_at, u32_at}
use Rattle.block.specs.Block.{block_bytes, check_offset, check_at, checked, starts, Due}
use Rattle.block.proofs.Readings.{due_is, is_due}
use Rattle.closure.proofs.PairLaws.{lt-or}
use Rattle.fields.specs.Limits.{card_bytes, per_contour_limit, vertex_limit, pairs_a_block}
use Rattle.fields.specs.Layout.{blocks_of, payload, version_of, is_two, contours_of, pairs_of, per_contour_of, id_of}
use Rattle.fields.specs.Layout.{vertex_count_of, type_of, filler_of, grid_offset}
use Rattle.card.specs.Stages.{outside, bad_length_within, length_fault, length_fault_within, check_fault, kind_due, is_version}
use Rattle.card.specs.Stages.{start_fault, head_faults}
use Rattle.card.specs.Stages.{head_fault, head_fault_within, blocks_due, count_fault, bad_contour, contour_fault, seek_of}
use Rattle.card.specs.Stages.{repeats, repeat_fault}
use Rattle.card.proofs.FaultLaws.{kind_head, kind_contour, kind_pairs}
use Rattle.card_laws.specs.Table.{Row1, CheckDiffers, Row2, Kind, of_head, of_contour, of_pairs, Version}
use Rattle.card_laws.specs.Table.{is_one, is_two_lem, StartsOtherwise}
use Rattle.card_laws.specs.Table.{Row3, BadField, contours, pairs, candidates, passes, exterior, interior}
use Rattle.card_laws.specs.Table.{all_candidates, grid, Row4, PairBlocks, Row5, BadContour, few_vertices}
use Rattle.card_laws.specs.Table.{many_vertices, no_type, byte_eleven, Row6, Repeated, Row9, No}
use Rattle.card_laws.proofs.ExactLaws.{Exact}
use Rattle.card_laws.proofs.ExactLaws.{lowest_exact, if_exact, nowhere}
use Rattle.answer.proofs.Truth.{or_cases, true_false}

-- ---- below the least or above the most

outside_is : (least most x : ℕ) → outside least most x ≡ true → (x < least) ⊎ (most < x)
outside_is least most x e = go (or_cases (ltb x least) (ltb most x) e)
  where
    go : (ltb x least ≡ true) ⊎ (ltb most x ≡ true) → (x < least) ⊎ (most < x)
    go (inl t) = inl (ltb-true _ _ t)
    go (inr t) = inr (ltb-true _ _ t)

is_outside : (least most x : ℕ) → (x < least) ⊎ (most < x) → outside least most x ≡ true
is_outside least most x (inl h) = or_inl (ltb x least) (ltb most x) (lt-ltb _ _ h)
is_outside least most x (inr h) = or_inr (ltb x least) (ltb most x) (lt-ltb _ _ h)

module _ (s : List ℕ) where
  -- ---- 1

  length_cause : bad_length_within card_bytes s ≡ true
      → (length s ≡ 0) ⊎ ((length s % block_bytes ≡ 0 → ⊥) ⊎ (card_bytes < length s))
  length_cause e = go (or_cases (eqb (length s) 0) (not (eqb (length s % block_bytes) 0) || ltb card_bytes (length s)) e)
    where
      rest : (not (eqb (length s % block_bytes) 0) ≡ true) ⊎ (ltb card_bytes (length s) ≡ true)
          → (length s ≡ 0) ⊎ ((length s % block_bytes ≡ 0 → ⊥) ⊎ (card_bytes < length s))
      rest (inl t) = inr (inl (λ z. (not_iff_not {b = eqb (length s % block_bytes) 0}).0 t (eq-eqb _ _ z)))
      rest (inr t) = inr (inr (ltb-true _ _ t))

      go : (eqb (length s) 0 ≡ true) ⊎ ((not (eqb (length s % block_bytes) 0) || ltb card_bytes (length s)) ≡ true)
          → (length s ≡ 0) ⊎ ((length s % block_bytes ≡ 0 → ⊥) ⊎ (card_bytes < length s))
      go (inl t) = inl (eqb-true _ _ t)
      go (inr t) = rest (or_cases (not (eqb (length s % block_bytes) 0)) (ltb card_bytes (length s)) t)

  cause_length : (length s ≡ 0) ⊎ ((length s % block_bytes ≡ 0 → ⊥) ⊎ (card_bytes < length s))
      → bad_length_within card_bytes s ≡ true
  cause_length (inl e) = or_inl (eqb (length s) 0) _ (eq-eqb _ _ e)
  cause_length (inr (inl h)) =
      or_inr (eqb (length s) 0) _ (or_inl (not (eqb (length s % block_bytes) 0)) _
      ((not_iff_not {b = eqb (length s % block_bytes) 0}).1 (λ t. h (eqb-true _ _ t))))
  cause_length (inr (inr h)) =
      or_inr (eqb (length s) 0) _ (or_inr (not (eqb (length s % block_bytes) 0)) _ (lt-ltb _ _ h))

  pub exact1 : Exact (length_fault s) (Row1 s)
  unfolding length_fault_within
  exact1 =
      if_exact (bad_length_within card_bytes s) (min (length s) (card_bytes + 1)) (Row1 s)
      (λ t. record { cause = length_cause t; told = refl })
      (λ p r. (cause_length r.cause, r.told))

  -- ---- 2

  pub exact2 : Exact (check_fault s) (Row2 s)
  unfolding check_fault checked
  exact2 =
      lowest_exact _ (blocks_of s) (CheckDiffers s)
      (λ b h t e. (not_iff_not {b = eqb (check_at s (block_bytes * b)) (u32_at s (block_bytes * b + check_offset))}).0 t
      (eq-eqb _ _ e))
      (λ b h d. (not_iff_not {b = eqb (check_at s (block_bytes * b)) (u32_at s (block_bytes * b + check_offset))}).1
      (λ t. d (eqb-true _ _ t)))

  -- ---- 3

  -- the kind due is the block's kind, and there is no other
  kind_is : (b kind : ℕ) → Kind s b kind → kind ≡ kind_due s b
  kind_is b kind (of_head e) = kind_head s b e
  kind_is b kind (of_contour z h) = kind_contour s b (λ e. omega arith) h
  kind_is b kind (of_pairs h) = kind_pairs s b (λ e. omega arith) h

  due_kind : (b : ℕ) → Kind s b (kind_due s b)
  due_kind b = go (lt-or 0 b) (lt-or (contours_of s) b)
    where
      go : (0 < b) ⊎ (b ≤ 0) → (contours_of s < b) ⊎ (b ≤ contours_of s) → Kind s b (kind_due s b)
      go (inl z) (inl h) = subst (Kind s b) (kind_pairs s b (λ e. omega arith) h) (of_pairs h)
      go (inl z) (inr h) = subst (Kind s b) (kind_contour s b (λ e. omega arith) h) (of_contour z h)
      go (inr z) w = let e : b ≡ 0 = omega arith in subst (Kind s b) (kind_head s b e) (of_head e)

  -- the version of every block is block 0's, if there is such a version
  version_is : (v : ℕ) → Version s v → v ≡ version_of s
  version_is v (is_one e) = sym e
  version_is v (is_two_lem e) = sym e

  version_known : (v : ℕ) → Version s v → is_version (version_of s) ≡ true
  version_known v (is_one e) = rw e
  version_known v (is_two_lem e) = rw e

  known_version : is_version (version_of s) ≡ true → Version s (version_of s)
  known_version t = go (or_cases (eqb (version_of s) 1) (eqb (version_of s) 2) t)
    where
      go : (eqb (version_of s) 1 ≡ true) ⊎ (eqb (version_of s) 2 ≡ true) → Version s (version_of s)
      go (inl e) = let v : version_of s ≡ 1 = eqb-true _ _ e in subst (Version s) (sym v) (is_one v)
      go (inr e) = let v : version_of s ≡ 2 = eqb-true _ _ e in subst (Version s) (sym v) (is_two_lem v)

  pub exact3 : (count : ℕ) → Exact (start_fault s count) (Row3 s count)
  unfolding start_fault
  exact3 count =
      lowest_exact _ count (StartsOtherwise s)
      (λ b h t kind version k v d.
      (not_iff_not {b = is_version (version_of s) && starts s (block_bytes * b) (kind_due s b) (version_of s) b}).0 t
      (and_intro (version_known version v)
      (is_due s (block_bytes * b) (kind_due s b) (version_of s) b
      (subst (λ (x : ℕ). Due s (block_bytes * b) (kind_due s b) x b) (version_is version v)
      (subst (λ (x : ℕ). Due s (block_bytes * b) x version b) (kind_is b kind k) d)))))
      (λ b h d. (not_iff_not
      {b = is_version (version_of s) && starts s (block_bytes * b) (kind_due s b) (version_of s) b}).1
      (λ t. d (kind_due s b) (version_of s) (due_kind b)
      (known_version (and_elim_left (is_version (version_of s)) _ t))
      (due_is s (block_bytes * b) (kind_due s b) (version_of s) b (and_elim_right (is_version (version_of s)) _ t))))

  -- where block 0 starts as due, the version is 1 or 2
  pub version_due : No (Row3 s 1) → (version_of s ≡ 1) ⊎ (version_of s ≡ 2)
  version_due none = go (is_version (version_of s)) refl
    where
      other : is_version (version_of s) ≡ false → Row3 s 1 0
      other e = record {
        within = omega arith;
        holds = λ kind version k v d. true_false {b = is_version (version_of s)} (version_known version v) e;
        before = λ j h d. omega arith;
      }

      either : (eqb (version_of s) 1 ≡ true) ⊎ (eqb (version_of s) 2 ≡ true) → (version_of s ≡ 1) ⊎ (version_of s ≡ 2)
      either (inl t) = inl (eqb-true _ _ t)
      either (inr t) = inr (eqb-true _ _ t)

      go : (b : Bool) → is_version (version_of s) ≡ b → (version_of s ≡ 1) ⊎ (version_of s ≡ 2)
      go true e = either (or_cases (eqb (version_of s) 1) (eqb (version_of s) 2) e)
      go false e = absurd (none 0 (other e))

  -- ---- 4

  -- the byte that asks for the grid, by the version
  bad_grid : (two : Bool) → is_two s ≡ two → ltb 1 (cond two (byte_at s (payload 0 + grid_offset)) 0) ≡ true
      → BadField s 8
  bad_grid true e h = grid (eqb-true _ _ e) (ltb-true _ _ h)
  bad_grid false e h = absurd (true_false {b = false} h refl)

  bad_field : (f : ℕ) → get_or (head_faults s) f false ≡ true → BadField s f
  bad_field zero e = absurd (true_false {b = false} e refl)
  bad_field (suc zero) e = contours (ltb-true _ _ e)
  bad_field (suc (suc zero)) e = pairs (ltb-true _ _ e)
  bad_field (suc (suc (suc zero))) e = candidates (outside_is 1 per_contour_limit (per_contour_of s) e)
  bad_field (suc (suc (suc (suc zero)))) e = passes (ltb-true _ _ e)
  bad_field (suc (suc (suc (suc (suc zero))))) e = exterior (ltb-true _ _ e)
  bad_field (suc (suc (suc (suc (suc (suc zero)))))) e = interior (ltb-true _ _ e)
  bad_field (suc (suc (suc (suc (suc (suc (suc zero))))))) e = all_candidates (ltb-true _ _ e)
  bad_field (suc (suc (suc (suc (suc (suc (suc (suc zero)))))))) e = bad_grid (is_two s) refl e
  bad_field (suc (suc (suc (suc (suc (suc (suc (suc (suc f))))))))) e = absurd (true_false {b = false} e refl)

  field_bad : (f : ℕ) → BadField s f → get_or (head_faults s) f false ≡ true
  field_bad f (contours h) = lt-ltb _ _ h
  field_bad f (pairs h) = lt-ltb _ _ h
  field_bad f (candidates h) = is_outside 1 per_contour_limit (per_contour_of s) h
  field_bad f (passes h) = lt-ltb _ _ h
  field_bad f (exterior h) = lt-ltb _ _ h
  field_bad f (interior h) = lt-ltb _ _ h
  field_bad f (all_candidates h) = lt-ltb _ _ h
  field_bad f (grid two h) = rw (eq-eqb (version_of s) 2 two) (lt-ltb _ _ h)

  pub exact4 : Exact (head_fault s) (Row4 s)
  unfolding head_fault_within
  exact4 = lowest_exact (λ f. get_or (head_faults s) f false) 9 (BadField s) (λ f h. bad_field f) (λ f h. field_bad f)

  -- ---- 5

  -- the blocks due hold the pairs, and no other number of blocks does
  pub blocks_hold : PairBlocks s ((pairs_of s + (pairs_a_block - 1)) / pairs_a_block)
  blocks_hold = record { enough = omega arith; no_more = omega arith }

  pub due_blocks : (p : ℕ) → PairBlocks s p → blocks_of s ≡ 1 + contours_of s + p → blocks_of s ≡ blocks_due s
  due_blocks p w e = omega (arith, w.enough, w.no_more)

  pub exact5 : Exact (count_fault s) (Row5 s)
  unfolding count_fault
  exact5 =
      if_exact (not (eqb (blocks_of s) (blocks_due s))) (blocks_of s) (Row5 s)
      (λ t. record {
        differs = λ p w e. (not_iff_not {b = eqb (blocks_of s) (blocks_due s)}).0 t (eq-eqb _ _ (due_blocks p w e));
        told = refl;
      })
      (λ p r. (
        (not_iff_not {b = eqb (blocks_of s) (blocks_due s)}).1
            (λ t. r.differs _ blocks_hold (eqb-true _ _ t)),
        r.told,
      ))

  -- ---- 6

  bad_contour_lem : (k : ℕ) → bad_contour s k ≡ true → BadContour s k
  bad_contour_lem k e =
      go (or_cases (outside 1 vertex_limit (vertex_count_of s k)) (ltb 1 (type_of s k) || not (eqb (filler_of s k) 0)) e)
    where
      count : (vertex_count_of s k < 1) ⊎ (vertex_limit < vertex_count_of s k) → BadContour s k
      count (inl h) = few_vertices h
      count (inr h) = many_vertices h

      rest : (ltb 1 (type_of s k) ≡ true) ⊎ (not (eqb (filler_of s k) 0) ≡ true) → BadContour s k
      rest (inl t) = no_type (ltb-true _ _ t)
      rest (inr t) = byte_eleven (λ z. (not_iff_not {b = eqb (filler_of s k) 0}).0 t (eq-eqb _ _ z))

      go : (outside 1 vertex_limit (vertex_count_of s k) ≡ true) ⊎
          ((ltb 1 (type_of s k) || not (eqb (filler_of s k) 0)) ≡ true) → BadContour s k
      go (inl t) = count (outside_is 1 vertex_limit (vertex_count_of s k) t)
      go (inr t) = rest (or_cases (ltb 1 (type_of s k)) (not (eqb (filler_of s k) 0)) t)

  contour_bad : (k : ℕ) → BadContour s k → bad_contour s k ≡ true
  contour_bad k (few_vertices h) =
      or_inl (outside 1 vertex_limit (vertex_count_of s k)) _ (is_outside 1 vertex_limit (vertex_count_of s k) (inl h))
  contour_bad k (many_vertices h) =
      or_inl (outside 1 vertex_limit (vertex_count_of s k)) _ (is_outside 1 vertex_limit (vertex_count_of s k) (inr h))
  contour_bad k (no_type h) =
      or_inr (outside 1 vertex_limit (vertex_count_of s k)) _ (or_inl (ltb 1 (type_of s k)) _ (lt-ltb _ _ h))
  contour_bad k (byte_eleven h) =
      or_inr (outside 1 vertex_limit (vertex_count_of s k)) _
      (or_inr (ltb 1 (type_of s k)) _ ((not_iff_not {b = eqb (filler_of s k) 0}).1 (λ t. h (eqb-true _ _ t))))

  pub exact6 : Exact (contour_fault s) (Row6 s)
  unfolding contour_fault
  exact6 = lowest_exact (bad_contour s) (contours_of s) (BadContour s) (λ k h. bad_contour_lem k) (λ k h. contour_bad k)

  -- ---- 9

  repeated : (k : ℕ) → repeats s k ≡ true → Repeated s k
  unfolding seek_of
  repeated k e = go (lowest same k) refl
    where
      same : ℕ → Bool
      same = λ j. eqb (id_of s j) (id_of s k)

      go : (f : Found) → lowest same k ≡ f → Repeated s k
      go (Some j) h =
          let w = is_at_lem same k j h in
          record { earlier = j; is_earlier = w.within; same = eqb-true _ _ w.holds }
      go None h = absurd (true_false {b = false} (ap is_some (sym h) ∙ e) refl)

  is_repeated : (k : ℕ) → Repeated s k → repeats s k ≡ true
  unfolding seek_of
  is_repeated k r = go (lowest same k) refl
    where
      same : ℕ → Bool
      same = λ j. eqb (id_of s j) (id_of s k)

      go : (f : Found) → lowest same k ≡ f → is_some (lowest same k) ≡ true
      go (Some j) h = ap is_some h
      go None h =
          absurd (true_false {b = same r.earlier} (eq-eqb _ _ r.same)
          (is_absent same k h r.earlier r.is_earlier))

  pub exact9 : Exact (repeat_fault s) (Row9 s)
  unfolding repeat_fault
  exact9 = lowest_exact (repeats s) (contours_of s) (Repeated s) (λ k h. repeated k) (λ k h. is_repeated k)

  pub no_repeat : No (Row9 s) → (k : ℕ) → k < contours_of s → Repeated s k → ⊥
  no_repeat = nowhere (repeats s) (contours_of s) (Repeated s) (λ k h. repeated k) (λ k h. is_repeated k)

  -- ---- what the rows let pass, each fact by itself

  pub no_bad_field : No (Row4 s) → (f : ℕ) → f < 9 → BadField s f → ⊥
  no_bad_field = nowhere (λ f. get_or (head_faults s) f false) 9 (BadField s) (λ f h. bad_field f) (λ f h. field_bad f)

  pub no_bad_contour : No (Row6 s) → (k : ℕ) → k < contours_of s → BadContour s k → ⊥
  no_bad_contour = nowhere (bad_contour s) (contours_of s) (BadContour s) (λ k h. bad_contour_lem k) (λ k h. contour_bad k)
