-- The verdict on twins, stage by stage. Assumes nothing.
use Rattle.std.specs.Prelude.{None, Ok, Some, is_some}
use mathlib.Core.Path.{◌≡◌, refl, sym, ap, ◌∙◌, subst}
use mathlib.Core.Bool.{Bool, true, false, not, cond, ◌||◌, ◌&&◌}
use mathlib.Core.List.{List, [], ◌∷◌, ◌++◌}
use Prim.Native.Nat.{ℕ, zero, suc, ◌+◌, ◌*◌, ◌-◌, ◌/◌, ◌%◌, ◌≤◌, ◌<◌, min}
use native.Mathlib.Nat.{add_assoc}
use native.Mathlib.Numerals.{add-one}
use native.Mathlib.Omega.{arith}
use lib.Dec.{eqb, ltb, leb, lit≤}
use lib.ListN.{get_or}
use borrow.Author.Tests.{eq-eqb, ne_eqb, leb-true, leb-false, ltb-true, ltb-false}
use Rattle.answer.specs.Answer.{Check, Found}
use Rattle.answer.specs.Lowest.{lowest, refuse_at}
use Rattle.answer.specs.Stage.{or_else, first_refusal}
use Rattle.answer.proofs.LowestLaws.{absent_is, is_absent, lowest_same}
use Rattle.answer.proofs.Truth.{or-none}
use Rattle.block.specs.Field.{byte_at, u32_at}
use Rattle.block.specs.Block.{block_bytes, payload_bytes, checked, starts, zeros_at}
use Rattle.block.proofs.Readings.{zeros_each, each_zeros, zero-before}
use Rattle.closure.specs.Limits.{contour_limit, pair_limit}
use Rattle.closure.specs.Cycle.{first_on_cycle}
use Rattle.fields.specs.Limits.{card_bytes, per_contour_limit, candidate_limit, pass_limit, vertex_limit, pairs_a_block}
use Rattle.fields.specs.Layout.{blocks_of, payload, version_of, contours_of, vertex_count_of}
use Rattle.fields.specs.Layout.{home_offset, vertex_offset, pair_offset, before_id_of, after_id_of}
use Rattle.fields.specs.Layout.{head_size, contour_size, vertex_size, pair_size, part_offset}
use Rattle.card.specs.Stages.{found_if, outside, length_fault, length_fault_within, check_fault, kind_due, is_version}
use Rattle.card.specs.Stages.{bad_start}
use Rattle.card.specs.Stages.{start_fault, head_fault, head_fault_within, count_fault, bad_contour, contour_fault, used_in}
use Rattle.card.specs.Stages.{spare_end, bad_spare}
use Rattle.card.specs.Stages.{spare_fault, far_point, far_vertex, far_place, far_fault, seek_of, repeat_fault, position_of}
use Rattle.card.specs.Stages.{name_fault, seat, tag_fault}
use Rattle.card.specs.Names.{seats_of, pairs_on}
use Rattle.card.specs.Verdict.{cycle_fault, cycle_fault_within, check_of, check_within}
use Rattle.card.proofs.SpareLaws.{end_within_lem, end_contour, end_pairs, some_spare}
use Rattle.card_laws.proofs.JoinedLaws.{no_parts, unruled}
use Rattle.parts.specs.Twins.{ChecksDue, Twins}
use Rattle.parts.proofs.ReadLaws.{Run, byte, half, word, far, same_length, same_blocks, run}
use Rattle.parts.proofs.ReadLaws.{same_contours, same_pairs, same_per_contour, same_passes, at_home}
use Rattle.parts.proofs.ReadLaws.{same_exterior, same_interior, is_two_lem, is_one, same_grid, zero-grid, same_id}
use Rattle.parts.proofs.ReadLaws.{same_tag, same_count, same_type, same_filler, at-vertex, same_word}

-- where every check is the one due, none is at fault
checks_due : (s : List ℕ) → ChecksDue s → check_fault s ≡ None
unfolding check_fault checked
checks_due s due = absent_is _ (blocks_of s) (λ b h. ap not (eq-eqb _ _ (due b h)))

-- a card that stage 6 lets pass has no contour of more than 30 vertices
few_vertices : (s : List ℕ) → contour_fault s ≡ None → (k : ℕ) → k < contours_of s → vertex_count_of s k ≤ vertex_limit
unfolding contour_fault
few_vertices s none k h =
    ltb-false _ _ (or-none (ltb (vertex_count_of s k) 1) _ (or-none (outside 1 vertex_limit (vertex_count_of s k)) _
    (is_absent (bad_contour s) (contours_of s) none k h)).0).1

-- one run of bytes is all zero as another is, which begins like it and ends with zeros
like_zeros : (s t : List ℕ) (a c d : ℕ) → c ≤ d → Run s t a c → ((i : ℕ) → c ≤ i → i < d → byte_at t (a + i) ≡ 0)
    → zeros_at s a c ≡ zeros_at t a d
like_zeros s t a c d within same rest = either (zeros_at s a c) (zeros_at t a d) to from
  where
    either : (p q : Bool) → (p ≡ true → q ≡ true) → (q ≡ true → p ≡ true) → p ≡ q
    either true q to from = sym (to refl)
    either false true to from = from refl
    either false false to from = refl

    to : zeros_at s a c ≡ true → zeros_at t a d ≡ true
    to z = each_zeros t a d (λ i h. go i h (ltb i c) refl)
      where
        go : (i : ℕ) → i < d → (b : Bool) → ltb i c ≡ b → byte_at t (a + i) ≡ 0
        go i h true e =
            let g : i < c = ltb-true i c e in sym (same i g) ∙ zeros_each s a c z i g
        go i h false e = rest i (ltb-false i c e) h

    from : zeros_at t a d ≡ true → zeros_at s a c ≡ true
    from z = each_zeros s a c (λ i h. same i h ∙ zeros_each t a d z i (omega arith))

module _ (s t : List ℕ) (w : Twins s t) where
  abbrev n_same : contours_of s ≡ contours_of t
  n_same = same_contours s t w

  -- ---- 1, 2

  same_length_fault : length_fault s ≡ length_fault t
  unfolding length_fault_within
  same_length_fault = ap
      (λ (l : ℕ). found_if (eqb l 0 || (not (eqb (l % block_bytes) 0) || ltb card_bytes l)) (min l (card_bytes + 1)))
      (same_length s t w)

  same_check_fault : check_fault s ≡ check_fault t
  same_check_fault = checks_due s w.checks.0 ∙ sym (checks_due t w.checks.1)

  -- ---- 3

  abbrev s_two : version_of s ≡ 2
  s_two = is_two_lem s t w

  abbrev t_one : version_of t ≡ 1
  t_one = is_one s t w

  same_kind : (b : ℕ) → kind_due s b ≡ kind_due t b
  same_kind b = λ i. cond (eqb b 0) 1 (cond (leb b (n_same i)) 2 3)

  same_start : (b : ℕ) → b < blocks_of s → bad_start s b ≡ bad_start t b
  unfolding starts
  same_start b h =
      let known : is_version (version_of s) ≡ is_version (version_of t) =
      ap is_version s_two ∙ sym (ap is_version t_one) in
      let kind : byte_at s (block_bytes * b) ≡ byte_at t (block_bytes * b) =
      byte s t _ (run s t w _ b 0 1 (omega arith) (omega arith)) in
      let at = block_bytes * b + 1 in
      let version : eqb (byte_at s at) (version_of s) ≡ eqb (byte_at t at) (version_of t) =
      eq-eqb _ _ (w.two b h ∙ sym s_two)
      ∙ sym (eq-eqb _ _ (w.one b (subst (λ (n : ℕ). b < n) (same_blocks s t w) h) ∙ sym t_one)) in
      let number = half s t (block_bytes * b + 2) (run s t w _ b 2 2 refl (omega arith)) in
      let zeros = word s t (block_bytes * b + 4) (run s t w _ b 4 4 refl (omega arith)) in
      λ i. not (known i && (eqb (kind i) (same_kind b i) && (version i && (eqb (number i) b && eqb (zeros i) 0))))

  same_start_fault : (count : ℕ) → count ≤ blocks_of s → start_fault s count ≡ start_fault t count
  unfolding start_fault
  same_start_fault count h = lowest_same count _ _ (λ b g. same_start b (omega arith))

  -- ---- 4, 5, 6

  same_head_fault : head_fault s ≡ head_fault t
  unfolding head_fault_within
  same_head_fault = λ i. lowest (λ f. get_or (
      false
      ∷ ltb contour_limit (n_same i)
      ∷ ltb pair_limit (same_pairs s t w i)
      ∷ outside 1 per_contour_limit (same_per_contour s t w i)
      ∷ ltb pass_limit (same_passes s t w i)
      ∷ ltb 2 (same_exterior s t w i)
      ∷ ltb 2 (same_interior s t w i)
      ∷ ltb candidate_limit (n_same i * same_per_contour s t w i)
      ∷ ltb 1 (same_grid s t w i)
      ∷ []) f false) 9

  same_count_fault : count_fault s ≡ count_fault t
  unfolding count_fault
  same_count_fault = λ i. found_if
      (not (eqb (same_blocks s t w i)
      (1 + n_same i + (same_pairs s t w i + (pairs_a_block - 1)) / pairs_a_block))) (same_blocks s t w i)

  same_contour_fault : contour_fault s ≡ contour_fault t
  unfolding contour_fault
  same_contour_fault = λ i. lowest (λ k. outside 1 vertex_limit (same_count s t w k i)
      || (ltb 1 (same_type s t w k i) || not (eqb (same_filler s t w k i) 0))) (n_same i)

  -- ---- 7

  -- the head: in the one the byte that asks for the grid is a field, in the other it is spare, and 0 in both
  same_head_spare : bad_spare s 0 ≡ bad_spare t 0
  same_head_spare =
      let used : ℕ → ℕ = λ v. cond (eqb v 2) (head_size + 1) head_size in
      let same : Run s t (payload 0 + head_size) (payload_bytes - head_size) =
      run s t w _ 0 (8 + head_size) (payload_bytes - head_size) (omega arith) (omega arith) in
      sym (some_spare s 0 (head_size + 1) payload_bytes (ap used (sym s_two)) refl _ refl)
      ∙ ap not (zero-before s (payload 0 + head_size) (payload_bytes - (head_size + 1)) (zero-grid s t w)
      ∙ like_zeros s t (payload 0 + head_size) (payload_bytes - head_size) (payload_bytes - head_size) (omega arith) same
      (λ i h g. absurd (omega arith)))
      ∙ some_spare t 0 head_size payload_bytes (ap used (sym t_one)) refl _ refl

  same_used : (b : ℕ) → (b ≡ 0 → ⊥) → used_in s b ≡ used_in t b
  same_used b later = rw (ne_eqb b 0 later) (λ i.
      let contour = contour_size + vertex_size * same_count s t w (b - 1) i in
      let pairs = min pairs_a_block (same_pairs s t w i - pairs_a_block * (b - (n_same i + 1))) in
      cond (leb b (n_same i)) contour (pair_size * pairs))

  -- spare bytes end at c in the one, in a contour's block at its part, and at d in the other: zeros up to there
  like_spare : (b c d : ℕ) → (b ≡ 0 → ⊥) → c ≡ spare_end s b → d ≡ spare_end t b → c ≤ d
      → (b ≤ contours_of s → c ≤ part_offset) → ((o : ℕ) → c ≤ o → o < d → byte_at t (payload b + o) ≡ 0)
      → bad_spare s b ≡ bad_spare t b
  like_spare b c d later ends-c ends-d within clear rest =
      let u = used_in s b in
      let same : Run s t (payload b + u) (c - u) = run s t w _ b (8 + u) (c - u) (omega arith) (λ i h.
      (omega (arith, end_within_lem s b), omega arith, λ some few. omega (arith, clear few))) in
      sym (some_spare s b u c refl ends-c _ refl)
      ∙ ap not (like_zeros s t (payload b + u) (c - u) (d - u) (omega arith) same
      (λ i h g. ap (byte_at t) (add_assoc (payload b) u i) ∙ rest (u + i) (omega arith) (omega arith)))
      ∙ some_spare t b u d (same_used b later) ends-d _ refl

  same_later_spare : (k : ℕ) → bad_spare s (suc k) ≡ bad_spare t (suc k)
  same_later_spare k = go (leb (suc k) (contours_of s)) refl
    where
      later : suc k ≡ 0 → ⊥
      later e = omega arith

      go : (b : Bool) → leb (suc k) (contours_of s) ≡ b → bad_spare s (suc k) ≡ bad_spare t (suc k)
      go true e =
          let h : suc k ≤ contours_of s = leb-true _ _ e in
          let ends : ℕ → ℕ = λ v. cond (eqb v 2) part_offset payload_bytes in
          like_spare (suc k) part_offset payload_bytes later
          (ap ends (sym s_two) ∙ end_contour s (suc k) later h)
          (ap ends (sym t_one) ∙ end_contour t (suc k) later (omega (arith, n_same)))
          (omega arith) (λ few. omega arith)
          (λ o l g. ap (λ (b : ℕ). byte_at t (payload b + o)) (sym (add-one k)) ∙ w.zeros k o h l g)
      go false e =
          let h : contours_of s < suc k = leb-false _ _ e in
          like_spare (suc k) payload_bytes payload_bytes later (end_pairs s (suc k) later h)
          (end_pairs t (suc k) later (omega (arith, n_same)))
          (omega arith) (λ few. absurd (omega arith)) (λ o l g. absurd (omega arith))

  same_spare : (b : ℕ) → bad_spare s b ≡ bad_spare t b
  same_spare zero = same_head_spare
  same_spare (suc k) = same_later_spare k

  same_spare_fault : spare_fault s ≡ spare_fault t
  unfolding spare_fault
  same_spare_fault = λ i. lowest (λ b. same_spare b i) (same_blocks s t w i)

  -- ---- 8, once 6 has let the card pass

  same_far_place : ((k : ℕ) → k < contours_of s → vertex_count_of s k ≤ vertex_limit) → (p : ℕ) → p < contours_of s + 1
      → far_place s p ≡ far_place t p
  unfolding far_vertex
  same_far_place few zero h = far s t home_offset (at_home s t w)
  same_far_place few (suc k) h =
      let v : vertex_count_of s k ≤ vertex_limit = few k (omega arith) in
      ap is_some (lowest_same (vertex_count_of s k) _ _ (λ j g. far s t _ (at-vertex s t w k j (omega arith)))
      ∙ ap (lowest (λ j. far_point t (vertex_offset k j))) (same_count s t w k))

  same_far_fault : contour_fault s ≡ None → far_fault s ≡ far_fault t
  unfolding far_fault
  same_far_fault none =
      lowest_same (contours_of s + 1) _ _ (same_far_place (few_vertices s none))
      ∙ (λ i. lowest (far_place t) (n_same i + 1))

  -- ---- 9, 10, 11

  same_seek : (count id : ℕ) → seek_of s count id ≡ seek_of t count id
  unfolding seek_of
  same_seek count id = λ i. lowest (λ k. eqb (same_id s t w k i) id) count

  same_repeat_fault : repeat_fault s ≡ repeat_fault t
  unfolding repeat_fault
  same_repeat_fault = λ i. lowest (λ k. is_some (same_seek k (same_id s t w k i) i)) (n_same i)

  -- the contour that a pair's word names, as an id
  same_position : (q o : ℕ) → o + 4 ≤ 16
      → position_of s (u32_at s (pair_offset s q + o)) ≡ position_of t (u32_at t (pair_offset t q + o))
  same_position q o h = λ i. same_seek (n_same i) (same_word s t w q o h i) i

  abbrev first : (q : ℕ) → position_of s (before_id_of s q) ≡ position_of t (before_id_of t q)
  first q = same_position q 0 (lit≤ tt)

  abbrev second : (q : ℕ) → position_of s (after_id_of s q) ≡ position_of t (after_id_of t q)
  second q = same_position q 8 (lit≤ tt)

  pub same_name_fault : name_fault s ≡ name_fault t
  unfolding name_fault
  same_name_fault = λ i. lowest (λ q. not (is_some (first q i)) || not (is_some (second q i))) (same_pairs s t w i)

  same_tag_fault : tag_fault s ≡ tag_fault t
  unfolding tag_fault
  same_tag_fault = λ i. lowest (λ q.
      not (eqb (same_tag s t w (seat (first q i)) i) (same_word s t w q 4 (lit≤ tt) i))
      || not (eqb (same_tag s t w (seat (second q i)) i) (same_word s t w q 12 (lit≤ tt) i))) (same_pairs s t w i)

  -- ---- 12: none has a pair by rule

  pub same_seats : (q : ℕ) → seats_of s q ≡ seats_of t q
  unfolding seats_of
  same_seats zero = refl
  same_seats (suc q) = λ i. same_seats q i ++ (seat (first q i) ∷ seat (second q i) ∷ [])

  pub same_pairs-on : pairs_on s ≡ pairs_on t
  same_pairs-on =
      (unruled s).as_written w.no_part
      ∙ (λ i. same_seats (same_pairs s t w i) i)
      ∙ sym ((unruled t).as_written (λ k h. no_parts t t_one k))

  same_cycle_fault : cycle_fault s ≡ cycle_fault t
  unfolding cycle_fault_within
  same_cycle_fault = λ i. first_on_cycle (n_same i) (same_pairs-on i)

  -- ---- all

  -- what comes after stage 6 counts only where that finds nothing
  after_six : (f g : Found) (x y : Check) → f ≡ g → (f ≡ None → x ≡ y)
      → or_else (refuse_at 6 f) x ≡ or_else (refuse_at 6 g) y
  after_six (Some p) g x y e h = ap (λ (z : Found). or_else (refuse_at 6 z) y) e
  after_six None g x y e h = λ i. or_else (refuse_at 6 (e i)) (h refl i)

  pub same_verdict : check_of s ≡ check_of t
  unfolding check_within first_refusal
  same_verdict = λ i.
      or_else (refuse_at 1 (same_length_fault i))
      (or_else (refuse_at 2 (same_check_fault i))
      (or_else (refuse_at 3 (same_start_fault 1 w.some_block i))
      (or_else (refuse_at 4 (same_head_fault i))
      (or_else (refuse_at 5 (same_count_fault i))
      (or_else (refuse_at 3 (all_starts i))
      (after_six (contour_fault s) (contour_fault t) _ _ same_contour_fault (λ none j.
      or_else (refuse_at 7 (same_spare_fault j))
      (or_else (refuse_at 8 (same_far_fault none j))
      (or_else (refuse_at 9 (same_repeat_fault j))
      (or_else (refuse_at 10 (same_name_fault j))
      (or_else (refuse_at 11 (same_tag_fault j))
      (or_else (refuse_at 12 (same_cycle_fault j)) (Ok tt))))))) i))))))
    where
      all_starts : start_fault s (blocks_of s) ≡ start_fault t (blocks_of t)
      all_starts = same_start_fault (blocks_of s) (omega arith) ∙ (λ i. start_fault t (same_blocks s t w i))
