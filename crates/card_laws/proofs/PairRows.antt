-- Rows 7, 10 and 11 of the table. Assumes nothing.
use Rattle.std.specs.Prelude.{None, Some, is_some}
use mathlib.Mathlib.Data.Bool.Basic.{or_inl, or_inr, not_iff_not}
use mathlib.Core.Path.{◌≡◌, refl, sym, ap, ◌∙◌, subst}
use mathlib.Core.Logic.{◌⊎◌, inl, inr}
use mathlib.Core.Bool.{Bool, true, false, not, cond}
use mathlib.Core.List.{List}
use Prim.Native.Nat.{ℕ, suc, ◌+◌, ◌*◌, ◌-◌, ◌≤◌, ◌<◌, min}
use native.Mathlib.Nat.{add_assoc}
use native.Mathlib.Omega.{arith}
use lib.Dec.{eqb, ltb}
use borrow.Author.Tests.{eqb-true, eqb-false, eq-eqb, not-false, ltb-true, ltb-false}
use Rattle.answer.specs.Answer.{Found}
use Rattle.answer.specs.Lowest.{lowest}
use Rattle.answer.proofs.LowestLaws.{is_at_lem, is_absent}
use Rattle.block.specs.Field.{byte_at}
use Rattle.block.specs.Block.{payload_bytes, zeros_at}
use Rattle.block.proofs.Readings.{zeros_each, each_zeros}
use Rattle.closure.proofs.PairLaws.{lt-or}
use Rattle.fields.specs.Limits.{pairs_a_block}
use Rattle.fields.specs.Layout.{blocks_of, payload, version_of, is_two, contours_of, pairs_of, id_of, tag_of}
use Rattle.fields.specs.Layout.{vertex_count_of, before_id_of, before_tag_of, after_id_of, after_tag_of}
use Rattle.fields.specs.Layout.{head_size, grid_offset, contour_size, vertex_size, pair_size, part_offset}
use Rattle.card.specs.Stages.{pairs_in, head_used, used_in, spare_end, bad_spare, spare_fault, seek_of, position_of}
use Rattle.card.specs.Stages.{unnamed, name_fault, seat, before_of, after_of, other_tag, tag_fault}
use Rattle.card.proofs.SpareLaws.{used_head, used_contour, used-pairs, end_head, end_contour, end_pairs, end_within_lem}
use Rattle.card_laws.specs.Table.{Spare, in_head, in_contour, past_last_pair, past_full_block, SpareByte, Row7}
use Rattle.card_laws.specs.Table.{Row9, Has, Unnamed, Row10, OtherTag, Row11, No}
use Rattle.card_laws.proofs.RowLaws.{no_repeat}
use Rattle.card_laws.proofs.ExactLaws.{Exact}
use Rattle.card_laws.proofs.ExactLaws.{lowest_exact, nowhere}
use Rattle.answer.proofs.Truth.{or_cases, true_false}

-- one is below the other, or they are the same
order : (j k : ℕ) → (j < k) ⊎ ((j ≡ k) ⊎ (k < j))
order j k = go (ltb j k) (ltb k j) refl refl
  where
    go : (a b : Bool) → ltb j k ≡ a → ltb k j ≡ b → (j < k) ⊎ ((j ≡ k) ⊎ (k < j))
    go true b e f = inl (ltb-true _ _ e)
    go false true e f = inr (inr (ltb-true _ _ f))
    go false false e f = inr (inl (omega (arith, ltb-false j k e, ltb-false k j f)))

module _ (s : List ℕ) where
  -- ---- 7

  -- before the part and copy of a version 2 contour
  ends_by : (offset : ℕ) → (version_of s ≡ 2 → offset < part_offset) → offset < payload_bytes
      → offset < cond (is_two s) part_offset payload_bytes
  ends_by offset two h = go (is_two s) refl
    where
      go : (b : Bool) → is_two s ≡ b → offset < cond b part_offset payload_bytes
      go true e = two (eqb-true _ _ e)
      go false e = h

  by_end : (offset : ℕ) → offset < cond (is_two s) part_offset payload_bytes → version_of s ≡ 2 → offset < part_offset
  by_end offset h e = rw (eq-eqb _ 2 e) at h

  -- behind the head's fields: in version 2 the byte that asks for the grid is one
  head_behind : (offset : ℕ) → head_used s ≤ offset
      → (head_size ≤ offset) × (version_of s ≡ 2 → offset ≡ grid_offset → ⊥)
  head_behind offset h = go (is_two s) refl h
    where
      go : (b : Bool) → is_two s ≡ b → cond b (head_size + 1) head_size ≤ offset
          → (head_size ≤ offset) × (version_of s ≡ 2 → offset ≡ grid_offset → ⊥)
      go true e g = (omega arith, λ two at. omega arith)
      go false e g = (g, λ two at. eqb-false _ _ e two)

  behind_head : (offset : ℕ) → head_size ≤ offset → (version_of s ≡ 2 → offset ≡ grid_offset → ⊥) → head_used s ≤ offset
  behind_head offset h other = go (is_two s) refl
    where
      go : (b : Bool) → is_two s ≡ b → cond b (head_size + 1) head_size ≤ offset
      go true e = let n = other (eqb-true _ _ e) in omega arith
      go false e = h

  -- a byte is spare exactly if it is behind the bytes in use, and before where spare bytes end
  behind_used : (b offset : ℕ) → used_in s b ≤ offset → offset < spare_end s b → Spare s b offset
  behind_used b offset h l = go (lt-or 0 b) (lt-or (contours_of s) b)
    where
      pairs-part : (i : ℕ) → b ≡ suc (contours_of s + i)
          → pair_size * min pairs_a_block (pairs_of s - pairs_a_block * i) ≤ offset → Spare s b offset
      pairs-part i e g = split (lt-or pairs_a_block (pairs_of s - pairs_a_block * i))
        where
          split : (pairs_a_block < pairs_of s - pairs_a_block * i) ⊎ (pairs_of s - pairs_a_block * i ≤ pairs_a_block)
              → Spare s b offset
          split (inl m) = past_full_block i e (omega arith)
          split (inr m) = past_last_pair i e (omega arith)

      go : (0 < b) ⊎ (b ≤ 0) → (contours_of s < b) ⊎ (b ≤ contours_of s) → Spare s b offset
      go (inl z) (inl m) =
          let u : pair_size * pairs_in s b ≡ used_in s b = used-pairs s b (λ e. omega arith) _ m refl in
          pairs-part (b - (contours_of s + 1)) (omega arith) (omega arith)
      go (inl z) (inr m) =
          let u : contour_size + vertex_size * vertex_count_of s (b - 1) ≡ used_in s b =
          used_contour s b (λ e. omega arith) _ m refl in
          in_contour (b - 1) (omega arith) (omega arith) (omega arith)
          (by_end offset (rw (end_contour s b (λ e. omega arith) m) l))
      go (inr z) w =
          let e : b ≡ 0 = omega arith in
          let u : head_used s ≤ offset = rw (used_head s b e) h in
          let behind = head_behind offset u in
          in_head e behind.0 behind.1

  used_behind : (b offset : ℕ) → Spare s b offset → offset < payload_bytes
      → (used_in s b ≤ offset) × (offset < spare_end s b)
  used_behind b offset (in_head e h other) l =
      let u = used_head s b e in
      let z = end_head s b e in
      (omega (arith, u, behind_head offset h other), omega arith)
  used_behind b offset (in_contour k m e h two) l =
      let v : vertex_count_of s k ≡ vertex_count_of s (b - 1) =
      ap (vertex_count_of s) (let i : k ≡ b - 1 = omega arith in i) in
      let u : contour_size + vertex_size * vertex_count_of s k ≡ used_in s b =
      used_contour s b (λ z. omega arith) _ (omega arith) v in
      let end = end_contour s b (λ z. omega arith) (omega arith) in
      (omega arith, subst (λ (x : ℕ). offset < x) end (ends_by offset two l))
  used_behind b offset (past_last_pair i e h) l =
      let k : b - (contours_of s + 1) ≡ i = omega arith in
      let u : pair_size * pairs_in s b ≡ used_in s b = used-pairs s b (λ z. omega arith) _ (omega arith) refl in
      let z = end_pairs s b (λ z. omega arith) (omega arith) in
      (omega arith, omega arith)
  used_behind b offset (past_full_block i e h) l =
      let u : pair_size * pairs_in s b ≡ used_in s b = used-pairs s b (λ z. omega arith) _ (omega arith) refl in
      let z = end_pairs s b (λ z. omega arith) (omega arith) in
      (omega arith, omega arith)

  spare_byte : (b : ℕ) → bad_spare s b ≡ true → SpareByte s b
  spare_byte b e = go (lowest some count) refl
    where
      count : ℕ
      count = spare_end s b - used_in s b

      some : ℕ → Bool
      some = λ i. not (eqb (byte_at s (payload b + used_in s b + i)) 0)

      go : (f : Found) → lowest some count ≡ f → SpareByte s b
      go (Some i) h =
          let w = is_at_lem some count i h in
          let l : used_in s b + i < spare_end s b = omega (arith, w.within) in
          record {
            offset = used_in s b + i;
            behind = behind_used b (used_in s b + i) (omega arith) l;
            inside = omega (arith, end_within_lem s b, l);
            some = λ z. (not_iff_not {b = eqb (byte_at s (payload b + used_in s b + i)) 0}).0 w.holds
                (eq-eqb _ _ (ap (byte_at s) (add_assoc (payload b) (used_in s b) i) ∙ z));
          }
      go None h =
          absurd
          ((not_iff_not {b = zeros_at s (payload b + used_in s b) count}).0 e
          (each_zeros s (payload b + used_in s b) count
          (λ i g. eqb-true _ _ (not-false _ (is_absent some count h i g)))))

  byte_spare : (b : ℕ) → SpareByte s b → bad_spare s b ≡ true
  byte_spare b r =
      let u = used_in s b in
      let z = spare_end s b in
      let between = used_behind b r.offset r.behind r.inside in
      (not_iff_not {b = zeros_at s (payload b + u) (z - u)}).1 (λ t.
      let e : byte_at s (payload b + u + (r.offset - u)) ≡ 0 =
      zeros_each s (payload b + u) (z - u) t (r.offset - u) (omega (arith, between)) in
      let g : payload b + u + (r.offset - u) ≡ payload b + r.offset = omega (arith, between.0) in
      r.some (ap (byte_at s) (sym g) ∙ e))

  pub exact7 : Exact (spare_fault s) (Row7 s)
  unfolding spare_fault
  exact7 = lowest_exact (bad_spare s) (blocks_of s) (SpareByte s) (λ b h. spare_byte b) (λ b h. byte_spare b)

  -- ---- 10

  -- a lookup finds a contour with the id, or there is none
  looked_up : (id k : ℕ) → position_of s id ≡ Some k → Has s id k
  unfolding seek_of
  looked_up id k e =
      let w = is_at_lem (λ j. eqb (id_of s j) id) (contours_of s) k e in
      record { is_contour = w.within; same = eqb-true _ _ w.holds }

  not_there : (id k : ℕ) → position_of s id ≡ None → Has s id k → ⊥
  unfolding seek_of
  not_there id k e h =
      true_false {b = eqb (id_of s k) id} (eq-eqb _ _ h.same)
      (is_absent (λ j. eqb (id_of s j) id) (contours_of s) e k h.is_contour)

  unknown_id : (id : ℕ) → not (is_some (position_of s id)) ≡ true → (k : ℕ) → Has s id k → ⊥
  unknown_id id e k h = go (position_of s id) refl
    where
      go : (f : Found) → position_of s id ≡ f → ⊥
      go (Some j) g = (not_iff_not {b = is_some (position_of s id)}).0 e (ap is_some g)
      go None g = not_there id k g h

  id_unknown : (id : ℕ) → ((k : ℕ) → Has s id k → ⊥) → not (is_some (position_of s id)) ≡ true
  id_unknown id none = go (position_of s id) refl
    where
      go : (f : Found) → position_of s id ≡ f → not (is_some (position_of s id)) ≡ true
      go (Some j) g = absurd (none j (looked_up id j g))
      go None g = ap (λ (f : Found). not (is_some f)) g

  is_unnamed : (q : ℕ) → unnamed s q ≡ true → Unnamed s q
  is_unnamed q e =
      go (or_cases (not (is_some (position_of s (before_id_of s q)))) (not (is_some (position_of s (after_id_of s q)))) e)
    where
      go : (not (is_some (position_of s (before_id_of s q))) ≡ true) ⊎ (not (is_some (position_of s (after_id_of s q))) ≡ true)
          → Unnamed s q
      go (inl t) = Unnamed.first (unknown_id (before_id_of s q) t)
      go (inr t) = Unnamed.second (unknown_id (after_id_of s q) t)

  unnamed_is : (q : ℕ) → Unnamed s q → unnamed s q ≡ true
  unnamed_is q (Unnamed.first h) =
      or_inl (not (is_some (position_of s (before_id_of s q)))) _ (id_unknown (before_id_of s q) h)
  unnamed_is q (Unnamed.second h) =
      or_inr (not (is_some (position_of s (before_id_of s q)))) _ (id_unknown (after_id_of s q) h)

  pub exact10 : Exact (name_fault s) (Row10 s)
  unfolding name_fault
  exact10 = lowest_exact (unnamed s) (pairs_of s) (Unnamed s) (λ q h. is_unnamed q) (λ q h. unnamed_is q)

  -- ---- 11, once ids are unique and every pair's ids are known

  -- at most one contour has an id
  pub same_contour : No (Row9 s) → (id j k : ℕ) → Has s id j → Has s id k → j ≡ k
  same_contour none id j k hj hk = go (order j k)
    where
      same : id_of s j ≡ id_of s k
      same = hj.same ∙ sym hk.same

      go : (j < k) ⊎ ((j ≡ k) ⊎ (k < j)) → j ≡ k
      go (inl h) = absurd (no_repeat s none k hk.is_contour (record { earlier = j; is_earlier = h; same = same }))
      go (inr (inl e)) = e
      go (inr (inr h)) =
          absurd (no_repeat s none j hj.is_contour (record { earlier = k; is_earlier = h; same = sym same }))

  -- each id of a pair is some contour's
  known : (id : ℕ) → (((k : ℕ) → Has s id k → ⊥) → ⊥) → Has s id (seat (position_of s id))
  known id some = go (position_of s id) refl
    where
      go : (f : Found) → position_of s id ≡ f → Has s id (seat (position_of s id))
      go (Some j) e = subst (λ (f : Found). Has s id (seat f)) (sym e) (looked_up id j e)
      go None e = absurd (some (λ k h. not_there id k e h))

  module _ (unique : No (Row9 s)) (named : No (Row10 s)) where
    no_unnamed : (q : ℕ) → q < pairs_of s → Unnamed s q → ⊥
    no_unnamed = nowhere (unnamed s) (pairs_of s) (Unnamed s) (λ q h. is_unnamed q) (λ q h. unnamed_is q) named

    pub before_has : (q : ℕ) → q < pairs_of s → Has s (before_id_of s q) (before_of s q)
    before_has q h = known (before_id_of s q) (λ none. no_unnamed q h (Unnamed.first none))

    pub after_has : (q : ℕ) → q < pairs_of s → Has s (after_id_of s q) (after_of s q)
    after_has q h = known (after_id_of s q) (λ none. no_unnamed q h (Unnamed.second none))

    other_tag_lem : (q : ℕ) → q < pairs_of s → other_tag s q ≡ true → OtherTag s q
    other_tag_lem q h e =
        go (or_cases (not (eqb (tag_of s (before_of s q)) (before_tag_of s q)))
        (not (eqb (tag_of s (after_of s q)) (after_tag_of s q))) e)
      where
        go : (not (eqb (tag_of s (before_of s q)) (before_tag_of s q)) ≡ true) ⊎
            (not (eqb (tag_of s (after_of s q)) (after_tag_of s q)) ≡ true) → OtherTag s q
        go (inl t) =
            OtherTag.first (before_of s q) (before_has q h)
            (λ z. (not_iff_not {b = eqb (tag_of s (before_of s q)) (before_tag_of s q)}).0 t (eq-eqb _ _ z))
        go (inr t) =
            OtherTag.second (after_of s q) (after_has q h)
            (λ z. (not_iff_not {b = eqb (tag_of s (after_of s q)) (after_tag_of s q)}).0 t (eq-eqb _ _ z))

    tag_other : (q : ℕ) → q < pairs_of s → OtherTag s q → other_tag s q ≡ true
    tag_other q h (OtherTag.first k has d) =
        or_inl (not (eqb (tag_of s (before_of s q)) (before_tag_of s q))) _
        ((not_iff_not {b = eqb (tag_of s (before_of s q)) (before_tag_of s q)}).1
        (λ t. d (ap (tag_of s) (same_contour unique (before_id_of s q) k (before_of s q) has (before_has q h))
        ∙ eqb-true _ _ t)))
    tag_other q h (OtherTag.second k has d) =
        or_inr (not (eqb (tag_of s (before_of s q)) (before_tag_of s q))) _
        ((not_iff_not {b = eqb (tag_of s (after_of s q)) (after_tag_of s q)}).1
        (λ t. d (ap (tag_of s) (same_contour unique (after_id_of s q) k (after_of s q) has (after_has q h))
        ∙ eqb-true _ _ t)))

    pub exact11 : Exact (tag_fault s) (Row11 s)
    unfolding tag_fault
    exact11 = lowest_exact (other_tag s) (pairs_of s) (OtherTag s) other_tag_lem tag_other

    pub no_other_tag : No (Row11 s) → (q : ℕ) → q < pairs_of s → OtherTag s q → ⊥
    no_other_tag = nowhere (other_tag s) (pairs_of s) (OtherTag s) other_tag_lem tag_other
