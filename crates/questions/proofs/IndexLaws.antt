-- Candidates by number, and numbers by candidate, as the code finds them. Assumes nothing.
use Rattle.std.specs.Prelude.{Err, Ok}
use mathlib.Core.Path.{◌≡◌, refl, sym, ap, ◌∙◌}
use mathlib.Core.List.{List, [], ◌∷◌}
use Prim.Native.Nat.{ℕ, ◌+◌, ◌-◌, ◌≤◌, ◌<◌}
use native.Mathlib.Omega.{arith}
use lib.Dec.{leb}
use lib.ListN.{get_or}
use lib.Seq.{get_or-take}
use borrow.Author.Tests.{le-leb, lt-leb}
use Rattle.answer.specs.Answer.{Answer, Check, Count, unless}
use Rattle.answer.specs.declared.Refusal.{Refusal}
use Rattle.answer.specs.Stage.{first_refusal}
use Rattle.answer.specs.Lowest.{refuse_if}
use Rattle.candidates.specs.declared.Candidate.{Candidate}
use Rattle.candidates.specs.Generate.{blank}
use Rattle.fields.specs.Layout.{contours_of}
use Rattle.card.specs.Verdict.{check_of}
use Rattle.card.proofs.GroupLaws.{last_stage}
use Rattle.instance.specs.declared.Instance.{Instance}
use Rattle.instance.specs.Room.{held_at, instance_of}
use Rattle.instance.specs.Search.{candidates_on, count_on, firsts_on}
use Rattle.instance.specs.Prepared.{HeldOn}
use Rattle.answer.proofs.RoomLaws.{any_default, padded-at}
use Rattle.instance.proofs.FineLaws.{instance_is}
use Rattle.instance.proofs.OwnerLaws.{gathered_grows, first-at}
use Rattle.questions.specs.declared.Local.{Local}
use Rattle.questions.specs.Index.{number_check, picked_of, place_in, place_on, located_of}
use Rattle.questions.specs.Index.{local_check, global_of}

module _ (s : List ℕ) (all : Instance) (held : HeldOn s all) where
  -- ---- a candidate

  module _ (a : ℕ) where
    pub no_such_candidate : all.count ≤ a
        → Err (record { number = 15; place = a })
        ≡ unless (refuse_if (leb (count_on s) a) 15 a) (get_or (candidates_on s) a blank)
    no_such_candidate h = let e = held.count in rw (le-leb (count_on s) a (omega arith))

    pub candidate_is : (d : Candidate) → a < all.count
        → Ok (get_or all.items a d)
        ≡ unless (refuse_if (leb (count_on s) a) 15 a) (get_or (candidates_on s) a blank)
    candidate_is d h =
        let e = held.count in
        let same : get_or all.items a d ≡ get_or (candidates_on s) a d =
        sym (get_or-take all.count all.items a d h)
        ∙ ap (λ (l : List Candidate). get_or l a d) held.items.front in
        rw (lt-leb (count_on s) a (omega arith), same)
        (ap Ok (any_default (candidates_on s) a d blank (omega arith)))

    pub no_such_number : all.count ≤ a → Err (record { number = 15; place = a })
        ≡ unless (refuse_if (leb (count_on s) a) 15 a) (place_on s a)
    no_such_number h = let e = held.count in rw (le-leb (count_on s) a (omega arith))

    pub place_is : (p : Local) → a < all.count → p ≡ place_on s a
        → Ok p ≡ unless (refuse_if (leb (count_on s) a) 15 a) (place_on s a)
    place_is p h e = let l = held.count in rw (e, lt-leb (count_on s) a (omega arith))

  -- ---- a number

  module _ (k j : ℕ) where
    pub no_such_contour : all.contours ≤ k
        → Err (record { number = 15; place = k }) ≡ unless (local_check s k j) (get_or (firsts_on s) k 0 + j)
    unfolding local_check first_refusal
    no_such_contour h = let e = held.contours in rw (le-leb (contours_of s) k (omega arith))

    module _ (h : k < all.contours) (from end : ℕ) (ef : from ≡ get_or all.first k 0)
        (ee : end ≡ get_or all.first (k + 1) 0) where
      below : k < contours_of s
      below = let e = held.contours in omega arith

      from_is : from ≡ get_or (firsts_on s) k 0
      from_is = ef ∙ sym (get_or-take (all.contours + 1) all.first k 0 (omega arith))
          ∙ ap (λ (l : List ℕ). get_or l k 0) held.first.front

      end_is : end ≡ get_or (firsts_on s) (k + 1) 0
      end_is = ee ∙ sym (get_or-take (all.contours + 1) all.first (k + 1) 0 (omega arith))
          ∙ ap (λ (l : List ℕ). get_or l (k + 1) 0) held.first.front

      pub rising : from ≤ end
      rising =
          let b = below in
          let f = from_is ∙ first-at s (contours_of s) k (omega arith) in
          let e = end_is ∙ first-at s (contours_of s) (k + 1) (omega arith) in
          let g = gathered_grows s (k + 1) k (omega arith) in
          omega arith

      pub no_such_place : end - from ≤ j
          → Err (record { number = 15; place = j })
          ≡ unless (local_check s k j) (get_or (firsts_on s) k 0 + j)
      unfolding local_check first_refusal
      no_such_place g = rw (lt-leb (contours_of s) k below, ← end_is, ← from_is, le-leb (end - from) j g)

      pub number_is : j < end - from → Ok (from + j) ≡ unless (local_check s k j) (get_or (firsts_on s) k 0 + j)
      unfolding local_check first_refusal
      number_is g = rw (lt-leb (contours_of s) k below, ← end_is, ← from_is, lt-leb (end - from) j g)

-- ---- where a candidate is

-- what was gathered of an accepted card says where its candidates are
pub place_on_lem : (s : List ℕ) → check_of s ≡ Ok tt → (all : Instance) → all ≡ instance_of s → (a : ℕ)
    → place_in all a ≡ place_on s a
unfolding held_at
place_on_lem s fine all is a = rw (is, instance_is s fine) (simp padded-at)

-- ---- the doors

module _ (s : List ℕ) (c : Check) (is : c ≡ check_of s) where
  pub candidate-refused : (a : ℕ) (r : Refusal) → c ≡ Err r → Err r ≡ picked_of s a
  unfolding picked_of number_check first_refusal
  candidate-refused a r e = rw (← is, e)

  pub candidate_fine : (a : ℕ) (p : Answer Candidate) → c ≡ Ok tt
      → p ≡ unless (refuse_if (leb (count_on s) a) 15 a) (get_or (candidates_on s) a blank) → p ≡ picked_of s a
  unfolding picked_of number_check first_refusal
  candidate_fine a p e f =
      let known = refuse_if (leb (count_on s) a) 15 a in
      let same : known ≡ number_check s a = rw (← is, e) (last_stage known known refl) in
      f ∙ ap (λ (x : Check). unless x (get_or (candidates_on s) a blank)) same

  pub place_refused : (a : ℕ) (r : Refusal) → c ≡ Err r → Err r ≡ located_of s a
  unfolding located_of number_check first_refusal
  place_refused a r e = rw (← is, e)

  pub place_fine : (a : ℕ) (l : Answer Local) → c ≡ Ok tt
      → l ≡ unless (refuse_if (leb (count_on s) a) 15 a) (place_on s a) → l ≡ located_of s a
  unfolding located_of number_check first_refusal
  place_fine a l e f =
      let known = refuse_if (leb (count_on s) a) 15 a in
      let same : known ≡ number_check s a = rw (← is, e) (last_stage known known refl) in
      f ∙ ap (λ (x : Check). unless x (place_on s a)) same

  pub global_refused : (k j : ℕ) (r : Refusal) → c ≡ Err r → Err r ≡ global_of s k j
  unfolding global_of first_refusal
  global_refused k j r e = rw (← is, e)

  pub global_fine : (k j : ℕ) (n : Count) → c ≡ Ok tt → n ≡ unless (local_check s k j) (get_or (firsts_on s) k 0 + j)
      → n ≡ global_of s k j
  unfolding global_of first_refusal
  global_fine k j n e f =
      let known = local_check s k j in
      let same : known ≡ first_refusal (check_of s ∷ known ∷ []) = rw (← is, e) (last_stage known known refl) in
      f ∙ ap (λ (x : Check). unless x (get_or (firsts_on s) k 0 + j)) same
