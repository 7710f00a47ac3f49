-- What a tour's question is answered, by what the card's check and the sizes of the two rooms say. Assumes nothing.
use Rattle.std.specs.Prelude.{Err, Ok}
use mathlib.Core.Path.{◌≡◌, refl, sym, ap, ◌∙◌, subst}
use mathlib.Core.Bool.{Bool, true, false}
use mathlib.Core.List.{List, [], ◌∷◌}
use Prim.Native.Nat.{ℕ, ◌*◌}
use native.Mathlib.Omega.{arith}
use borrow.Author.Tests.{lt-ltb, le-ltb, ltb-true, ltb-false}
use lib.Dec.{ltb}
use lib.Ieee.{Float}
use lib.ListN.{length}
use Rattle.answer.specs.declared.Refusal.{Refusal}
use Rattle.answer.specs.Answer.{Check}
use Rattle.answer.specs.Stage.{first_refusal}
use Rattle.answer.specs.Lowest.{refuse_if}
use Rattle.fields.specs.Layout.{contours_of}
use Rattle.card.specs.Verdict.{check_of}
use Rattle.card_laws.proofs.Verdicts.{exactly}
use Rattle.solve.specs.declared.Outcome.{Outcome}
use Rattle.instance.specs.Search.{count_on}
use Rattle.tour.specs.Search.{outcome_on}
use Rattle.tour.specs.Tour.{Left, room_check, tour_check, tour_check_within, toured, toured_unless, tour_of, tour_within}
use Rattle.demands.specs.Demand1.{small_room, small_table, GivenWith, by_card, thirteen, Nothing, Asked}

module _ (s room : List ℕ) (table : List Float) where
  -- the check by its three parts: the card's, and whether each room is too small
  parts : Check → Bool → Bool → Check
  parts c a b =
      first_refusal (c ∷ first_refusal (refuse_if a 13 (contours_of s) ∷ refuse_if b 13 (count_on s * count_on s) ∷ []) ∷ [])

  abbrev small : Bool
  small = ltb (length room) (contours_of s)

  abbrev short : Bool
  short = ltb (length table) (count_on s * count_on s)

  abbrev told : Check
  told = tour_check s (length room) (length table)

  by_parts : told ≡ parts (check_of s) small short
  unfolding parts tour_check_within room_check first_refusal
  by_parts = refl

  refused_by : (c : Check) (a b : Bool) → check_of s ≡ c → small ≡ a → short ≡ b → (r : Refusal)
      → parts c a b ≡ Err r → GivenWith s room table r.number r.place
  unfolding parts first_refusal
  refused_by (Err q) a b ec ea eb r h = by_card ((exactly s).refused_only r (ec ∙ h))
  refused_by (Ok _) true b ec ea eb r h =
      let e : record { number = 13; place = contours_of s } ≡ r = cc in
      subst (λ (z : Refusal). GivenWith s room table z.number z.place) e
      (thirteen ((exactly s).fine_only ec) (small_room (ltb-true (length room) (contours_of s) ea)))
  refused_by (Ok _) false true ec ea eb r h =
      let e : record { number = 13; place = count_on s * count_on s } ≡ r = cc in
      subst (λ (z : Refusal). GivenWith s room table z.number z.place) e
      (thirteen ((exactly s).fine_only ec) (small_table (ltb-false (length room) (contours_of s) ea)
      (ltb-true (length table) (count_on s * count_on s) eb)))
  refused_by (Ok _) false false ec ea eb r h = let z : ◌≡◌ {A = ℕ} 0 1 = cc in absurd (omega arith)

  given_told : (number place : ℕ) → GivenWith s room table number place
      → told ≡ Err (record { number = number; place = place })
  unfolding parts first_refusal
  given_told number place (by_card g) =
      by_parts ∙ ap (λ (c : Check). parts c small short)
      ((exactly s).refused-if (record { number = number; place = place }) g)
  given_told number place (thirteen sound (small_room h)) =
      by_parts ∙ rw ((exactly s).fine_if sound, lt-ltb (length room) (contours_of s) h)
  given_told number place (thirteen sound (small_table g h)) =
      by_parts ∙ rw (
        (exactly s).fine_if sound,
        le-ltb (length room) (contours_of s) g,
        lt-ltb (length table)
            (count_on s * count_on s) h,
      )

  fine_by : (c : Check) (a b : Bool) → check_of s ≡ c → small ≡ a → short ≡ b → parts c a b ≡ Ok tt
      → Nothing s room table
  unfolding parts first_refusal
  fine_by (Err q) a b ec ea eb h = let z : ◌≡◌ {A = ℕ} 0 1 = cc in absurd (omega arith)
  fine_by (Ok _) true b ec ea eb h = let z : ◌≡◌ {A = ℕ} 0 1 = cc in absurd (omega arith)
  fine_by (Ok _) false true ec ea eb h = let z : ◌≡◌ {A = ℕ} 0 1 = cc in absurd (omega arith)
  fine_by (Ok _) false false ec ea eb h = record {
    sound = (exactly s).fine_only ec;
    room_enough = ltb-false (length room) (contours_of s) ea;
    table_enough = ltb-false (length table) (count_on s * count_on s) eb;
  }

  nothing_told : Nothing s room table → told ≡ Ok tt
  unfolding parts first_refusal
  nothing_told w =
      by_parts ∙ rw (
        (exactly s).fine_if w.sound,
        le-ltb (length room) (contours_of s) w.room_enough,
        le-ltb
            (length table) (count_on s * count_on s) w.table_enough,
      )

  -- ---- the answer follows the check

  abbrev whole : Check → Left
  whole c = toured_unless c (toured s room table) room table

  is_whole : tour_of s room table ≡ whole told
  unfolding tour_within
  is_whole = refl

  answer_refused : (c : Check) (r : Refusal) → (whole c).answer ≡ Err r → c ≡ Err r
  answer_refused (Ok _) r h = let z : ◌≡◌ {A = ℕ} 0 1 = cc in absurd (omega arith)
  answer_refused (Err q) r h = let e : q ≡ r = cc in ap Err e

  answer_done : (o : Outcome) (c : Check) → (whole c).answer ≡ Ok o → c ≡ Ok tt
  answer_done o (Ok _) h = refl
  answer_done o (Err q) h = let z : ◌≡◌ {A = ℕ} 0 1 = cc in absurd (omega arith)

  refused-told : (r : Refusal) → (tour_of s room table).answer ≡ Err r → told ≡ Err r
  refused-told r h = answer_refused told r (ap (λ (l : Left). l.answer) (sym is_whole) ∙ h)

  kept : (r : Refusal) → (tour_of s room table).answer ≡ Err r → tour_of s room table ≡ whole (Err r)
  kept r h = is_whole ∙ ap whole (refused-told r h)

  -- where the answer is a tour, nothing was refused
  pub toured-if : (o : Outcome) → (tour_of s room table).answer ≡ Ok o → told ≡ Ok tt
  toured-if o h = answer_done o told (ap (λ (l : Left). l.answer) (sym is_whole) ∙ h)

  -- and where nothing is refused, the rooms hold what they should
  pub done_fine : told ≡ Ok tt → tour_of s room table ≡ toured s room table
  done_fine h = is_whole ∙ ap whole h

  -- where the check is fine, no number is given
  pub fine_nothing : told ≡ Ok tt → Nothing s room table
  fine_nothing h = fine_by (check_of s) small short refl refl refl (sym by_parts ∙ h)

  pub asked : Asked s room table
  asked = record {
    refused = λ r. (
      (λ h. refused_by (check_of s) small short refl refl refl r (sym by_parts ∙ refused-told r h)),
      (λ g. ap (λ (l : Left). l.answer) (is_whole ∙ ap whole (given_told r.number r.place g))),
    );
    done = (
      (λ h. fine_nothing (toured-if (outcome_on s) h)),
      (λ w. ap (λ (l : Left). l.answer) (done_fine (nothing_told w))),
    );
    room_kept = λ r h. ap (λ (l : Left). l.room) (kept r h);
    table_kept = λ r h. ap (λ (l : Left). l.table) (kept r h);
  }
