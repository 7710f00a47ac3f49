-- How large the place of a refusal can be: the card's own and 13's are the length at most, of which one more than the
-- longest card's is told if it is larger. Assumes nothing.
use Rattle.std.specs.Prelude.{Err, Ok}
use Rattle.std.proofs.Common.{◌≡◌, ℕ, ◌+◌, ◌*◌, ◌<◌, ◌≤◌, Bool, true, false, ltb, List, [], ◌∷◌, length, sym, refl, ap, ◌∙◌, inr, arith, lit<, ltb-false, ltb-true}
use lib.Ieee.{Float}
use Rattle.answer.specs.Answer.{Check}
use Rattle.answer.specs.declared.Refusal.{Refusal}
use Rattle.answer.specs.Stage.{first_refusal}
use Rattle.answer.specs.Lowest.{refuse_if}
use Rattle.closure.specs.Limits.{contour_limit, pair_limit}
use Rattle.fields.specs.Limits.{card_bytes}
use Rattle.fields.specs.Layout.{contours_of, pairs_of}
use Rattle.card.specs.Verdict.{check_of}
use Rattle.card_laws.specs.Table.{Given, one, two, three, four, five, three_later, six, seven, eight, nine, ten, eleven}
use Rattle.card_laws.specs.Table.{twelve, No, Row4, Past1, contours, pairs}
use Rattle.card_laws.proofs.Facts.{accepted}
use Rattle.card_laws.proofs.RowLaws.{no_bad_field}
use Rattle.card_laws.proofs.Verdicts.{exactly}
use Rattle.table.proofs.PlaceLaws.{square_small}
use Rattle.instance.proofs.FineLaws.{few_candidates}
use Rattle.instance.specs.Search.{count_on}
use Rattle.tour.specs.Tour.{Left, room_check, tour_check_within, toured, toured_unless, tour_of, tour_within}

not-above : (most n : ℕ) → (most < n → ⊥) → n ≤ most
not-above most n h = go (ltb most n) refl
  where
    go : (b : Bool) → ltb most n ≡ b → n ≤ most
    go true e = absurd (h (ltb-true most n e))
    go false e = ltb-false most n e

module _ (s : List ℕ) where
  -- what the rows say that were passed: of the length, of the contours and of the pairs
  few_bytes : Past1 s → length s ≤ card_bytes
  few_bytes past = not-above card_bytes (length s) (λ h. past _ (record { cause = inr (inr h); told = refl }))

  few_contours : No (Row4 s) → contours_of s ≤ contour_limit
  few_contours past = not-above contour_limit (contours_of s) (λ h. no_bad_field s past 1 (lit< tt) (contours h))

  few_pairs : No (Row4 s) → pairs_of s ≤ pair_limit
  few_pairs past = not-above pair_limit (pairs_of s) (λ h. no_bad_field s past 2 (lit< tt) (pairs h))

  -- the card's own refusals
  pub given_near : {number place : ℕ} → Given s number place → place ≤ card_bytes + 1
  given_near (one row) = omega (arith, row.told)
  given_near (two past row) = omega (arith, few_bytes past, row.within)
  given_near (three past row) = omega (arith, row.within)
  given_near (four past row) = omega (arith, row.within)
  given_near (five past row) = omega (arith, few_bytes past.0.0.0, row.told)
  given_near (three_later past row) = omega (arith, few_bytes past.0.0.0.0, row.within)
  given_near (six past row) = omega (arith, few_contours past.0.0.1, row.within)
  given_near (seven past row) = omega (arith, few_bytes past.0.0.0.0.0.0, row.within)
  given_near (eight past row) = omega (arith, few_contours past.0.0.0.0.1, row.within)
  given_near (nine past row) = omega (arith, few_contours past.0.0.0.0.0.1, row.within)
  given_near (ten past row) = omega (arith, few_pairs past.0.0.0.0.0.0.1, row.within)
  given_near (eleven past row) = omega (arith, few_pairs past.0.0.0.0.0.0.0.1, row.within)
  given_near (twelve past row) = omega (arith, few_contours past.0.0.0.0.0.0.0.0.1, row.within)

  pub check_near : (r : Refusal) → check_of s ≡ Err r → r.place ≤ card_bytes + 1
  check_near r e = given_near ((exactly s).refused_only r e)

  module _ (room : List ℕ) (table : List Float) where
    -- the tour's answer by what the card's check says, and by whether each room is too small
    unfoldable pub whole : Check → Bool → Bool → Left
    whole c a b =
        toured_unless (first_refusal (c
        ∷ first_refusal (refuse_if a 13 (contours_of s) ∷ refuse_if b 13 (count_on s * count_on s) ∷ []) ∷ []))
        (toured s room table) room table

    pub is_whole : tour_of s room table ≡ whole (check_of s) (ltb (length room) (contours_of s))
        (ltb (length table) (count_on s * count_on s))
    unfolding whole tour_within tour_check_within room_check
    is_whole = refl

    -- and 13
    near : (c : Check) (a b : Bool) → check_of s ≡ c → (r : Refusal) → (whole c a b).answer ≡ Err r
        → r.place ≤ card_bytes + 1
    unfolding whole first_refusal
    near (Err q) a b e r h = let f : q ≡ r = cc in check_near r (e ∙ ap Err f)
    near (Ok _) true b e r h =
        let f : record { number = 13; place = contours_of s } ≡ r = cc in
        let p : contours_of s ≡ r.place = ap (λ (z : Refusal). z.place) f in
        omega (arith, (accepted s e).few_contours)
    near (Ok _) false true e r h =
        let f : record { number = 13; place = count_on s * count_on s } ≡ r = cc in
        let p : count_on s * count_on s ≡ r.place = ap (λ (z : Refusal). z.place) f in
        omega (arith, square_small (count_on s) (few_candidates s e))
    near (Ok _) false false e r h = let z : ◌≡◌ {A = ℕ} 0 1 = cc in absurd (omega arith)

    pub tour_near : (r : Refusal) → (tour_of s room table).answer ≡ Err r → r.place ≤ card_bytes + 1
    tour_near r h =
        near (check_of s) (ltb (length room) (contours_of s)) (ltb (length table) (count_on s * count_on s)) refl r
        (ap (λ (l : Left). l.answer) (sym is_whole) ∙ h)
