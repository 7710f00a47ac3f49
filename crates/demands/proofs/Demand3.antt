-- Demand 3 holds. Assumes nothing.
use Rattle.std.specs.Prelude.{Ok}
use mathlib.Core.Path.{◌≡◌, refl, sym, ap, ◌∙◌, subst}
use mathlib.Core.Bool.{Bool, true, false, cond}
use mathlib.Core.List.{List}
use Prim.Native.Nat.{ℕ, suc, ◌+◌, ◌*◌, ◌^◌, ◌≤◌, ◌<◌}
use native.Mathlib.Nat.{mul_assoc, mul-le-mul_right}
use native.Mathlib.Omega.{arith}
use borrow.Author.Tests.{le-leb, lt-leb, leb-true}
use lib.Dec.{T, leb, lit≤}
use lib.Ieee.{le}
use lib.ListN.{length, get_or, take, drop}
use lib.Seq.{take_at}
use Rattle.closure.specs.Limits.{contour_limit}
use Rattle.fields.specs.Layout.{contours_of, passes_of, move_limit_of}
use Rattle.card.specs.Verdict.{check_of}
use Rattle.card_laws.proofs.Facts.{accepted}
use Rattle.card_laws.proofs.Verdicts.{exactly}
use Rattle.root.proofs.WholeLaws.{whole_le, whole_lt}
use Rattle.exact.specs.Length.{leg_root, lower_end, upper_end, step40}
use Rattle.exact.specs.Bound.{Enough}
use Rattle.exact.proofs.SumLaws.{enough_fewer, forty, eighty}
use Rattle.improve.specs.Search.{contours, length_in}
use Rattle.improve.proofs.LengthLaws.{never_longer}
use Rattle.solve.specs.declared.Outcome.{Outcome}
use Rattle.instance.specs.Search.{count_on, owners_on, chart_on}
use Rattle.instance.proofs.OwnerLaws.{first-at, owner_at, seat_of}
use Rattle.tour.specs.Search.{start_on, end_within, tour_on, outcome_on}
use Rattle.tour.specs.Tour.{Left, tour_of}
use Rattle.tour_laws.specs.Visits.{Visits}
use Rattle.tour_laws.proofs.BelowLaws.{below_at}
use Rattle.tour_laws.proofs.TourLaws.{contour_at, start_visits, tour_long, tour-legal, tour_visits}
use Rattle.demands.specs.Demand3.{OnGrid, legs_on, Interval, close_up_to, nearness, excess, Bounds, OneOf, Good}
use Rattle.demands.specs.Demand3.{GoodWhere, OutlinesOnGrid, Claim}
use Rattle.demands.proofs.StayLaws.{candidates_stay}
use Rattle.demands.proofs.AskedLaws.{toured-if, done_fine, fine_nothing}
use Rattle.demands.proofs.NearLaws.{home_fits, near_of, number_of, excess_of}

-- the bound is enough for as many legs as a card can have contours
enough : (n : ℕ) → n ≤ contour_limit → (a : ℕ) × Enough n a (nearness n)
enough n most = go (leb n close_up_to) refl
  where
    go : (b : Bool) → leb n close_up_to ≡ b → (a : ℕ) × Enough n a (cond b (2 ^ 12) (2 ^ 14))
    go true e = (6, enough_fewer n close_up_to 6 (2 ^ 12) (leb-true n close_up_to e) forty)
    go false e = (7, enough_fewer n contour_limit 7 (2 ^ 14) most eighty)

twice : (n : ℕ) → 2 * nearness n ≤ excess n
twice n = go (leb n close_up_to)
  where
    go : (b : Bool) → 2 * cond b (2 ^ 12) (2 ^ 14) ≤ cond b (2 ^ 13) (2 ^ 15)
    go true = lit≤ tt
    go false = lit≤ tt

near_to_40 : (n : ℕ) → n ≤ 40 → nearness n ≡ 2 ^ 12
near_to_40 n h = rw (le-leb n close_up_to (omega arith))

near_from_41 : (n : ℕ) → 41 ≤ n → nearness n ≡ 2 ^ 14
near_from_41 n h = rw (lt-leb n close_up_to (omega arith))

excess_to_40 : (n : ℕ) → n ≤ 40 → excess n ≡ 2 ^ 13
excess_to_40 n h = rw (le-leb n close_up_to (omega arith))

excess_from_41 : (n : ℕ) → 41 ≤ n → excess n ≡ 2 ^ 15
excess_from_41 n h = rw (lt-leb n close_up_to (omega arith))

bounds : Bounds
bounds = record {
  near_to_40 = near_to_40;
  near_from_41 = near_from_41;
  excess_to_40 = excess_to_40;
  excess_from_41 = excess_from_41;
}

-- twice the one bound is within the other, whatever the step
more : (u w b e g : ℕ) → 2 * b ≤ e → u ≤ w + 2 * (b * g) → u ≤ w + e * g
more u w b e g h l = let m : 2 * b * g ≤ e * g = mul-le-mul_right g h in let a = mul_assoc 2 b g in omega arith

-- every candidate is one of its contour's
own : (s : List ℕ) (a : ℕ) → a < count_on s → OneOf s (get_or (owners_on s) a 0) a
own s a h =
    let n = contours_of s in
    let seat = seat_of s n a h in
    let k = seat.0 in
    let below = seat.1.below in
    let from = seat.1.from in
    let to = seat.1.to in
    subst (λ (k : ℕ). OneOf s k a) (sym (owner_at s n k a below from to))
    (record {
      is_contour = below;
      is_candidate = h;
      from = rw (first-at s n k (omega arith)) from;
      to = rw (first-at s n (suc k) below) to;
    })

-- so is each entry of a tour that visits the card's contours
entry : (s tour : List ℕ) → Visits s tour → (p : ℕ) → p < contours_of s
    → OneOf s (get_or (contours (owners_on s) tour) p 0) (get_or tour p 0)
entry s tour v p h =
    let long = v.long in
    let inside : p < length tour = omega arith in
    subst (λ (k : ℕ). OneOf s k (get_or tour p 0)) (sym (contour_at (owners_on s) tour p inside))
    (own s (get_or tour p 0) (below_at (count_on s) tour p v.among inside))

module _ (s : List ℕ) (fine : check_of s ≡ Ok tt) (grid : OnGrid s) where
  abbrev bound : (a : ℕ) × Enough (contours_of s) a (nearness (contours_of s))
  bound = enough (contours_of s) (accepted s fine).few_contours

  no_longer : T (le (length_in (chart_on s) (tour_on s)) (length_in (chart_on s) (start_on s)))
  unfolding end_within
  no_longer =
      never_longer (chart_on s) (passes_of s) (move_limit_of s) (start_on s) (home_fits s grid)
      (number_of s grid bound.0 (nearness (contours_of s)) bound.1 (start_on s) (start_visits s fine))

  not-longer : upper_end (legs_on s (tour_on s)) * step40
      ≤ lower_end (legs_on s (start_on s)) * step40 + excess (contours_of s) * step40
  not-longer =
      more (upper_end (legs_on s (tour_on s)) * step40) (lower_end (legs_on s (start_on s)) * step40)
      (nearness (contours_of s)) (excess (contours_of s)) step40 (twice (contours_of s))
      (excess_of s grid bound.0 (nearness (contours_of s)) bound.1 (tour_on s) (start_on s) (tour_visits s fine)
      (start_visits s fine) no_longer)

  good : Good s (tour_on s) (outcome_on s)
  good = record {
    entries = tour_long s fine;
    candidates = entry s (tour_on s) (tour_visits s fine);
    legal = tour-legal s fine;
    near = near_of s grid bound.0 (nearness (contours_of s)) bound.1 (tour_on s) (tour_visits s fine);
    not-longer = not-longer;
  }

interval : Interval
unfolding leg_root lower_end upper_end
interval = record {
  fits = λ S. whole_le (S * 2 ^ 60);
  largest = λ S. whole_lt (S * 2 ^ 60);
  no_leg = refl;
  one_more = λ S legs. refl;
  upper = λ legs. refl;
}

holds : GoodWhere OnGrid
holds s room table told grid h =
    let clear = toured-if s room table told h in
    let fine = (exactly s).fine_if (fine_nothing s room table clear).sound in
    let all = done_fine s room table clear in
    let e : outcome_on s ≡ told =
    (let d : Ok (outcome_on s) ≡ Ok told = sym (ap (λ (l : Left). l.answer) all) ∙ h in cc) in
    let front : take (contours_of s) (tour_of s room table).room ≡ tour_on s =
    ap (λ (l : Left). take (contours_of s) l.room) all
    ∙ take_at (tour_on s) (drop (length (tour_on s)) room) (contours_of s) (tour_long s fine) in
    subst (λ (o : Outcome). Good s (take (contours_of s) (tour_of s room table).room) o) e
    (subst (λ (tour : List ℕ). Good s tour (outcome_on s)) (sym front) (good s fine grid))

-- a card that asks for the grid with home and vertices on it is one whose home and candidates are on it
asked_holds : GoodWhere OutlinesOnGrid
asked_holds s room table told on h = holds s room table told (candidates_stay s on) h

pub claim : Claim
claim = (interval, bounds, holds, candidates_stay, asked_holds)
