-- The start and the tour of a fine card: each contour once, each pair's first before its second, all of them candidates
-- of the card. Assumes nothing.
use Rattle.std.specs.Prelude.{Ok}
use mathlib.Core.Path.{◌≡◌, refl, sym, ◌∙◌}
use mathlib.Core.Bool.{true}
use mathlib.Core.List.{List, [], ◌∷◌}
use Prim.Native.Nat.{ℕ, zero, suc, ◌<◌}
use native.Mathlib.Omega.{arith}
use lib.Dec.{lit≤}
use lib.ListN.{length, get_or, length-map, length-append}
use Rattle.points.proofs.SizeLaws.{Near, near_more, good_near, distance_below}
use Rattle.candidates.proofs.SizeLaws.{outmost}
use Rattle.keep.specs.Legal.{EachOnce, Legal}
use Rattle.keep.proofs.OrderLaws.{keeps_legal, legal_keeps}
use Rattle.fields.specs.Layout.{contours_of, passes_of, move_limit_of}
use Rattle.card.specs.Verdict.{check_of}
use Rattle.card_laws.specs.Orders.{LegalOrder}
use Rattle.card_laws.proofs.Facts.{accepted}
use Rattle.card_laws.proofs.OrderLaws.{by_ids}
use Rattle.card_laws.proofs.OrderRows.{links}
use Rattle.card_laws.proofs.Verdicts.{exactly}
use Rattle.table.proofs.DistanceLaws.{homes_at}
use Rattle.start.proofs.ChoiceLaws.{InContour}
use Rattle.start.proofs.StartLaws.{Within, start_finishes, start_legal}
use Rattle.improve.specs.Search.{owner_of, contours, legal}
use Rattle.improve.proofs.TourLaws.{same_length, contours-kept, legal-kept}
use Rattle.instance.specs.Gather.{gathered, offers_of}
use Rattle.instance.proofs.FineLaws.{some_offers}
use Rattle.instance.proofs.OwnerLaws.{first-at, grouped}
use Rattle.solve.specs.Solve.{ground_in}
use Rattle.card.specs.Names.{pairs_on}
use Rattle.instance.specs.Search.{home_on, candidates_on, count_on, owners_on, firsts_on, chart_on}
use Rattle.tour.specs.Search.{start_on, end_within, tour_on}
use Rattle.tour_laws.specs.Visits.{AllBelow, Visits}
use Rattle.tour_laws.proofs.BelowLaws.{below_at, below_kept, start_below}
use Rattle.tour_laws.proofs.GatherLaws.{firsts_below, ends-gathered, candidate_near}
use Rattle.tour_laws.proofs.RouteLaws.{stop_of, Rides, leg_is}
use Rattle.tour_laws.proofs.ShuffleLaws.{shuffled_once}

-- the contour at a place of a tour
pub contour_at : (owner tour : List ℕ) (p : ℕ) → p < length tour
    → get_or (contours owner tour) p 0 ≡ get_or owner (get_or tour p 0) 0
unfolding contours
contour_at owner [] p h = absurd (omega arith)
contour_at owner (a ∷ tour) zero h = refl
contour_at owner (a ∷ tour) (suc p) h = contour_at owner tour p (omega arith)

contours_long : (owner tour : List ℕ) → length (contours owner tour) ≡ length tour
unfolding contours
contours_long owner tour = length-map tour (owner_of owner)

-- a tour that visits each contour once never goes on to another candidate of the same contour
pub rides : (s tour : List ℕ) → Visits s tour → Rides (candidates_on s) (owners_on s) tour
rides s tour v = record {
  within = λ p h. below_at (count_on s) tour p v.among h;
  onward = λ p h e. (
      let q : p ≡ suc p = v.each.once p (suc p) (omega (arith, v.long)) (omega (arith, v.long))
      (contour_at (owners_on s) tour p (omega arith) ∙ e ∙ sym (contour_at (owners_on s) tour (suc p) h)) in
      omega arith);
}

module _ (s : List ℕ) (fine : check_of s ≡ Ok tt) where
  -- ---- what the start asks for

  -- home lies near enough for every distance from it to be finite
  pub home_near : Near outmost (home_on s)
  home_near = near_more 20 outmost (home_on s) (lit≤ tt) (good_near (home_on s) (accepted s fine).home_near)

  among : (k a : ℕ) → InContour (firsts_on s) k a → a < count_on s
  among k a m = let l = firsts_below s (contours_of s) (suc k) in omega (arith, m.to)

  near : Within (ground_in (chart_on s)) (contours_of s)
  unfolding chart_on gathered
  near = record {
    some = λ k h.
        let more = length-append (gathered s k) (offers_of s k) in
        let some = some_offers s fine k h in
        rw (first-at s (contours_of s) k (omega arith), first-at s (contours_of s) (suc k) (omega arith)) (omega arith);
    home = λ k a h m.
        let l = among k a m in
        rw (homes_at (candidates_on s) (home_on s) a l)
        (distance_below outmost (home_on s) (stop_of (candidates_on s) a) (lit≤ tt) home_near (candidate_near s fine a l));
    apart = λ k j a b hk hj d m w.
        let here = among k a m in
        let there = among j b w in
        let x = grouped s (contours_of s) k a m.from m.to in
        let y = grouped s (contours_of s) j b w.from w.to in
        rw (leg_is (candidates_on s) (owners_on s) (ends-gathered s (contours_of s)) b a there here
        (λ e. d (sym x ∙ sym e ∙ y)))
        (distance_below outmost (stop_of (candidates_on s) b) (stop_of (candidates_on s) a) (lit≤ tt)
        (candidate_near s fine b there) (candidate_near s fine a here));
  }

  -- ---- the start

  -- the start comes to every contour
  pub start_long : length (start_on s) ≡ contours_of s
  unfolding chart_on
  start_long =
      start_finishes (ground_in (chart_on s)) (contours_of s) near (accepted s fine).acyclic
      (links s fine).all_contours (accepted s fine).few_contours

  start_order : Legal (contours_of s) (pairs_on s) (contours (owners_on s) (start_on s))
  unfolding chart_on contours
  start_order =
      start_legal (ground_in (chart_on s)) (contours_of s) near (accepted s fine).acyclic (links s fine).all_contours
      (accepted s fine).few_contours (owners_on s) (grouped s (contours_of s))

  start_among : AllBelow (count_on s) (start_on s)
  unfolding chart_on
  start_among = start_below (ground_in (chart_on s)) (contours_of s) (count_on s) (firsts_below s (contours_of s))

  -- the start visits each contour once
  pub start_visits : Visits s (start_on s)
  start_visits = record { long = start_long; among = start_among; each = start_order.each }

  -- ---- the tour

  -- as many entries as the card has contours
  pub tour_long : length (tour_on s) ≡ contours_of s
  unfolding end_within
  tour_long = same_length (chart_on s) (passes_of s) (move_limit_of s) (start_on s) ∙ start_long

  tour-each : EachOnce (contours_of s) (contours (owners_on s) (tour_on s))
  unfolding end_within chart_on
  tour-each =
      shuffled_once (contours_of s) (contours (owners_on s) (start_on s)) (contours (owners_on s) (tour_on s))
      start_order.each
      (contours_long (owners_on s) (tour_on s) ∙ tour_long)
      (contours-kept (chart_on s) (passes_of s) (move_limit_of s) (start_on s) (grouped s (contours_of s)))

  tour_keeps : legal (chart_on s) (tour_on s) ≡ true
  unfolding end_within chart_on
  tour_keeps =
      legal-kept (chart_on s) (passes_of s) (move_limit_of s) (start_on s) (grouped s (contours_of s))
      (legal_keeps (contours_of s) (contours (owners_on s) (start_on s)) start_order.each (pairs_on s) start_order)

  -- of each pair the first before the second
  pub tour-legal : LegalOrder s (contours (owners_on s) (tour_on s))
  unfolding chart_on
  tour-legal =
      let sound = (exactly s).fine_only fine in
      by_ids s sound.0.0.0.1 sound.0.0.1 (contours (owners_on s) (tour_on s))
      (keeps_legal (contours_of s) (contours (owners_on s) (tour_on s)) tour-each (pairs_on s) tour_keeps)

  -- all of them candidates of the card
  pub tour-among : AllBelow (count_on s) (tour_on s)
  unfolding end_within chart_on
  tour-among =
      below_kept (chart_on s) (passes_of s) (move_limit_of s) (count_on s) (start_on s)
      (firsts_below s (contours_of s)) start_among

  -- and so does the tour
  pub tour_visits : Visits s (tour_on s)
  tour_visits = record { long = tour_long; among = tour-among; each = tour-each }
