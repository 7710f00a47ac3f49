-- Each step of a fine card's start takes the first of the nearest candidates that are ready, and the steps make up the
-- start. Assumes nothing.
use Rattle.std.specs.Prelude.{Ok}
use mathlib.Core.Bool.{Bool, true, false, not, cond, true≢false, or-true, ◌&&◌, ◌||◌}
use mathlib.Core.List.{List, [], ◌∷◌, ◌++◌}
use mathlib.Core.Logic.{◌⊎◌, inl, inr}
use mathlib.Core.Path.{◌≡◌, refl, sym, ap, ◌∙◌, subst}
use Prim.Native.Nat.{ℕ, zero, suc, ◌+◌, ◌-◌, ◌*◌, ◌≤◌, ◌<◌}
use native.Mathlib.Nat.{zero-add, add-zero, add-suc, suc-add}
use native.Mathlib.Omega.{arith}
use borrow.Author.Tests.{eqb-true, eqb-false, eq-eqb, ne_eqb, le-leb}
use lib.Dec.{eqb, lit≤}
use lib.Ieee.{Float, nan, inf, fin, of_bits, of_fields, odd}
use lib.ListN.{length, get_or, length-append}
use Rattle.answer.specs.declared.Point.{Point}
use Rattle.points.specs.Distance.{distance_of}
use Rattle.points.proofs.SizeLaws.{Plus, Near, distance_plus}
use Rattle.candidates.proofs.SizeLaws.{outmost}
use Rattle.closure.specs.Pairs.{paired}
use Rattle.closure.proofs.PairLaws.{same_or}
use Rattle.closure.proofs.PathLaws.{every_is, every-at}
use Rattle.fields.specs.Layout.{contours_of}
use Rattle.card.specs.Names.{pairs_on}
use Rattle.card.specs.Verdict.{check_of}
use Rattle.card_laws.specs.Table.{No, Row9, Row10, Past10, Precedes}
use Rattle.card_laws.proofs.LinkLaws.{listed_precedes, precedes_listed}
use Rattle.card_laws.proofs.Verdicts.{exactly}
use Rattle.card_laws.proofs.Facts.{accepted}
use Rattle.table.specs.Evaluate.{home_at, distance_at}
use Rattle.table.specs.Each.{each}
use Rattle.table.proofs.DistanceLaws.{same_contour, homes_at}
use Rattle.table.proofs.EachLaws.{each_keeps}
use Rattle.start.specs.Nearest.{Ground, Way, last_of, is_in, reach_of, clears, is_open, chosen, visit, step, set_out, walked}
use Rattle.start.specs.Nearest.{nearest_within}
use Rattle.start.proofs.ChoiceLaws.{chosen_fair}
use Rattle.start.proofs.StepLaws.{last_at}
use Rattle.instance.proofs.OwnerLaws.{gathered_grows, first-at}
use Rattle.instance.specs.Search.{home_on, candidates_on, count_on, owners_on, homes_on, table_on, chart_on}
use Rattle.tour.specs.Search.{start_on}
use Rattle.demands.specs.Demand2.{ground_on, way_on, reach_on, Visited, Free, Looks, Ready, Takes, Starts}
use Rattle.tour_laws.specs.Visits.{AllBelow}
use Rattle.tour_laws.proofs.BelowLaws.{below_at, step_below}
use Rattle.demands.proofs.ChosenLaws.{Real, Open, chosen_least, chosen-first}
use Rattle.tour_laws.proofs.GatherLaws.{firsts_below, ends-gathered, candidate_near}
use Rattle.tour_laws.proofs.RouteLaws.{stop_of, leg_is}
use Rattle.tour_laws.proofs.TourLaws.{home_near, start_long}

-- ---- what a step looks at

last_of_lem : (front : List ℕ) (b : ℕ) → last_of (front ++ (b ∷ [])) ≡ b
unfolding last_of
last_of_lem [] b = refl
last_of_lem (c ∷ []) b = refl
last_of_lem (c ∷ (d ∷ more)) b = last_of_lem (d ∷ more) b

-- a number in a list stands somewhere in it
record Somewhere (k : ℕ) (l : List ℕ) : Type 0 where
  at : ℕ
  within : at < length l
  is_there : get_or l at 0 ≡ k

in_somewhere : (k : ℕ) (l : List ℕ) → is_in k l ≡ true → Somewhere k l
unfolding is_in
in_somewhere k [] e = absurd (true≢false (sym e))
in_somewhere k (x ∷ l) e = go (eqb x k) refl (in_somewhere k l) e
  where
    go : (b : Bool) → eqb x k ≡ b → (is_in k l ≡ true → Somewhere k l) → (b || is_in k l) ≡ true → Somewhere k (x ∷ l)
    go true f later g = record { at = 0; within = omega arith; is_there = eqb-true x k f }
    go false f later g =
        let w = later g in
        record { at = suc w.at; within = omega (arith, w.within); is_there = w.is_there }

somewhere_in : (k : ℕ) (l : List ℕ) (at : ℕ) → at < length l → get_or l at 0 ≡ k → is_in k l ≡ true
unfolding is_in
somewhere_in k [] at h e = absurd (omega arith)
somewhere_in k (x ∷ l) zero h e = rw (eq-eqb x k e)
somewhere_in k (x ∷ l) (suc at) h e = rw (somewhere_in k l at (omega arith) e) (or-true (eqb x k))

and_left : (a b : Bool) → (a && b) ≡ true → a ≡ true
and_left true b e = refl
and_left false b e = absurd (true≢false (sym e))

and_right : (a b : Bool) → (a && b) ≡ true → b ≡ true
and_right true b e = e
and_right false b e = absurd (true≢false (sym e))

module _ (s : List ℕ) (w : Way) where
  reach_by : (a : ℕ) (l : List ℕ) → Float
  reach_by a l =
      cond (eqb (length l) 0) (home_at (homes_on s) a) (distance_at (table_on s) (count_on s) (last_of l) a)

  reach_last : (front : List ℕ) (b a : ℕ) → reach_by a (front ++ (b ∷ [])) ≡ distance_at (table_on s) (count_on s) b a
  unfolding reach_by
  reach_last front b a =
      let long = length-append front (b ∷ []) in
      let some : eqb (length (front ++ (b ∷ []))) 0 ≡ false =
      ne_eqb (length (front ++ (b ∷ []))) 0 (λ e. omega arith) in
      rw (some, last_of_lem front b)

  to_visited : (k : ℕ) → is_in k w.visited ≡ true → Visited w k
  to_visited k e =
      let found = in_somewhere k w.visited e in
      record { step = found.at; made = found.within; is_there = found.is_there }

  from_visited : (k : ℕ) → Visited w k → is_in k w.visited ≡ true
  from_visited k v = somewhere_in k w.visited v.step v.made v.is_there

  -- a contour is open exactly if it is free, once ids are unique and every pair's ids are known
  module _ (unique : No (Row9 s)) (named : No (Row10 s)) (k : ℕ) where
    open_free : is_open (ground_on s) w k ≡ true → Free s w k
    unfolding chart_on is_open
    open_free e = record {
      not_yet = λ v. absurd (not-both (is_in k w.visited) (from_visited k v) (and_left _ _ e));
      cleared = λ i b.
          to_visited i (clear (eqb k k) _ (eq-eqb k k refl)
          (every-at (clears w k) (paired (pairs_on s)) i k (and_right (not (is_in k w.visited)) _ e)
          (precedes_listed s unique named i k b)));
    }
      where
        not-both : (b : Bool) → b ≡ true → not b ≡ true → ⊥
        not-both true p q = true≢false (sym q)
        not-both false p q = true≢false (sym p)

        clear : (b c : Bool) → b ≡ true → (not b || c) ≡ true → c ≡ true
        clear true c p q = q
        clear false c p q = absurd (true≢false (sym p))

    free_open : Free s w k → is_open (ground_on s) w k ≡ true
    unfolding chart_on is_open
    free_open free =
        rw (unvisited (is_in k w.visited) refl) (every_is (clears w k) (paired (pairs_on s)) (λ i j t.
        clear i j (listed_precedes s unique named i j t) (eqb j k) refl))
      where
        unvisited : (b : Bool) → is_in k w.visited ≡ b → is_in k w.visited ≡ false
        unvisited true e = absurd (free.not_yet (to_visited k e))
        unvisited false e = e

        clear : (i j : ℕ) → Precedes s i j → (b : Bool) → eqb j k ≡ b → (not b || is_in i w.visited) ≡ true
        clear i j p true e = from_visited i (free.cleared i (subst (Precedes s i) (eqb-true j k e) p))
        clear i j p false e = refl

  looks : check_of s ≡ Ok tt → Looks s w
  unfolding chart_on reach_of reach_by
  looks fine = let past : Past10 s = ((exactly s).fine_only fine).0.0 in record {
    from_home = λ a e. ap (reach_by a) e;
    from_last = λ front b a e. ap (reach_by a) e ∙ reach_last front b a;
    open_so = λ k. (open_free past.0.1 past.1 k, free_open past.0.1 past.1 k);
  }

-- ---- the steps

-- a loop's last step
each_last : {S : Type 0} (f : ℕ → S → S) (k a : ℕ) (s : S) → each f (suc k) a s ≡ f (a + k) (each f k a s)
unfolding each
each_last f zero a s = rw add-zero
each_last f (suc k) a s = each_last f k (suc a) (f a s) ∙ rw (add-suc a k, ← suc-add a k)

plus_real : (k : ℕ) (x : Float) → Plus k x → Real x
plus_real k nan p = p
plus_real k (inf s) p = p
plus_real k (fin s m e) p = p.0

real_between : (a b : Point) → Near outmost a → Near outmost b → Real (distance_of a b)
real_between a b na nb = plus_real (outmost + 5) (distance_of a b) (distance_plus outmost a b (lit≤ tt) na nb)

-- a step puts one more candidate to the tour, or leaves all as it was
step_grows : (g : Ground) (n i : ℕ) (w : Way) → length (step g n i w).tour ≤ suc (length w.tour)
unfolding step visit
step_grows g n i w =
    let choice = chosen g w n in
    go choice.found choice.contour choice.candidate
  where
    go : (b : Bool) (k a : ℕ) → length (cond b
        (record { tour = w.tour ++ (a ∷ []); visited = w.visited ++ (k ∷ []) }) w).tour ≤ suc (length w.tour)
    go true k a = let e = length-append w.tour (a ∷ []) in omega arith
    go false k a = omega arith

module _ (s : List ℕ) (fine : check_of s ≡ Ok tt) where
  abbrev g : Ground
  g = ground_on s

  way_next : (p : ℕ) → way_on s (suc p) ≡ step g (contours_of s) p (way_on s p)
  way_next p =
      each_last (step g (contours_of s)) p 0 set_out ∙ ap (λ (i : ℕ). step g (contours_of s) i (way_on s p)) (zero-add p)

  whole : start_on s ≡ (way_on s (contours_of s)).tour
  unfolding nearest_within walked
  whole = rw (le-leb (contours_of s) _ (accepted s fine).few_contours)

  -- ---- after p steps the tour has p candidates

  grows : (p : ℕ) → length (way_on s (suc p)).tour ≤ suc (length (way_on s p).tour)
  grows p = rw (way_next p) (step_grows g (contours_of s) p (way_on s p))

  at_most : (p : ℕ) → length (way_on s p).tour ≤ p
  unfolding each
  at_most zero = omega arith
  at_most (suc p) = let a = at_most p in let b = grows p in omega arith

  no_faster : (k p : ℕ) → length (way_on s (p + k)).tour ≤ length (way_on s p).tour + k
  no_faster zero p = rw (add-zero p) (omega arith)
  no_faster (suc k) p = rw (add-suc p k) (let a = no_faster k p in let b = grows (p + k) in omega arith)

  exactly_so : (p : ℕ) → p ≤ contours_of s → length (way_on s p).tour ≡ p
  exactly_so p h =
      let e : p + (contours_of s - p) ≡ contours_of s = omega arith in
      let a = no_faster (contours_of s - p) p in
      let b : length (way_on s (p + (contours_of s - p))).tour ≡ contours_of s =
      ap (λ (q : ℕ). length (way_on s q).tour) e ∙ ap length (sym whole) ∙ start_long s fine in
      let c = at_most p in
      omega arith

  -- ---- the distances are real

  below : (p : ℕ) → AllBelow (count_on s) (way_on s p).tour
  unfolding AllBelow chart_on
  below p = each_keeps (λ w. AllBelow (count_on s) w.tour) (step g (contours_of s)) p 0
      (λ i l h w. step_below g (contours_of s) (count_on s) i w (firsts_below s (contours_of s))) set_out tt

  home_real : (b : ℕ) → b < count_on s → Real (get_or (homes_on s) b nan)
  home_real b h =
      rw (homes_at (candidates_on s) (home_on s) b h)
      (real_between (home_on s) (stop_of (candidates_on s) b) (home_near s fine) (candidate_near s fine b h))

  table_real : (a b : ℕ) → a < count_on s → b < count_on s → Real (get_or (table_on s) (a * count_on s + b) nan)
  unfolding of_bits of_fields odd
  table_real a b ha hb = go (same_or (get_or (owners_on s) a 0) (get_or (owners_on s) b 0))
    where
      go : (get_or (owners_on s) a 0 ≡ get_or (owners_on s) b 0) ⊎ (get_or (owners_on s) a 0 ≡ get_or (owners_on s) b 0 → ⊥)
          → Real (get_or (table_on s) (a * count_on s + b) nan)
      go (inl e) = rw (same_contour (candidates_on s) (owners_on s) a b ha hb e) refl
      go (inr d) =
          rw (leg_is (candidates_on s) (owners_on s) (ends-gathered s (contours_of s)) a b ha hb d)
          (real_between (stop_of (candidates_on s) a) (stop_of (candidates_on s) b) (candidate_near s fine a ha)
          (candidate_near s fine b hb))

  reach_real : (w : Way) → AllBelow (count_on s) w.tour → (b : ℕ) → b < count_on s → Real (reach_on s w b)
  unfolding reach_of chart_on
  reach_real w h b l = go (eqb (length w.tour) 0) refl
    where
      go : (c : Bool) → eqb (length w.tour) 0 ≡ c
          → Real (cond c (get_or (homes_on s) b nan) (get_or (table_on s) (last_of w.tour * count_on s + b) nan))
      go true e = home_real b l
      go false e =
          let some = eqb-false (length w.tour) 0 e in
          let last : last_of w.tour < count_on s =
          rw (last_at w.tour) (below_at (count_on s) w.tour (length w.tour - 1) h (omega arith)) in
          table_real (last_of w.tour) b last l

  rises : (k : ℕ) → k < contours_of s → get_or g.first k 0 ≤ get_or g.first (suc k) 0
  unfolding chart_on
  rises k h =
      rw (first-at s (contours_of s) k (omega arith), first-at s (contours_of s) (suc k) (omega arith))
      (gathered_grows s (suc k) k (omega arith))

  -- ---- a step

  opened : (w : Way) (b : ℕ) → Ready s w b → Open g w (contours_of s) b
  unfolding chart_on
  opened w b r =
      record {
        contour = r.contour;
        below = r.is_contour;
        is_open_lem = r.is_open_lem;
        among = record { from = r.from; to = r.to };
      }

  reals : (w : Way) → AllBelow (count_on s) w.tour → (b : ℕ) → Open g w (contours_of s) b → Real (reach_on s w b)
  unfolding chart_on
  reals w h b o =
      reach_real w h b (let l = firsts_below s (contours_of s) (suc o.contour) in omega (arith, o.among.to))

  -- what a step takes, if it finds something
  takes : (i : ℕ) (w : Way) → AllBelow (count_on s) w.tour
      → let choice = chosen g w (contours_of s) in choice.found ≡ true
      → Takes s w (step g (contours_of s) i w) choice.candidate
  unfolding step visit chart_on
  takes i w h e =
      let fair = chosen_fair g w (contours_of s) e in
      record {
        ready = record {
          contour = _;
          is_contour = fair.within;
          is_open_lem = fair.«open»;
          from = fair.candidate.from;
          to = fair.candidate.to;
        };
        least = λ b r. chosen_least g w (contours_of s) rises (reals w h) e b (opened w b r);
        first = λ b r l. chosen-first g w (contours_of s) rises (reals w h) e b (opened w b r) l;
        put = rw e;
        marked = rw e;
      }

  -- a step that finds nothing leaves the tour as it was
  idle : (i : ℕ) (w : Way) → let choice = chosen g w (contours_of s) in choice.found ≡ false
      → (step g (contours_of s) i w).tour ≡ w.tour
  unfolding step visit chart_on
  idle i w e = rw e

  steps : (p : ℕ) → p < contours_of s → (a : ℕ) × Takes s (way_on s p) (way_on s (suc p)) a
  steps p h = go _ refl
    where
      go : (b : Bool) → (chosen g (way_on s p) (contours_of s)).found ≡ b
          → (a : ℕ) × Takes s (way_on s p) (way_on s (suc p)) a
      go true e =
          let a = (chosen g (way_on s p) (contours_of s)).candidate in
          (a, subst (λ (v : Way). Takes s (way_on s p) v a) (sym (way_next p)) (takes p (way_on s p) (below p) e))
      go false e =
          let same : length (way_on s (suc p)).tour ≡ length (way_on s p).tour =
          ap (λ (v : Way). length v.tour) (way_next p) ∙ ap length (idle p (way_on s p) e) in
          let here = exactly_so p (omega arith) in
          let there = exactly_so (suc p) h in
          absurd (omega arith)

  pub starts : Starts s
  unfolding each
  starts = record { sets_out = refl; looks = λ w. looks s w fine; steps = steps; whole = whole }
