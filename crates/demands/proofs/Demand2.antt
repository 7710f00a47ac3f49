-- Demand 2 holds. Assumes nothing.
use Rattle.std.specs.Prelude.{Ok}
use mathlib.Core.Path.{◌≡◌, refl, sym, ap, ◌∙◌, subst}
use mathlib.Core.Logic.{◌⊎◌, inl, inr}
use mathlib.Core.Bool.{Bool, true, false, cond, and-false}
use mathlib.Core.List.{List, [], ◌∷◌, ◌++◌}
use Prim.Native.Nat.{ℕ, zero, suc, ◌+◌, ◌-◌, ◌≤◌, ◌<◌}
use native.Mathlib.Nat.{sub-zero, min-eq_left}
use native.Mathlib.Omega.{arith}
use borrow.Author.Tests.{lt-ltb, le-leb, lt-leb, eq-eqb, ne_eqb}
use lib.Dec.{ltb}
use lib.Ieee.{Float}
use lib.ListN.{length, get_or, set, take, drop, length-append, get_or-append}
use lib.Seq.{take_at, get_or-append-add}
use Rattle.root.proofs.IeeeLaws.{claim as ieee}
use Rattle.points.specs.Distance.{squares, distance_sq_of, distance_of}
use Rattle.answer.specs.declared.Point.{Point}
use Rattle.candidates.specs.declared.Candidate.{Candidate}
use Rattle.candidates.specs.Generate.{candidates_of}
use Rattle.candidates.proofs.Moved.{claim as candidates-moved}
use Rattle.grid.proofs.Words.{claim as words}
use Rattle.candidates.proofs.CountLaws.{each_closed}
use Rattle.closure.specs.Limits.{contour_limit}
use Rattle.closure.proofs.PairLaws.{same_or}
use Rattle.keep.proofs.OrderLaws.{keeps_exactly}
use Rattle.fields.specs.Layout.{contours_of, per_contour_of, passes_of, asks_grid, vertex_count_of, vertex_offset}
use Rattle.fields.specs.Values.{point_at}
use Rattle.fields.proofs.AskingLaws.{asks_by}
use Rattle.card_laws.specs.Card.{tabulated}
use Rattle.card.specs.Names.{pairs_on}
use Rattle.card.specs.Verdict.{check_of}
use Rattle.card_laws.proofs.Facts.{accepted}
use Rattle.card_laws.proofs.JoinedLaws.{joined}
use Rattle.card_laws.proofs.OrderLaws.{by_positions, by_ids}
use Rattle.card_laws.proofs.Verdicts.{exactly}
use Rattle.table.specs.Distances.{absent, listed, chained}
use Rattle.table.specs.Evaluate.{length_of}
use Rattle.table.specs.Walk.{legs, walk}
use Rattle.table.proofs.DistanceLaws.{distances-length, same_contour, other_contour, homes_length, homes_at}
use Rattle.improve.specs.Search.{Chart, State, length_in, shorter, judged, at_limit, tried, swap, reversed, flip}
use Rattle.improve.specs.Search.{contours, worthwhile, searched_within}
use Rattle.improve.specs.Kept.{accepted_of}
use Rattle.improve.specs.Trials.{other, all_made, others, turn_trials, turns_trials, row_trials, pass_trials, passes_trials}
use Rattle.improve.specs.Trials.{trials_of, Proper}
use Rattle.improve.proofs.States.{claim as states}
use Rattle.improve.proofs.ReversalLaws.{turned_parts}
use Rattle.improve.proofs.Trials.{claim as search-makes}
use Rattle.improve.proofs.Kept.{claim as kept}
use Rattle.instance.specs.Gather.{vertices_of, way_of, offers_of, gathered}
use Rattle.instance.proofs.FineLaws.{outline_whole}
use Rattle.instance.proofs.GatherLaws.{owners-length, firsts-length}
use Rattle.instance.proofs.OwnerLaws.{first-at, gathered_grows, owner_at}
use Rattle.solve.specs.declared.Outcome.{Outcome}
use Rattle.instance.specs.Search.{home_on, candidates_on, count_on, owners_on, chart_on}
use Rattle.tour.specs.Search.{start_on, end_within, tour_on, outcome_on}
use Rattle.tour.specs.Tour.{Left, tour_of}
use Rattle.demands.specs.Demand2.{own_on, Numbered, OnTheGrid, Sized, Rooted, Apart, Paired, long_on, Measured}
use Rattle.demands.specs.Demand2.{Terms}
use Rattle.demands.specs.Demand2.{Leaves, Trials, begun_on, search_on, Between, others_on, passes_on, all_on, Making}
use Rattle.demands.specs.Demand2.{Turns, Rows, Passes, Order, Keeping, AlwaysEven, Begins, Cut, Claim}
use Rattle.demands.proofs.AskedLaws.{toured-if, done_fine, fine_nothing}
use Rattle.demands.proofs.NextLaws.{starts}
use Rattle.tour_laws.proofs.GatherLaws.{ends_closed}
use Rattle.tour_laws.proofs.TourLaws.{start_long, tour_long, tour-legal}

-- ---- candidates

vertices_are : (s : List ℕ) (k v : ℕ) → vertices_of s k v ≡ tabulated (λ j. point_at s (vertex_offset k j)) v
unfolding vertices_of tabulated
vertices_are s k zero = refl
vertices_are s k (suc v) = ap (λ (l : List Point). l ++ (point_at s (vertex_offset k v) ∷ [])) (vertices_are s k v)

-- the candidates gathered up to n hold those of each contour before
gathered_own : (s : List ℕ) (n k j : ℕ) → k < n → j < length (offers_of s k)
    → get_or (gathered s n) (length (gathered s k) + j) absent ≡ get_or (offers_of s k) j absent
unfolding gathered
gathered_own s zero k j h l = absurd (omega arith)
gathered_own s (suc n) k j h l = go (same_or k n) (λ g. gathered_own s n k j g l)
  where
    go : (k ≡ n) ⊎ (k ≡ n → ⊥)
        → (k < n → get_or (gathered s n) (length (gathered s k) + j) absent ≡ get_or (offers_of s k) j absent)
        → get_or (gathered s n ++ offers_of s n) (length (gathered s k) + j) absent ≡ get_or (offers_of s k) j absent
    go (inl e) earlier =
        ap (λ (i : ℕ). get_or (gathered s n ++ offers_of s n) (length (gathered s i) + j) absent) e
        ∙ get_or-append-add (gathered s n) (offers_of s n) j absent
        ∙ ap (λ (i : ℕ). get_or (offers_of s i) j absent) (sym e)
    go (inr d) earlier =
        let more = gathered_grows s n (suc k) (omega arith) in
        let next = length-append (gathered s k) (offers_of s k) in
        get_or-append (gathered s n) (offers_of s n) absent (length (gathered s k) + j) (omega arith)
        ∙ earlier (omega arith)

module _ (s : List ℕ) (fine : check_of s ≡ Ok tt) where
  own_is : (k : ℕ) → k < contours_of s → offers_of s k ≡ own_on s k
  unfolding offers_of
  own_is k h =
      ap (λ (ps : List Point). candidates_of (asks_grid s) (way_of s k) ps (per_contour_of s))
      (outline_whole s fine k h ∙ vertices_are s k (vertex_count_of s k))

  numbered : Numbered s
  unfolding gathered
  numbered = record {
    first = first-at s (contours_of s) 0 (omega arith);
    next = λ k h.
        first-at s (contours_of s) (suc k) (omega arith)
        ∙ length-append (gathered s k) (offers_of s k)
        ∙ rw (first-at s (contours_of s) k (omega arith), own_is k h);
    all = sym (first-at s (contours_of s) (contours_of s) (omega arith));
    own = λ k j h l.
        let room : j < length (offers_of s k) = rw (own_is k h) l in
        rw (first-at s (contours_of s) k (omega arith))
        (gathered_own s (contours_of s) k j h room ∙ ap (λ (cs : List Candidate). get_or cs j absent) (own_is k h));
    owner = λ k j h l.
        let room : j < length (offers_of s k) = rw (own_is k h) l in
        let next = length-append (gathered s k) (offers_of s k) in
        rw (first-at s (contours_of s) k (omega arith))
        (owner_at s (contours_of s) k (length (gathered s k) + j) h (omega arith) (omega arith));
    closed = λ k j h l. ends_closed (own_on s k) (each_closed _ _ _ _) j;
  }

on_the_grid : (s : List ℕ) → OnTheGrid s
on_the_grid s = record { asks = asks_by s; which = candidates-moved; how = words }

sized : (s : List ℕ) → Sized s
sized s = record {
  owners = owners-length s (contours_of s);
  firsts = firsts-length s (contours_of s);
  homes = homes_length (candidates_on s) (home_on s);
  table = distances-length (candidates_on s) (owners_on s);
  row_by_row = λ a b. refl;
}

rooted : Rooted
unfolding distance_of distance_sq_of squares
rooted = record { distance = λ a b. refl; root = ieee }

apart : (s : List ℕ) (a b : ℕ) → a < count_on s → b < count_on s → Apart s a b
apart s a b ha hb = record {
  same = same_contour (candidates_on s) (owners_on s) a b ha hb;
  other = other_contour (candidates_on s) (owners_on s) a b ha hb;
}

-- ---- pairs

pairs : (s : List ℕ) → check_of s ≡ Ok tt → Paired s
unfolding chart_on
pairs s fine = record { read = refl; all = (_, joined s fine); equal_ids = (accepted s fine).ids_differ }

-- ---- trials

legs_more : {A : Type 0} (leg : A → ℕ → ℕ → A) (sum : A) (at : ℕ) (front : List ℕ) (a b : ℕ)
    → legs leg sum at (front ++ (a ∷ b ∷ [])) ≡ leg (legs leg sum at (front ++ (a ∷ []))) a b
unfolding legs
legs_more leg sum at [] a b = refl
legs_more leg sum at (c ∷ front) a b = legs_more leg (leg sum at c) c front a b

walk_more : {A : Type 0} (nothing : A) (reach : ℕ → A) (leg : A → ℕ → ℕ → A) (front : List ℕ) (a b : ℕ)
    → walk nothing reach leg (front ++ (a ∷ b ∷ [])) ≡ leg (walk nothing reach leg (front ++ (a ∷ []))) a b
unfolding walk legs
walk_more nothing reach leg [] a b = refl
walk_more nothing reach leg (c ∷ front) a b = legs_more leg (reach c) c front a b

measured : (s : List ℕ) → Measured s
unfolding chart_on length_of walk legs
measured s = record {
  nowhere = refl;
  from_home = λ a. refl;
  one-leg = walk_more _ _ _;
}

terms : (s : List ℕ) → check_of s ≡ Ok tt → Terms s
unfolding chart_on shorter
terms s fine =
    let sound = (exactly s).fine_only fine in
    record {
      is_shorter_lem = λ new current. refl;
      is_legal_lem = λ tour once.
          (let exact = keeps_exactly (contours_of s) (contours (owners_on s) tour) once (pairs_on s) in
          let order = contours (owners_on s) tour in (
            (λ e. by_ids s sound.0.0.0.1 sound.0.0.1 order (exact.0 e)),
            (λ l. exact.1 (by_positions s sound.0.0.0.1 sound.0.0.1 order l)),
          ));
      is_reversed = λ i j front middle back. turned_parts front middle back (suc i) (suc j);
    }

-- what a trial leaves, field by field
leaves : (v after : State) (tour : List ℕ) (cost : Float) (better : Bool)
    → after ≡ record { tour = tour; cost = cost; better = better; moves = suc v.moves; cut = v.cut }
    → Leaves v after tour cost better
leaves v after tour cost better e = record {
  tour_is = ap (λ (u : State). u.tour) e;
  cost_is = ap (λ (u : State). u.cost) e;
  better_is = ap (λ (u : State). u.better) e;
  moves_is = ap (λ (u : State). u.moves) e;
  cut_is = ap (λ (u : State). u.cut) e;
}

trials : (s : List ℕ) (v : State) → Trials s v
unfolding swap flip
trials s v = record {
  other_taken = λ p a e. leaves v _ _ _ _ (ap (judge (set v.tour p a)) e ∙ states.accepted _ _ v);
  other_left = λ p a e. leaves v _ _ _ _ (ap (judge (set v.tour p a)) e ∙ states.rejected _ _ v);
  reversal-taken = λ i j e l.
      leaves v _ _ _ _ (ap (judge (reversed i j v.tour)) (rw (e, l)) ∙ states.accepted _ _ v);
  reversal-longer = λ i j e. leaves v _ _ _ _ (ap (judge (reversed i j v.tour)) (rw e) ∙ states.rejected _ _ v);
  reversal_illegal = λ i j l.
      leaves v _ _ _ _ (ap (judge (reversed i j v.tour))
      (rw l (and-false (shorter (long_on s (reversed i j v.tour)) v.cost))) ∙ states.rejected _ _ v);
}
  where
    judge : List ℕ → Bool → State
    judge new accepts = judged accepts new (long_on s new) v

between : (s : List ℕ) → Between s
between s = record {
  begins = states.begins (chart_on s) (start_on s);
  pass_begins = states.anew;
  limit_ends = states.ends;
}

-- ---- the order of the trials

making : (s : List ℕ) (v : State) → Making s v
unfolding all_made
making s v = record { none = refl; an_other = λ p a more. refl; a_stretch = λ i j more. refl }

module _ (p held a to : ℕ) where
  one-candidate : a < to → (a ≡ held → ⊥) → others_on p held a to ≡ other p a ∷ others_on p held (suc a) to
  unfolding others
  one-candidate h d =
      let left : to - a ≡ suc (to - suc a) = omega arith in
      rw (left, ne_eqb a held d)

  candidate-held : a < to → a ≡ held → others_on p held a to ≡ others_on p held (suc a) to
  unfolding others
  candidate-held h e =
      let left : to - a ≡ suc (to - suc a) = omega arith in
      rw (left, eq-eqb a held e)

  no_candidate_lem : to ≤ a → others_on p held a to ≡ []
  unfolding others
  no_candidate_lem h =
      let left : to - a ≡ 0 = omega arith in
      rw left

turns : (s : List ℕ) → Turns s
unfolding chart_on turn_trials turns_trials
turns s = record {
  turn = λ p v. refl;
  candidate = one-candidate;
  but_held = λ p a to h. candidate-held p a a to h refl;
  no_candidate_lem = no_candidate_lem;
  next-turn = λ p v h. (
      let left : contours_of s - p ≡ suc (contours_of s - suc p) = omega arith in
      rw left);
  no_turn = λ p v h. (
      let left : contours_of s - p ≡ 0 = omega arith in
      rw left);
}

rows : (s : List ℕ) → Rows s
unfolding listed chained row_trials
rows s = record {
  reversal = λ i j h. (
      let left : contours_of s - j ≡ suc (contours_of s - suc j) = omega arith in
      rw left);
  no_reversal = λ i j h. (
      let left : contours_of s - j ≡ 0 = omega arith in
      rw left);
  next_row = λ i h. (
      let left : contours_of s - 1 - i ≡ suc (contours_of s - 1 - suc i) = omega arith in
      rw left);
  no_row = λ i h. (
      let left : contours_of s - 1 - i ≡ 0 = omega arith in
      rw left);
}

no_other : (chart : Chart) (n k : ℕ) (v : State) → (k ≡ 0) ⊎ (v.better ≡ false) → passes_trials chart n k v ≡ []
unfolding passes_trials
no_other chart n k v (inl e) = rw e
no_other chart n zero v (inr e) = refl
no_other chart n (suc k) v (inr e) = rw e

not-worthwhile : (most n : ℕ) → (most ≡ 0) ⊎ (n < 3) → worthwhile most n ≡ false
not-worthwhile most n (inl e) = rw e
not-worthwhile most n (inr h) = rw (lt-leb 3 n h) (and-false (ltb 0 most))

module _ (s : List ℕ) (fine : check_of s ≡ Ok tt) where
  whole : (most : ℕ) → 3 ≤ contours_of s → trials_of (chart_on s) most (start_on s) ≡ passes_on s most (begun_on s)
  unfolding trials_of passes_trials
  whole zero h = refl
  whole (suc k) h =
      let fits : worthwhile (suc k) (length (start_on s)) ≡ true = rw (
        start_long s fine,
        lt-ltb 0 (suc k) (omega arith),
        le-leb 3 (contours_of s) h,
        le-leb (contours_of s) contour_limit (accepted s fine).few_contours,
      ) in
      let long = passes_trials (chart_on s) (length (start_on s)) (suc k) (begun_on s) in
      ap (λ (b : Bool). cond b long []) fits
      ∙ ap (λ (n : ℕ). passes_trials (chart_on s) n (suc k) (begun_on s)) (start_long s fine)

  few : contours_of s < 3 → all_on s ≡ []
  unfolding trials_of
  few h = rw (not-worthwhile (passes_of s) (length (start_on s)) (inr (rw (start_long s fine) h)))

  passes : Passes s
  unfolding pass_trials passes_trials
  passes = record {
    pass = λ v. rw (sub-zero (contours_of s), sub-zero (contours_of s - 1));
    another = λ k v b. rw b;
    no_other = no_other (chart_on s) (contours_of s);
    search = whole (passes_of s);
    few = few;
  }

order : (s : List ℕ) → check_of s ≡ Ok tt → Order s
order s fine = record { making = making s; turns = turns s; rows = rows s; passes = passes s fine }

-- ---- what a turn keeps, and the length to beat

keeping : (s : List ℕ) (p : ℕ) (v : State) → Keeping s p v
unfolding accepted_of
keeping s p v = record {
  none = refl;
  accepted = λ a more e. rw e;
  rejected = λ a more e. rw e;
  last_accepted = λ tries front a e. kept.0.last_accepted (chart_on s) p tries front a v e;
  none_accepted = λ tries e. kept.0.none_accepted (chart_on s) p tries v e;
}

even : (s : List ℕ) → AlwaysEven s
even s = record {
  after_trials = λ k. kept.1.after_trials (chart_on s) (take k (all_on s)) (begun_on s) refl;
  in_the_end = λ M. kept.1.in_the_end (chart_on s) (passes_of s) M (start_on s);
}

-- ---- the search makes them, and the limit

not-at_limit : (M m : ℕ) → (M ≡ 0) ⊎ (m < M) → at_limit M m ≡ false
unfolding at_limit
not-at_limit M m (inl e) = rw e
not-at_limit M m (inr h) = rw (lt-leb M m h) (and-false (ltb 0 M))

begins : (M : ℕ) (trial : State → State) (v : State) → Begins M trial v
unfolding tried at_limit
begins M trial v = record {
  made = λ c w. rw (c, not-at_limit M v.moves w);
  ended = λ c h l. rw (c, lt-ltb 0 M h, le-leb M v.moves l);
  over = λ c. rw c;
}

stays : (s : List ℕ) (M : ℕ) → worthwhile (passes_of s) (length (start_on s)) ≡ false → search_on s M ≡ begun_on s
unfolding searched_within
stays s M e = rw e

limit : (s : List ℕ) → check_of s ≡ Ok tt → Cut s
limit s fine =
    let makes = search-makes (chart_on s) (passes_of s) (start_on s) in
    let all = makes.all_counted in
    record {
      begins = begins;
      made = makes.all;
      counted = all;
      unlimited = makes.never_ended;
      first_made = makes.first;
      first_counted = makes.first_counted;
      enough = λ M h. makes.enough M (rw (← all) h);
      cut = λ M h l.
          (let less : M < length (all_on s) = rw (← all) l in
          (makes.first_counted M h ∙ min-eq_left {n = M} {m = length (all_on s)} (omega arith), makes.ended M h less));
      idle = λ M w. (
          let e = stays s M (not-worthwhile (passes_of s) (length (start_on s)) (rw (start_long s fine) w)) in
          (ap (λ (v : State). v.tour) e, ap (λ (v : State). v.moves) e));
      proper = subst (λ (n : ℕ). Proper (chart_on s) n (begun_on s) (all_on s)) (start_long s fine) makes.proper;
    }

-- ---- the answer

pub claim : Claim
unfolding end_within chart_on
claim s room table told h =
    let clear = toured-if s room table told h in
    let fine = (exactly s).fine_if (fine_nothing s room table clear).sound in
    let all = done_fine s room table clear in
    let long = tour_long s fine in
    let e : outcome_on s ≡ told =
    (let d : Ok (outcome_on s) ≡ Ok told = sym (ap (λ (l : Left). l.answer) all) ∙ h in cc) in
    let front : take (contours_of s) (tour_of s room table).room ≡ tour_on s =
    ap (λ (l : Left). take (contours_of s) l.room) all
    ∙ take_at (tour_on s) (drop (length (tour_on s)) room) (contours_of s) long in
    record {
      numbered = numbered s fine;
      on_the_grid = on_the_grid s;
      sized = sized s;
      rooted = rooted;
      from_home = homes_at (candidates_on s) (home_on s);
      apart = apart s;
      pairs = pairs s fine;
      starts = starts s fine;
      measured = measured s;
      terms = terms s fine;
      trials = trials s;
      between = between s;
      order = order s fine;
      keeping = keeping s;
      even = even s;
      limit = limit s fine;
      told_so = record {
        tour = ap (λ (l : Left). l.room) all ∙ ap (λ (k : ℕ). tour_on s ++ drop k room) long;
        legal_so = tour-legal s fine;
        distances = ap (λ (l : Left). l.table) all;
        moves = ap (λ (o : Outcome). o.moves) (sym e);
        rapid = ap (λ (o : Outcome). o.length) (sym e) ∙ ap (length_in (chart_on s)) (sym front);
      };
    }
