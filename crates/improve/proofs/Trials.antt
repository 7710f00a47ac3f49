-- A search makes the trials of its list in order, and with a limit the first of them. Assumes nothing.
use mathlib.Core.Bool.{Bool, true, false, not, cond, true≢false, ◌&&◌}
use mathlib.Core.List.{List, [], ◌∷◌, map, ◌++◌, append_assoc}
use mathlib.Core.Logic.{◌⊎◌, inl, inr}
use mathlib.Core.Path.{◌≡◌, refl, sym, ap, subst, ◌∙◌}
use Prim.Native.Nat.{ℕ, zero, suc, ◌+◌, ◌-◌, ◌≤◌, ◌<◌}
use native.Mathlib.Omega.{arith}
use borrow.Author.Tests.{lt-ltb, le-leb, lt-leb, eqb-false}
use lib.Dec.{eqb}
use lib.ListN.{length, get_or, take, length-take}
use lib.Seq.{take_all}
use Rattle.closure.proofs.PairLaws.{lt-or}
use Rattle.table.specs.Distances.{listed, chained}
use Rattle.table.specs.Each.{each}
use Rattle.improve.specs.Search.{Chart, State, owner_of, judged, at_limit, stopped, tried, swap, alternative, turn}
use Rattle.improve.specs.Search.{flip, reversal, row, fresh, pass, repeated, begun, worthwhile, searched}
use Rattle.improve.specs.Search.{searched_within}
use Rattle.improve.specs.Trials.{Trial, other, stretch, made, all_made, others, turn_trials, turns_trials, row_trials}
use Rattle.improve.specs.Trials.{pass_trials, passes_trials, trials_of, Another, Proper, no_more, one-turn}
use Rattle.improve.specs.Trials.{one-reversal, Level, Claim}
use Rattle.improve.proofs.PassLaws.{repeat_cut}
use Rattle.improve.proofs.TrialLaws.{tried_idle, tried-stops, tried_goes}

-- ---- trials that a limit may end

-- each trial of a list, as far as the limit lets it begin
unfoldable tried_all : Chart → ℕ → List Trial → State → State
tried_all chart limit [] s = s
tried_all chart limit (trial ∷ more) s = tried_all chart limit more (tried limit (made chart trial) s)

module _ (chart : Chart) where
  made_cut : (trial : Trial) (s : State) → (made chart trial s).cut ≡ s.cut
  unfolding swap flip judged
  made_cut (other p a) s = refl
  made_cut (stretch i j) s = refl

  made_moves : (trial : Trial) (s : State) → (made chart trial s).moves ≡ suc s.moves
  unfolding swap flip judged
  made_moves (other p a) s = refl
  made_moves (stretch i j) s = refl

  all_append : (a b : List Trial) (s : State) → all_made chart (a ++ b) s ≡ all_made chart b (all_made chart a s)
  unfolding all_made
  all_append [] b s = refl
  all_append (x ∷ a) b s = all_append a b (made chart x s)

  all_cut : (l : List Trial) (s : State) → (all_made chart l s).cut ≡ s.cut
  unfolding all_made
  all_cut [] s = refl
  all_cut (x ∷ l) s = all_cut l (made chart x s) ∙ made_cut x s

  all_moves : (l : List Trial) (s : State) → (all_made chart l s).moves ≡ s.moves + length l
  unfolding all_made
  all_moves [] s = omega arith
  all_moves (x ∷ l) s =
      let e = all_moves l (made chart x s) in
      let f = made_moves x s in
      omega arith

  module _ (limit : ℕ) where
    tried-append : (a b : List Trial) (s : State)
        → tried_all chart limit (a ++ b) s ≡ tried_all chart limit b (tried_all chart limit a s)
    unfolding tried_all
    tried-append [] b s = refl
    tried-append (x ∷ a) b s = tried-append a b (tried limit (made chart x) s)

    all_idle : (l : List Trial) (s : State) → s.cut ≡ true → tried_all chart limit l s ≡ s
    unfolding tried_all
    all_idle [] s e = refl
    all_idle (x ∷ l) s e =
        ap (tried_all chart limit l) (tried_idle limit (made chart x) s e) ∙ all_idle l s e

    -- either the limit has ended the search, or all were made
    abbrev Either_way : List Trial → State → Type 0
    Either_way l s = ((tried_all chart limit l s).cut ≡ true) ⊎ (tried_all chart limit l s ≡ all_made chart l s)

    either_way : (l : List Trial) (s : State) → Either_way l s
    unfolding tried_all all_made
    either_way [] s = inr refl
    either_way (x ∷ l) s = go s.cut refl (at_limit limit s.moves) refl (either_way l (made chart x s))
      where
        go : (c : Bool) → s.cut ≡ c → (b : Bool) → at_limit limit s.moves ≡ b → Either_way l (made chart x s)
            → Either_way (x ∷ l) s
        go true e b f later = inl (ap (λ (v : State). v.cut) (all_idle (x ∷ l) s e) ∙ e)
        go false e true f later =
            let q : tried limit (made chart x) s ≡ stopped s = tried-stops limit (made chart x) s e f in
            inl (ap (λ (v : State). (tried_all chart limit l v).cut) q
            ∙ ap (λ (v : State). v.cut) (all_idle l (stopped s) refl))
        go false e false f later =
            subst (λ (v : State). ((tried_all chart limit l v).cut ≡ true)
            ⊎ (tried_all chart limit l v ≡ all_made chart l (made chart x s)))
            (sym (tried_goes limit (made chart x) s e f)) later

    -- trials that hang on where those before have led may look at the plain ones instead: if these were not all made,
    -- the search has ended
    led_on : (next : State → List Trial) (l : List Trial) (s : State)
        → tried_all chart limit (next (tried_all chart limit l s)) (tried_all chart limit l s)
        ≡ tried_all chart limit (l ++ next (all_made chart l s)) s
    led_on next l s = go (either_way l s) ∙ sym (tried-append l (next (all_made chart l s)) s)
      where
        go : Either_way l s
            → tried_all chart limit (next (tried_all chart limit l s)) (tried_all chart limit l s)
            ≡ tried_all chart limit (next (all_made chart l s)) (tried_all chart limit l s)
        go (inl e) = all_idle _ _ e ∙ sym (all_idle _ _ e)
        go (inr e) = ap (λ (v : State). tried_all chart limit (next v) (tried_all chart limit l s)) e

    -- ---- the loops of a search make their lists

    others-tried : (p held k a : ℕ) (s : State)
        → each (alternative chart limit p held) k a s ≡ tried_all chart limit (map (other p) (others held k a)) s
    unfolding each alternative others tried_all
    others-tried p held zero a s = refl
    others-tried p held (suc k) a s = go (eqb a held) (others-tried p held k (suc a))
      where
        go : (b : Bool)
            → ((v : State) → each (alternative chart limit p held) k (suc a) v
            ≡ tried_all chart limit (map (other p) (others held k (suc a))) v)
            → each (alternative chart limit p held) k (suc a) (cond b s (tried limit (swap chart p a) s))
            ≡ tried_all chart limit (map (other p)
            (cond b (others held k (suc a)) (a ∷ others held k (suc a)))) s
        go true later = later s
        go false later = later (tried limit (swap chart p a) s)

    turn-tried : (p : ℕ) (s : State) → turn chart limit p s ≡ tried_all chart limit (turn_trials chart p s) s
    unfolding turn turn_trials
    turn-tried p s =
        let held = get_or s.tour p 0 in
        others-tried p held _ _ s

    turns-tried : (k p : ℕ) (s : State)
        → each (turn chart limit) k p s ≡ tried_all chart limit (turns_trials chart k p s) s
    unfolding each turns_trials tried_all
    turns-tried zero p s = refl
    turns-tried (suc k) p s =
        turns-tried k (suc p) (turn chart limit p s)
        ∙ ap (λ (v : State). tried_all chart limit (turns_trials chart k (suc p) v) v) (turn-tried p s)
        ∙ led_on (turns_trials chart k (suc p)) (turn_trials chart p s) s

    stretches_tried : (i k j : ℕ) (s : State)
        → each (reversal chart limit i) k j s ≡ tried_all chart limit (listed (stretch i) k j) s
    unfolding each reversal listed tried_all
    stretches_tried i zero j s = refl
    stretches_tried i (suc k) j s = stretches_tried i k (suc j) (tried limit (flip chart i j) s)

    rows_tried : (n k i : ℕ) (s : State)
        → each (row chart limit n) k i s ≡ tried_all chart limit (chained (row_trials n) k i) s
    unfolding each row row_trials chained tried_all
    rows_tried n zero i s = refl
    rows_tried n (suc k) i s =
        rows_tried n k (suc i) (row chart limit n i s)
        ∙ ap (tried_all chart limit (chained (row_trials n) k (suc i))) (stretches_tried i (n - (i + 2)) (i + 2) s)
        ∙ sym (tried-append (row_trials n i) (chained (row_trials n) k (suc i)) s)

    pass-tried : (n : ℕ) (s : State)
        → pass chart limit n s ≡ tried_all chart limit (pass_trials chart n (fresh s)) (fresh s)
    unfolding pass pass_trials
    pass-tried n s =
        ap (each (row chart limit n) (n - 1) 0) (turns-tried n 0 (fresh s))
        ∙ rows_tried n (n - 1) 0 _
        ∙ sym (tried-append (turns_trials chart n 0 (fresh s)) (chained (row_trials n) (n - 1) 0) (fresh s))

  -- ---- what hangs on the flag `better` is nothing but whether a pass follows

  made-fresh : (trial : Trial) (s : State) → fresh (made chart trial s) ≡ fresh (made chart trial (fresh s))
  unfolding swap flip judged
  made-fresh (other p a) s = refl
  made-fresh (stretch i j) s = refl

  all_fresh : (l : List Trial) (u v : State) → fresh u ≡ fresh v → fresh (all_made chart l u) ≡ fresh (all_made chart l v)
  unfolding all_made
  all_fresh [] u v e = e
  all_fresh (x ∷ l) u v e =
      all_fresh l (made chart x u) (made chart x v)
      (made-fresh x u ∙ ap (λ (w : State). fresh (made chart x w)) e ∙ sym (made-fresh x v))

  tried-fresh : (limit : ℕ) (trial : Trial) (s : State)
      → fresh (tried limit (made chart trial) s) ≡ fresh (tried limit (made chart trial) (fresh s))
  unfolding tried
  tried-fresh limit trial s = go s.cut (at_limit limit s.moves)
    where
      go : (c b : Bool)
          → fresh (cond c s (cond b (stopped s) (made chart trial s)))
          ≡ fresh (cond c (fresh s) (cond b (stopped (fresh s)) (made chart trial (fresh s))))
      go true b = refl
      go false true = refl
      go false false = made-fresh trial s

  tries_fresh : (limit : ℕ) (l : List Trial) (u v : State) → fresh u ≡ fresh v
      → fresh (tried_all chart limit l u) ≡ fresh (tried_all chart limit l v)
  unfolding tried_all
  tries_fresh limit [] u v e = e
  tries_fresh limit (x ∷ l) u v e =
      tries_fresh limit l (tried limit (made chart x) u) (tried limit (made chart x) v)
      (tried-fresh limit x u ∙ ap (λ (w : State). fresh (tried limit (made chart x) w)) e ∙ sym (tried-fresh limit x v))

  passes-tried : (limit n k : ℕ) (s : State)
      → fresh (repeated chart limit n k s) ≡ fresh (tried_all chart limit (passes_trials chart n k s) s)
  unfolding repeated passes_trials tried_all
  passes-tried limit n zero s = refl
  passes-tried limit n (suc k) s = go s.better s.cut refl (passes-tried limit n k (pass chart limit n s))
    where
      now : List Trial
      now = pass_trials chart n (fresh s)

      all : List Trial
      all = now ++ passes_trials chart n k (all_made chart now (fresh s))

      go : (b c : Bool) → s.cut ≡ c
          → fresh (repeated chart limit n k (pass chart limit n s))
          ≡ fresh (tried_all chart limit (passes_trials chart n k (pass chart limit n s)) (pass chart limit n s))
          → fresh (cond (b && not c) (repeated chart limit n k (pass chart limit n s)) s)
          ≡ fresh (tried_all chart limit (cond b all []) s)
      go true true e later = ap fresh (sym (all_idle limit all s e))
      go true false e later =
          later
          ∙ ap (λ (v : State). fresh (tried_all chart limit (passes_trials chart n k v) v)) (pass-tried limit n s)
          ∙ ap fresh (led_on limit (passes_trials chart n k) now (fresh s))
          ∙ tries_fresh limit all (fresh s) s refl
      go false true e later = refl
      go false false e later = refl

  search_tried : (most limit : ℕ) (tour : List ℕ)
      → fresh (searched chart most limit tour)
      ≡ fresh (tried_all chart limit (trials_of chart most tour) (begun chart tour))
  unfolding searched_within trials_of tried_all
  search_tried most limit tour = go (worthwhile most (length tour))
    where
      go : (b : Bool)
          → fresh (cond b (repeated chart limit (length tour) most (begun chart tour)) (begun chart tour))
          ≡ fresh (tried_all chart limit
          (cond b (passes_trials chart (length tour) most (begun chart tour)) []) (begun chart tour))
      go true = passes-tried limit (length tour) most (begun chart tour)
      go false = refl

  -- ---- how many are made

  -- without a limit, all
  unlimited : (l : List Trial) (s : State) → s.cut ≡ false → tried_all chart 0 l s ≡ all_made chart l s
  unfolding tried_all all_made at_limit
  unlimited [] s e = refl
  unlimited (x ∷ l) s e =
      ap (tried_all chart 0 l) (tried_goes 0 (made chart x) s e refl)
      ∙ unlimited l (made chart x s) (made_cut x s ∙ e)

  -- with one, as many as it leaves room for; where there are more, it ends the search
  record Room (limit k : ℕ) (l : List Trial) (s : State) : Type 0 where
    enough : length l ≤ k → tried_all chart limit l s ≡ all_made chart l s
    short : k < length l → tried_all chart limit l s ≡ stopped (all_made chart (take k l) s)

  limited : (limit k : ℕ) (l : List Trial) (s : State) → s.cut ≡ false → 0 < limit → s.moves + k ≡ limit
      → Room limit k l s
  unfolding tried_all all_made at_limit
  limited limit k [] s e h g = record { enough = λ m. refl; short = λ m. absurd (omega arith) }
  limited limit zero (x ∷ l) s e h g = record {
    enough = λ m. absurd (omega arith);
    short = λ m.
        ap (tried_all chart limit l)
        (tried-stops limit (made chart x) s e (rw (lt-ltb 0 limit h) (le-leb limit s.moves (omega arith))))
        ∙ all_idle limit l (stopped s) refl;
  }
  limited limit (suc k) (x ∷ l) s e h g = go (limited limit k l (made chart x s) (made_cut x s ∙ e) h
      (let f = made_moves x s in omega arith))
    where
      goes : tried limit (made chart x) s ≡ made chart x s
      goes = tried_goes limit (made chart x) s e
          (rw (lt-ltb 0 limit h) (lt-leb limit s.moves (omega arith)))

      go : Room limit k l (made chart x s) → Room limit (suc k) (x ∷ l) s
      go r = record {
        enough = λ m. ap (tried_all chart limit l) goes ∙ r.enough (omega arith);
        short = λ m. ap (tried_all chart limit l) goes ∙ r.short (omega arith);
      }

  -- a search with a limit has been ended by it, or is the one without
  passes_same : (M n k : ℕ) (s : State)
      → ((repeated chart M n k s).cut ≡ true) ⊎ (repeated chart M n k s ≡ repeated chart 0 n k s)
  unfolding repeated
  passes_same M n zero s = inr refl
  passes_same M n (suc k) s = go s.better s.cut refl (passes_same M n k (pass chart M n s))
    where
      now : List Trial
      now = pass_trials chart n (fresh s)

      step : s.cut ≡ false → ((tried_all chart M now (fresh s)).cut ≡ true)
          ⊎ (tried_all chart M now (fresh s) ≡ all_made chart now (fresh s))
          → ((repeated chart M n k (pass chart M n s)).cut ≡ true)
          ⊎ (repeated chart M n k (pass chart M n s) ≡ repeated chart 0 n k (pass chart M n s))
          → ((repeated chart M n k (pass chart M n s)).cut ≡ true)
          ⊎ (repeated chart M n k (pass chart M n s) ≡ repeated chart 0 n k (pass chart 0 n s))
      step e (inl c) later =
          let q : (pass chart M n s).cut ≡ true = ap (λ (v : State). v.cut) (pass-tried M n s) ∙ c in
          inl (ap (λ (v : State). v.cut) (repeat_cut chart M n k (pass chart M n s) q) ∙ q)
      step e (inr a) (inl c) = inl c
      step e (inr a) (inr q) =
          let f : pass chart M n s ≡ pass chart 0 n s =
          pass-tried M n s ∙ a ∙ sym (unlimited now (fresh s) e) ∙ sym (pass-tried 0 n s) in
          inr (q ∙ ap (repeated chart 0 n k) f)

      go : (b c : Bool) → s.cut ≡ c
          → ((repeated chart M n k (pass chart M n s)).cut ≡ true)
          ⊎ (repeated chart M n k (pass chart M n s) ≡ repeated chart 0 n k (pass chart M n s))
          → ((cond (b && not c) (repeated chart M n k (pass chart M n s)) s).cut ≡ true)
          ⊎ (cond (b && not c) (repeated chart M n k (pass chart M n s)) s
          ≡ cond (b && not c) (repeated chart 0 n k (pass chart 0 n s)) s)
      go true true e later = inr refl
      go true false e later = step e (either_way M now (fresh s)) later
      go false true e later = inr refl
      go false false e later = inr refl

  search_same : (most M : ℕ) (tour : List ℕ)
      → ((searched chart most M tour).cut ≡ true) ⊎ (searched chart most M tour ≡ searched chart most 0 tour)
  unfolding searched_within
  search_same most M tour = go (worthwhile most (length tour))
    where
      go : (b : Bool)
          → ((cond b (repeated chart M (length tour) most (begun chart tour)) (begun chart tour)).cut ≡ true)
          ⊎ (cond b (repeated chart M (length tour) most (begun chart tour)) (begun chart tour)
          ≡ cond b (repeated chart 0 (length tour) most (begun chart tour)) (begun chart tour))
      go true = passes_same M (length tour) most (begun chart tour)
      go false = inr refl

  -- ---- each trial is proper

  proper_fresh : (n : ℕ) {l : List Trial} (u v : State) → fresh u ≡ fresh v → Proper chart n u l → Proper chart n v l
  unfolding turn_trials
  proper_fresh n u v e no_more = no_more
  proper_fresh n u v e (one-turn p held tries h q t o w) =
      one-turn p held tries h (q ∙ ap (λ (x : State). get_or x.tour p 0) e)
      (ap (λ (x : State). turn_trials chart p x) (sym e) ∙ t) o
      (proper_fresh n _ _ (all_fresh (map (other p) tries) u v e) w)
  proper_fresh n u v e (one-reversal i j h g w) =
      one-reversal i j h g
      (proper_fresh n _ _ (made-fresh (stretch i j) u ∙ ap (λ (x : State). fresh (made chart (stretch i j) x)) e
      ∙ sym (made-fresh (stretch i j) v)) w)

  others_differ : (held : ℕ) (k a : ℕ) → get_or chart.first (owner_of chart.owner held) 0 ≤ a
      → k ≤ get_or chart.first (suc (owner_of chart.owner held)) 0 - a
      → (i : ℕ) → i < length (others held k a) → Another chart held (get_or (others held k a) i 0)
  unfolding others
  others_differ held zero a h g i l = absurd (omega arith)
  others_differ held (suc k) a h g i l =
      go (eqb a held) refl (others_differ held k (suc a) (omega arith) (omega arith)) i l
    where
      go : (b : Bool) → eqb a held ≡ b
          → ((j : ℕ) → j < length (others held k (suc a)) → Another chart held (get_or (others held k (suc a)) j 0))
          → (j : ℕ) → j < length (cond b (others held k (suc a)) (a ∷ others held k (suc a)))
          → Another chart held (get_or (cond b (others held k (suc a)) (a ∷ others held k (suc a))) j 0)
      go true e later j m = later j m
      go false e later zero m =
          record { offers = record { from = h; to = omega arith }; differs = eqb-false a held e }
      go false e later (suc j) m = later j (omega arith)

  module _ (n : ℕ) where
    proper_turn : (p : ℕ) (s : State) (more : List Trial) → p < n
        → Proper chart n (all_made chart (turn_trials chart p s) s) more
        → Proper chart n s (turn_trials chart p s ++ more)
    unfolding turn_trials
    proper_turn p s more h w =
        let held = get_or s.tour p 0 in
        let k = owner_of chart.owner held in
        let from = get_or chart.first k 0 in
        let to = get_or chart.first (suc k) 0 in
        one-turn p held (others held (to - from) from) h refl refl
        (others_differ held (to - from) from (omega arith) (omega arith)) w

    proper_turns : (k p : ℕ) (s : State) (more : List Trial) → p + k ≤ n
        → Proper chart n (all_made chart (turns_trials chart k p s) s) more
        → Proper chart n s (turns_trials chart k p s ++ more)
    unfolding turns_trials all_made
    proper_turns zero p s more h w = w
    proper_turns (suc k) p s more h w =
        let now = turn_trials chart p s in
        let rest = turns_trials chart k (suc p) (all_made chart now s) in
        subst (Proper chart n s) (sym (append_assoc now rest more))
        (proper_turn p s (rest ++ more) (omega arith)
        (proper_turns k (suc p) (all_made chart now s) more (omega arith)
        (subst (λ (v : State). Proper chart n v more) (all_append now rest s) w)))

    proper_row : (i k j : ℕ) (s : State) (more : List Trial) → i + 2 ≤ j → k ≤ n - j
        → Proper chart n (all_made chart (listed (stretch i) k j) s) more
        → Proper chart n s (listed (stretch i) k j ++ more)
    unfolding listed all_made
    proper_row i zero j s more h g w = w
    proper_row i (suc k) j s more h g w =
        one-reversal i j h (omega arith) (proper_row i k (suc j) (flip chart i j s) more (omega arith) (omega arith) w)

    proper_rows : (k i : ℕ) (s : State) (more : List Trial)
        → Proper chart n (all_made chart (chained (row_trials n) k i) s) more
        → Proper chart n s (chained (row_trials n) k i ++ more)
    unfolding chained row_trials all_made
    proper_rows zero i s more w = w
    proper_rows (suc k) i s more w =
        let rest = chained (row_trials n) k (suc i) in
        subst (Proper chart n s) (sym (append_assoc (row_trials n i) rest more))
        (proper_row i (n - (i + 2)) (i + 2) s (rest ++ more) (omega arith) (omega arith)
        (proper_rows k (suc i) (all_made chart (row_trials n i) s) more
        (subst (λ (v : State). Proper chart n v more) (all_append (row_trials n i) rest s) w)))

    proper_pass : (s : State) (more : List Trial)
        → Proper chart n (all_made chart (pass_trials chart n s) s) more
        → Proper chart n s (pass_trials chart n s ++ more)
    unfolding pass_trials
    proper_pass s more w =
        let turns = turns_trials chart n 0 s in
        let rows = chained (row_trials n) (n - 1) 0 in
        subst (Proper chart n s) (sym (append_assoc turns rows more))
        (proper_turns n 0 s (rows ++ more) (omega arith)
        (proper_rows (n - 1) 0 (all_made chart turns s) more
        (subst (λ (v : State). Proper chart n v more) (all_append turns rows s) w)))

    proper_passes : (k : ℕ) (s : State) → Proper chart n s (passes_trials chart n k s)
    unfolding passes_trials
    proper_passes zero s = no_more
    proper_passes (suc k) s =
        let now = pass_trials chart n (fresh s) in
        go s.better
        (proper_fresh n (fresh s) s refl
        (proper_pass (fresh s) (passes_trials chart n k (all_made chart now (fresh s)))
        (proper_passes k (all_made chart now (fresh s)))))
      where
        go : {l : List Trial} (b : Bool) → Proper chart n s l → Proper chart n s (cond b l [])
        go true w = w
        go false w = no_more

-- ---- the search

-- all but the flag `better`
level : (u v : State) → fresh u ≡ fresh v → Level u v
level u v e = record {
  tour = ap (λ (s : State). s.tour) e;
  cost = ap (λ (s : State). s.cost) e;
  moves = ap (λ (s : State). s.moves) e;
}

module _ (chart : Chart) (most : ℕ) (tour : List ℕ) where
  abbrev trials : List Trial
  trials = trials_of chart most tour

  abbrev begin : State
  begin = begun chart tour

  proper : Proper chart (length tour) begin trials
  unfolding trials_of
  proper = go (worthwhile most (length tour))
    where
      go : (b : Bool) → Proper chart (length tour) begin
          (cond b (passes_trials chart (length tour) most (begun chart tour)) [])
      go true = proper_passes chart (length tour) most (begun chart tour)
      go false = no_more

  all_of_them : fresh (searched chart most 0 tour) ≡ fresh (all_made chart trials begin)
  all_of_them = search_tried chart most 0 tour ∙ ap fresh (unlimited chart trials begin refl)

  module _ (M : ℕ) (h : 0 < M) where
    room : Room chart M M trials begin
    room = limited chart M M trials begin refl h (omega arith)

    -- the limit leaves some trials out
    cut_short : M < length trials
        → fresh (searched chart most M tour) ≡ fresh (stopped (all_made chart (take M trials) begin))
    cut_short l = search_tried chart most M tour ∙ ap fresh (room.short l)

    -- or none
    not_cut : length trials ≤ M
        → fresh (searched chart most M tour) ≡ fresh (all_made chart trials begin)
    not_cut l = search_tried chart most M tour ∙ ap fresh (room.enough l)

    first_of_them : Level (searched chart most M tour) (all_made chart (take M trials) begin)
    first_of_them = go (lt-or M (length trials))
      where
        go : (M < length trials) ⊎ (length trials ≤ M)
            → Level (searched chart most M tour) (all_made chart (take M trials) begin)
        go (inl l) =
            let e = level (searched chart most M tour) (stopped (all_made chart (take M trials) begin)) (cut_short l) in
            record { tour = e.tour; cost = e.cost; moves = e.moves }
        go (inr l) =
            subst (λ (x : List Trial). Level (searched chart most M tour) (all_made chart x begin))
            (sym (take_all M trials l))
            (level (searched chart most M tour) (all_made chart trials begin) (not_cut l))

  counts : (l : List Trial) → (all_made chart l begin).moves ≡ length l
  counts l = let e = all_moves chart l (begun chart tour) in omega arith

  enough : (M : ℕ) → length trials ≤ M → searched chart most M tour ≡ searched chart most 0 tour
  enough zero l = refl
  enough (suc M) l = go (search_same chart most (suc M) tour)
    where
      go : ((searched chart most (suc M) tour).cut ≡ true)
          ⊎ (searched chart most (suc M) tour ≡ searched chart most 0 tour)
          → searched chart most (suc M) tour ≡ searched chart most 0 tour
      go (inl c) =
          let e : (searched chart most (suc M) tour).cut ≡ (all_made chart trials begin).cut =
          ap (λ (s : State). s.cut) (not_cut (suc M) (omega arith) l) in
          absurd (true≢false (sym c ∙ e ∙ all_cut chart trials begin))
      go (inr e) = e

pub claim : Claim
claim chart most tour = record {
  all = level _ _ (all_of_them chart most tour);
  all_counted = ap (λ (s : State). s.moves) (all_of_them chart most tour) ∙ counts chart most tour _;
  never_ended = ap (λ (s : State). s.cut) (all_of_them chart most tour) ∙ all_cut chart (trials_of chart most tour) _;
  first = first_of_them chart most tour;
  first_counted = λ M h. (first_of_them chart most tour M h).moves ∙ counts chart most tour _
      ∙ length-take M (trials_of chart most tour);
  ended = λ M h l. ap (λ (s : State). s.cut) (cut_short chart most tour M h l);
  enough = enough chart most tour;
  proper = proper chart most tour;
}
