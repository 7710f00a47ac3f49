-- What a turn keeps, and that a search goes by the length of the tour it holds. Assumes nothing.
use mathlib.Core.Bool.{Bool, true, false, cond, ◌&&◌}
use mathlib.Core.List.{List, [], ◌∷◌, map, ◌++◌}
use mathlib.Core.Path.{◌≡◌, refl, sym, ap, ◌∙◌}
use Prim.Native.Nat.{ℕ, zero, suc}
use native.Mathlib.Omega.{arith}
use lib.ListN.{get_or, set, take}
use lib.Seq.{set-get_or, set-set}
use Rattle.improve.specs.Search.{Chart, State, length_in, legal, shorter, judged, swap, reversed, flip, begun}
use Rattle.improve.specs.Search.{searched}
use Rattle.improve.specs.Trials.{Trial, other, stretch, made, all_made, trials_of, Level}
use Rattle.improve.specs.Kept.{accepted_of, Even, Keeping, Claim}
use Rattle.improve.proofs.Trials.{claim as makes}

-- ---- in a turn

-- the last of a list, or with none another
unfoldable last_or : ℕ → List ℕ → ℕ
last_or none [] = none
last_or none (a ∷ more) = last_or a more

last_is : (none : ℕ) (front : List ℕ) (a : ℕ) → last_or none (front ++ (a ∷ [])) ≡ a
unfolding last_or
last_is none [] a = refl
last_is none (b ∷ front) a = last_is b front a

module _ (chart : Chart) (p : ℕ) where
  -- a candidate is accepted and stands there, or it is not and what was held does
  stands : (a held : ℕ) (tour : List ℕ) (s : State) → s.tour ≡ set tour p held → (b : Bool)
      → shorter (length_in chart (set s.tour p a)) s.cost ≡ b
      → (swap chart p a s).tour ≡ set tour p (cond b a held)
  unfolding swap judged
  stands a held tour s e true f = rw f (ap (λ (l : List ℕ). set l p a) e ∙ set-set tour p held a)
  stands a held tour s e false f = rw f e

  -- while candidates are tried, `held` stands there at first and then the last one accepted
  turn_holds : (tries : List ℕ) (held : ℕ) (tour : List ℕ) (s : State) → s.tour ≡ set tour p held
      → (all_made chart (map (other p) tries) s).tour ≡ set tour p (last_or held (accepted_of chart p tries s))
  unfolding all_made accepted_of last_or
  turn_holds [] held tour s e = e
  turn_holds (a ∷ tries) held tour s e =
      go (shorter (length_in chart (set s.tour p a)) s.cost) refl (λ b. turn_holds tries b tour (swap chart p a s))
    where
      go : (b : Bool) → shorter (length_in chart (set s.tour p a)) s.cost ≡ b
          → ((now : ℕ) → (swap chart p a s).tour ≡ set tour p now
          → (all_made chart (map (other p) tries) (swap chart p a s)).tour
          ≡ set tour p (last_or now (accepted_of chart p tries (swap chart p a s))))
          → (all_made chart (map (other p) tries) (swap chart p a s)).tour
          ≡ set tour p (last_or held (cond b (a ∷ accepted_of chart p tries (swap chart p a s))
          (accepted_of chart p tries (swap chart p a s))))
      go true f later = later a (stands a held tour s e true f)
      go false f later = later held (stands a held tour s e false f)

  -- tried from s on, they leave the last one accepted
  turn_leaves : (tries accepted : List ℕ) (s : State) → accepted_of chart p tries s ≡ accepted
      → (all_made chart (map (other p) tries) s).tour ≡ set s.tour p (last_or (get_or s.tour p 0) accepted)
  turn_leaves tries accepted s e =
      turn_holds tries (get_or s.tour p 0) s.tour s (sym (set-get_or s.tour p 0))
      ∙ ap (λ (l : List ℕ). set s.tour p (last_or (get_or s.tour p 0) l)) e

keeping : Keeping
unfolding last_or
keeping = record {
  none_accepted = λ chart p tries s e. turn_leaves chart p tries [] s e ∙ set-get_or s.tour p 0;
  last_accepted = λ chart p tries front a s e.
      turn_leaves chart p tries (front ++ (a ∷ [])) s e
      ∙ ap (set s.tour p) (last_is (get_or s.tour p 0) front a);
}

-- ---- the length to beat

module _ (chart : Chart) where
  judged_even : (accepted : Bool) (new : List ℕ) (s : State) → Even chart s
      → Even chart (judged accepted new (length_in chart new) s)
  unfolding judged
  judged_even true new s e = refl
  judged_even false new s e = e

  made_even : (trial : Trial) (s : State) → Even chart s → Even chart (made chart trial s)
  unfolding swap flip
  made_even (other p a) s e = judged_even (shorter (length_in chart (set s.tour p a)) s.cost) _ s e
  made_even (stretch i j) s e =
      judged_even (shorter (length_in chart (reversed i j s.tour)) s.cost
      && legal chart (reversed i j s.tour)) _ s e

  all_even : (trials : List Trial) (s : State) → Even chart s → Even chart (all_made chart trials s)
  unfolding all_made
  all_even [] s e = e
  all_even (trial ∷ more) s e = all_even more (made chart trial s) (made_even trial s e)

  level_even : (s v : State) → Level s v → Even chart v → Even chart s
  level_even s v l e = l.cost ∙ e ∙ ap (length_in chart) (sym l.tour)

  pub search_even : (most limit : ℕ) (tour : List ℕ) → Even chart (searched chart most limit tour)
  search_even most zero tour =
      level_even _ _ (makes chart most tour).all
      (all_even (trials_of chart most tour) (begun chart tour) refl)
  search_even most (suc M) tour =
      level_even _ _ ((makes chart most tour).first (suc M) (omega arith))
      (all_even (take (suc M) (trials_of chart most tour)) (begun chart tour) refl)

pub claim : Claim
claim = (keeping, record { after_trials = all_even; in_the_end = search_even })
