-- What a turn keeps, and which length is to be beaten: a rejected candidate gives back the last one accepted in its
-- turn, or with none the one held when the turn began; and a search goes by the length of the tour it holds. Assumes
-- nothing.
use Rattle.std.specs.Prelude.{cond, List, [], ◌∷◌, map, ◌++◌, ◌≡◌, ℕ, set}
use Rattle.improve.specs.Search.{Chart, State, length_in, shorter, swap, searched}
use Rattle.improve.specs.Trials.{Trial, other, all_made}

-- of candidates tried at position p one after the other, those that are accepted
unfoldable pub accepted_of : Chart → ℕ → List ℕ → State → List ℕ
accepted_of chart p [] s = []
accepted_of chart p (a ∷ more) s =
    let later = accepted_of chart p more (swap chart p a s) in
    cond (shorter (length_in chart (set s.tour p a)) s.cost) (a ∷ later) later

-- the length to beat is that of the tour held
abbrev pub Even : Chart → State → Type 0
Even chart s = s.cost ≡ length_in chart s.tour

-- candidates tried at one position leave there the last one accepted, or with none what it held before them, and the
-- rest of the tour as it was
pub record Keeping : Type 0 where
  pub none_accepted : (chart : Chart) (p : ℕ) (tries : List ℕ) (s : State) → accepted_of chart p tries s ≡ []
      → (all_made chart (map (other p) tries) s).tour ≡ s.tour
  pub last_accepted : (chart : Chart) (p : ℕ) (tries front : List ℕ) (a : ℕ) (s : State)
      → accepted_of chart p tries s ≡ front ++ (a ∷ [])
      → (all_made chart (map (other p) tries) s).tour ≡ set s.tour p a

-- after any trials, if it was so before them; and where a search ends, whatever its limit
pub record AlwaysEven : Type 0 where
  pub after_trials : (chart : Chart) (trials : List Trial) (s : State) → Even chart s
      → Even chart (all_made chart trials s)
  pub in_the_end : (chart : Chart) (most limit : ℕ) (tour : List ℕ) → Even chart (searched chart most limit tour)

abbrev pub Claim : Type 0
Claim = Keeping × AlwaysEven
