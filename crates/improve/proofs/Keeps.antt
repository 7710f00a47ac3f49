-- What every trial keeps, the search keeps: the one induction over a search from which its laws follow. Assumes
-- nothing.
use mathlib.Core.Bool.{Bool, true, false, not, cond, ◌&&◌}
use mathlib.Core.List.{List}
use mathlib.Core.Path.{◌≡◌, refl}
use Prim.Native.Nat.{ℕ, zero, suc, ◌+◌, ◌-◌, ◌<◌}
use native.Mathlib.Omega.{arith}
use lib.Dec.{eqb}
use lib.ListN.{length, get_or}
use Rattle.table.proofs.EachLaws.{each_keeps}
use Rattle.improve.specs.Search.{Chart, State, owner_of, at_limit, stopped, tried, swap, alternative}
use Rattle.improve.specs.Search.{turn, flip, reversal, row, fresh, pass, repeated, begun, worthwhile, searched}
use Rattle.improve.specs.Search.{searched_within}
use Rattle.improve.specs.Trials.{Offers}

-- ---- what is asked of a property

-- a trial may begin
pub record May (limit : ℕ) (s : State) : Type 0 where
  pub goes : s.cut ≡ false
  pub room : at_limit limit s.moves ≡ false

-- a property P of searches over a tour of n, with a second one that holds during the turn of a position: the steps of a
-- search keep them
pub record Carries (chart : Chart) (limit n : ℕ) (P : State → Type 0) (Turn : ℕ → ℕ → State → Type 0) : Type 0 where
  pub stops : (s : State) → at_limit limit s.moves ≡ true → P s → P (stopped s)
  pub begins : (s : State) → P s → P (fresh s)
  pub flips : (i j : ℕ) (s : State) → i < j → j < n → May limit s → P s → P (flip chart i j s)
  pub enters : (p : ℕ) (s : State) → P s → Turn p (get_or s.tour p 0) s
  pub rests : (p held : ℕ) (s : State) → at_limit limit s.moves ≡ true → Turn p held s → Turn p held (stopped s)
  pub swaps : (p held a : ℕ) (s : State) → p < n → Offers chart held a → May limit s → Turn p held s
      → Turn p held (swap chart p a s)
  pub leaves : (p held : ℕ) (s : State) → Turn p held s → P s

tried_keeps : (Q : State → Type 0) (limit : ℕ) (trial : State → State) (s : State) → Q s
    → (at_limit limit s.moves ≡ true → Q (stopped s))
    → (May limit s → Q (trial s)) → Q (tried limit trial s)
unfolding tried
tried_keeps Q limit trial s q z t = go s.cut refl (at_limit limit s.moves) refl
  where
    go : (c : Bool) → s.cut ≡ c → (l : Bool) → at_limit limit s.moves ≡ l
        → Q (cond c s (cond l (stopped s) (trial s)))
    go true e l f = q
    go false e true f = z f
    go false e false f = t (record { goes = e; room = f })

module _ (chart : Chart) (limit n : ℕ) (P : State → Type 0) (Turn : ℕ → ℕ → State → Type 0)
    (carries : Carries chart limit n P Turn) where
  pub alternative_carries : (p held a : ℕ) → p < n → Offers chart held a → (s : State) → Turn p held s
      → Turn p held (alternative chart limit p held a s)
  unfolding alternative
  alternative_carries p held a h o s q = go (eqb a held)
    where
      go : (b : Bool) → Turn p held (cond b s (tried limit (swap chart p a) s))
      go true = q
      go false =
          tried_keeps (Turn p held) limit (swap chart p a) s q (λ l. carries.rests p held s l q)
          (λ m. carries.swaps p held a s h o m q)

  pub turn_carries : (p : ℕ) → p < n → (s : State) → P s → P (turn chart limit p s)
  unfolding turn
  turn_carries p h s q =
      let held = get_or s.tour p 0 in
      let k = owner_of chart.owner held in
      let from = get_or chart.first k 0 in
      carries.leaves p held _
      (each_keeps (Turn p held) (alternative chart limit p held) (get_or chart.first (suc k) 0 - from) from
      (λ a l g. alternative_carries p held a h (record { from = l; to = omega arith })) s (carries.enters p s q))

  pub reversal_carries : (i j : ℕ) → i < j → j < n → (s : State) → P s → P (reversal chart limit i j s)
  unfolding reversal
  reversal_carries i j h g s q =
      tried_keeps P limit (flip chart i j) s q (λ l. carries.stops s l q) (λ m. carries.flips i j s h g m q)

  pub row_carries : (i : ℕ) (s : State) → P s → P (row chart limit n i s)
  unfolding row
  row_carries i s q =
      each_keeps P (reversal chart limit i) (n - (i + 2)) (i + 2)
      (λ j l g. reversal_carries i j (omega arith) (omega arith)) s q

  pass_carries : (s : State) → P s → P (pass chart limit n s)
  unfolding pass
  pass_carries s q =
      each_keeps P (row chart limit n) (n - 1) 0 (λ i l g. row_carries i) _
      (each_keeps P (turn chart limit) n 0 (λ p l g. turn_carries p (omega arith)) (fresh s) (carries.begins s q))

  pub repeated_carries : (k : ℕ) (s : State) → P s → P (repeated chart limit n k s)
  unfolding repeated
  repeated_carries zero s q = q
  repeated_carries (suc k) s q =
      go (s.better && not s.cut) (repeated_carries k (pass chart limit n s) (pass_carries s q))
    where
      go : (b : Bool) → P (repeated chart limit n k (pass chart limit n s))
          → P (cond b (repeated chart limit n k (pass chart limit n s)) s)
      go true w = w
      go false w = q

-- what the steps of a search keep, the search keeps
pub search_carries : (chart : Chart) (most limit : ℕ) (tour : List ℕ)
    (P : State → Type 0) (Turn : ℕ → ℕ → State → Type 0)
    → Carries chart limit (length tour) P Turn → P (begun chart tour) → P (searched chart most limit tour)
unfolding searched_within
search_carries chart most limit tour P Turn carries q = go (worthwhile most (length tour))
  where
    go : (b : Bool) → P (cond b (repeated chart limit (length tour) most (begun chart tour)) (begun chart tour))
    go true = repeated_carries chart limit (length tour) P Turn carries most (begun chart tour) q
    go false = q

-- ---- where every trial keeps it by itself

-- a property that each trial keeps, whatever its turn has done before
pub record Keeps (chart : Chart) (limit n : ℕ) (P : State → Type 0) : Type 0 where
  pub stops : (s : State) → at_limit limit s.moves ≡ true → P s → P (stopped s)
  pub begins : (s : State) → P s → P (fresh s)
  pub swaps : (p a : ℕ) (s : State) → p < n → May limit s → P s → P (swap chart p a s)
  pub flips : (i j : ℕ) (s : State) → i < j → j < n → May limit s → P s → P (flip chart i j s)

-- what every trial keeps, the search keeps
pub search_keeps : (chart : Chart) (most limit : ℕ) (tour : List ℕ) (P : State → Type 0)
    → Keeps chart limit (length tour) P
    → P (begun chart tour) → P (searched chart most limit tour)
search_keeps chart most limit tour P keeps q =
    search_carries chart most limit tour P (λ p held. P) (record {
      stops = keeps.stops;
      begins = keeps.begins;
      flips = keeps.flips;
      enters = λ p s w. w;
      rests = λ p held s l w. keeps.stops s l w;
      swaps = λ p held a s h o m w. keeps.swaps p a s h m w;
      leaves = λ p held s w. w;
    }) q
