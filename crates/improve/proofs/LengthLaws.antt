-- A search never hands back a tour that is longer than the one handed in, as evaluation has it: by the one induction
-- over a search an accepted tour is shorter than what was accepted before, and that is the length of the tour held.
-- Assumes nothing.
use mathlib.Core.Bool.{Bool, true, false, ◌&&◌}
use mathlib.Mathlib.Data.Bool.Basic.{and_elim_left}
use mathlib.Core.List.{List, [], ◌∷◌}
use mathlib.Core.Path.{◌≡◌, refl, sym, subst}
use Prim.Native.Nat.{ℕ}
use lib.Count.{count_trailing_zeros}
use lib.Dec.{T}
use lib.Ieee.{Float, fin, binary64, of_bits, of_fields, odd, size, le, sub, fits}
use lib.Ieee.Fits.{add-fits}
use lib.IntN.{negsuc}
use lib.ListN.{length, set}
use Rattle.table.specs.Evaluate.{home_at, add_leg, length_of}
use Rattle.table.specs.Walk.{legs, walk}
use Rattle.improve.specs.Search.{Chart, State, length_in, legal, margin, shorter, judged, swap, reversed, flip}
use Rattle.improve.specs.Search.{searched}
use Rattle.improve.proofs.FloatOrder.{le_trans_float, lt→le, less_off, le_self}
use Rattle.improve.proofs.Keeps.{Keeps, search_keeps}
use Rattle.improve.proofs.Kept.{search_even}

-- ---- evaluations are numbers of the format

-- the distances from home are numbers of the format (what is read past their end is none, and fits as well)
abbrev pub HomeFits : List Float → Type 0
HomeFits home = (a : ℕ) → T (fits binary64 (home_at home a))

legs_fit : (table : List Float) (t : ℕ) (total : Float) (at : ℕ) (rest : List ℕ) → T (fits binary64 total)
    → T (fits binary64 (legs (add_leg table t) total at rest))
unfolding legs
legs_fit table t total at [] h = h
legs_fit table t total at (b ∷ rest) h = legs_fit table t (add_leg table t total at b) b rest (add-fits binary64 total _)

pub length_fits : (home table : List Float) (t : ℕ) (tour : List ℕ) → HomeFits home
    → T (fits binary64 (length_of home table t tour))
unfolding length_of walk fits of_bits of_fields odd
length_fits home table t [] h = tt
length_fits home table t (a ∷ rest) h = legs_fit table t (home_at home a) a rest (h a)

-- ---- shorter is not longer

margin_is : margin ≡ fin false 0x1b_7cdf_d9d7_bdbb (negsuc 85)
unfolding of_bits of_fields odd size count_trailing_zeros
margin_is = refl

pub shorter-le : (x c : Float) → T (fits binary64 c) → T (le c c) → shorter x c ≡ true → T (le x c)
unfolding shorter
shorter-le x c h n e =
    let off : T (le (sub binary64 c margin) c) =
    subst (λ (z : Float). T (le (sub binary64 c z) c)) (sym margin_is)
    (less_off c 0x1b_7cdf_d9d7_bdbb (negsuc 85) h n) in
    le_trans_float x (sub binary64 c margin) c (lt→le x (sub binary64 c margin) e) off

-- ---- the search

-- the length that counts is no longer than L
record NoLonger (L : Float) (s : State) : Type 0 where
  counts : T (le s.cost L)
  fit : T (fits binary64 s.cost)

module _ (chart : Chart) (limit n : ℕ) (L : Float) (home : HomeFits chart.home) where
  judged_no_longer : (accepted : Bool) (new : List ℕ) (s : State)
      → (accepted ≡ true → shorter (length_in chart new) s.cost ≡ true) → NoLonger L s
      → NoLonger L (judged accepted new (length_in chart new) s)
  unfolding judged
  judged_no_longer true new s e w = record {
    counts = le_trans_float (length_in chart new) s.cost L
        (shorter-le (length_in chart new) s.cost w.fit (le_self s.cost L w.counts) (e refl)) w.counts;
    fit = length_fits chart.home chart.table chart.t new home;
  }
  judged_no_longer false new s e w = record { counts = w.counts; fit = w.fit }

  no_longer : Keeps chart limit n (NoLonger L)
  unfolding swap flip
  no_longer = record {
    stops = λ s l w. record { counts = w.counts; fit = w.fit };
    begins = λ s w. record { counts = w.counts; fit = w.fit };
    swaps = λ p a s h m w.
        let new = set s.tour p a in
        judged_no_longer (shorter (length_in chart new) s.cost) new s (λ e. e) w;
    flips = λ i j s h g m w.
        let new = reversed i j s.tour in
        judged_no_longer (shorter (length_in chart new) s.cost && legal chart new) new s
        (λ e. and_elim_left _ _ e) w;
  }

-- the tour handed back evaluates to no more than the one handed in, where that evaluates to a number
pub never_longer : (chart : Chart) (most limit : ℕ) (tour : List ℕ) → HomeFits chart.home
    → T (le (length_in chart tour) (length_in chart tour))
    → T (le (length_in chart (searched chart most limit tour).tour) (length_in chart tour))
never_longer chart most limit tour home n =
    subst (λ (x : Float). T (le x (length_in chart tour))) (search_even chart most limit tour)
    (search_keeps chart most limit tour (NoLonger (length_in chart tour))
    (no_longer chart limit (length tour) (length_in chart tour) home)
    (record { counts = n; fit = length_fits chart.home chart.table chart.t tour home })).counts
