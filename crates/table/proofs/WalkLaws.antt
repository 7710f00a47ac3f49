-- A walk taken leg by leg, as a loop over the tour's places takes it. Assumes nothing.
use mathlib.Core.List.{List, [], ◌∷◌}
use mathlib.Core.Path.{◌≡◌, refl}
use Prim.Native.Nat.{ℕ, suc, ◌+◌, ◌-◌, ◌≤◌, ◌<◌}
use native.Mathlib.Numerals.{add-one}
use native.Mathlib.Omega.{arith}
use lib.Ieee.{Float, binary64, of_bits, add}
use lib.ListN.{length, get_or, take, drop, drop_of_length-le}
use Rattle.std.proofs.lemmas.List.{take_all}
use lib.Seq.{drop-cons}
use Rattle.table.specs.Evaluate.{home_at, distance_at, add_leg, length_of}
use Rattle.table.specs.Walk.{legs, walk}

-- the length that comes out when the walk stands at a stop, before place i of the tour, with a total so far
pub onward : (table : List Float) (t : ℕ) (tour : List ℕ) (i at : ℕ) (total : Float) → Float
onward table t tour i at total = legs (add_leg table t) total at (drop i tour)

-- an empty tour has length +0
pub length_none : (home table : List Float) (t : ℕ) (tour : List ℕ) → length tour ≡ 0
    → of_bits binary64 0 ≡ length_of home table t tour
unfolding length_of walk
length_none home table t [] h = refl
length_none home table t (a ∷ rest) h = absurd (omega arith)

-- a tour with a first stop: the way there, and then the legs to the rest of it
pub length-first : (home table : List Float) (t : ℕ) (tour : List ℕ) (total : Float) → (length tour ≡ 0 → ⊥)
    → total ≡ home_at home (get_or tour 0 0)
    → onward table t (take (length tour - 1) (drop 1 tour)) 0 (get_or tour 0 0) total ≡ length_of home table t tour
unfolding onward length_of walk
length-first home table t [] total h e = absurd (h refl)
length-first home table t (a ∷ rest) total h e =
    let whole : take (length (a ∷ rest) - 1) (drop 1 (a ∷ rest)) ≡ rest = take_all _ rest (omega arith) in
    rw (whole, e)

-- one leg more
pub leg_more : (table : List Float) (t : ℕ) (tour : List ℕ) (i at : ℕ) (total d whole : Float)
    → onward table t tour i at total ≡ whole
    → i < length tour → d ≡ distance_at table t at (get_or tour i 0)
    → onward table t tour (i + 1) (get_or tour i 0) (add binary64 total d) ≡ whole
unfolding onward legs
leg_more table t tour i at total d whole so_far h e =
    let q : legs (add_leg table t) (add_leg table t total at (get_or tour i 0)) (get_or tour i 0) (drop (suc i) tour)
    ≡ whole = rw (drop-cons tour i 0 h) at so_far in
    rw (e, add-one i) q

-- no leg left
pub legs_done : (table : List Float) (t : ℕ) (tour : List ℕ) (i at : ℕ) (total whole : Float)
    → onward table t tour i at total ≡ whole
    → length tour ≤ i → total ≡ whole
unfolding onward legs
legs_done table t tour i at total whole so_far h = rw (drop_of_length-le tour h) at so_far
