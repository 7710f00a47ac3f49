-- A start and a search over candidates below t come to tours of candidates below t only. Assumes nothing.
use mathlib.Core.Path.{◌≡◌, refl, sym, ap, ◌∙◌, subst}
use mathlib.Core.Bool.{Bool, true, false, cond}
use mathlib.Core.List.{List, [], ◌∷◌, ◌++◌}
use Prim.Native.Nat.{ℕ, zero, suc, ◌≤◌, ◌<◌}
use native.Mathlib.Omega.{arith}
use lib.Dec.{leb}
use lib.ListN.{length, get_or, set, length-set}
use lib.Seq.{set-set}
use Rattle.std.proofs.lemmas.List.{reverse-append}
use Rattle.std.specs.Prelude.{reverse}
use Rattle.closure.specs.Limits.{contour_limit}
use Rattle.table.specs.Each.{each}
use Rattle.table.proofs.EachLaws.{each_keeps}
use Rattle.start.specs.Nearest.{Ground, Way, chosen, visit, step, set_out, walked, nearest, nearest_within}
use Rattle.start.proofs.ChoiceLaws.{chosen_fair}
use Rattle.improve.specs.Search.{Chart, owner_of, turned, searched}
use Rattle.improve.proofs.ReversalLaws.{Parts, parts, turned_parts, length-turned}
use Rattle.improve.proofs.TourLaws.{KeepsTour, tour-kept}
use Rattle.tour_laws.specs.Visits.{AllBelow}

-- what stands in such a list is below t
pub below_at : (t : ℕ) (l : List ℕ) (p : ℕ) → AllBelow t l → p < length l → get_or l p 0 < t
unfolding AllBelow
below_at t [] p h g = absurd (omega arith)
below_at t (x ∷ l) zero h g = h.0
below_at t (x ∷ l) (suc p) h g = below_at t l p h.1 (omega arith)

below_both : (t : ℕ) (a b : List ℕ) → AllBelow t a → AllBelow t b → AllBelow t (a ++ b)
unfolding AllBelow
below_both t [] b h g = g
below_both t (x ∷ a) b h g = (h.0, below_both t a b h.1 g)

below_front : (t : ℕ) (a b : List ℕ) → AllBelow t (a ++ b) → AllBelow t a
unfolding AllBelow
below_front t [] b h = tt
below_front t (x ∷ a) b h = (h.0, below_front t a b h.1)

below_back : (t : ℕ) (a b : List ℕ) → AllBelow t (a ++ b) → AllBelow t b
unfolding AllBelow
below_back t [] b h = h
below_back t (x ∷ a) b h = below_back t a b h.1

below_rev : (t : ℕ) (b : List ℕ) → AllBelow t b → AllBelow t (reverse b)
unfolding AllBelow
below_rev t [] h = tt
below_rev t (x ∷ b) h =
    subst (AllBelow t) (sym (reverse-append (x ∷ []) b)) (below_both t (reverse b) (x ∷ []) (below_rev t b h.1) (h.0, tt))

below_set : (t : ℕ) (l : List ℕ) (p a : ℕ) → AllBelow t l → a < t → AllBelow t (set l p a)
unfolding AllBelow
below_set t [] p a h g = tt
below_set t (x ∷ l) zero a h g = (g, h.1)
below_set t (x ∷ l) (suc p) a h g = (h.0, below_set t l p a h.1 g)

-- a tour of n candidates below t
record Held (t n : ℕ) (tour : List ℕ) : Type 0 where
  long : length tour ≡ n
  below : AllBelow t tour

turned_below : (t f u : ℕ) (l : List ℕ) → f ≤ u → u ≤ length l → AllBelow t l → AllBelow t (turned f u l)
turned_below t f u l h g w = go (parts f u l h g)
  where
    go : Parts f u l → AllBelow t (turned f u l)
    go p =
        let a = p.front in
        let b = p.middle in
        let c = p.back in
        let e : turned f u l ≡ a ++ (reverse b ++ c) =
        ap (turned f u) p.joined ∙ turned_parts a b c f u p.starts p.ends in
        let all : AllBelow t (a ++ (b ++ c)) = subst (AllBelow t) p.joined w in
        let rest : AllBelow t (b ++ c) = below_back t a (b ++ c) all in
        subst (AllBelow t) (sym e) (below_both t a (reverse b ++ c) (below_front t a (b ++ c) all)
        (below_both t (reverse b) c (below_rev t b (below_front t b c rest)) (below_back t b c rest)))

held_kept : (chart : Chart) (t n : ℕ) → ((k : ℕ) → get_or chart.first k 0 ≤ t) → KeepsTour chart n (Held t n)
held_kept chart t n bound = record {
  swapped = λ p held a tour h o w. record {
    long = simp length-set (simp length-set at w.long);
    below =
        subst (AllBelow t) (set-set tour p held a)
        (below_set t (set tour p held) p a w.below
        (let m = bound (suc (owner_of chart.owner held)) in omega (arith, o.to)));
  };
  flipped = λ i j tour h g l w. record {
    long = length-turned (suc i) (suc j) tour (omega arith) (omega (arith, w.long)) ∙ w.long;
    below = turned_below t (suc i) (suc j) tour (omega arith) (omega (arith, w.long)) w.below;
  };
}

-- a search over candidates below t keeps a tour among them
pub below_kept : (chart : Chart) (most limit t : ℕ) (tour : List ℕ) → ((k : ℕ) → get_or chart.first k 0 ≤ t)
    → AllBelow t tour
    → AllBelow t (searched chart most limit tour).tour
below_kept chart most limit t tour bound h =
    (tour-kept chart most limit tour (Held t (length tour)) (held_kept chart t (length tour) bound)
    (record { long = refl; below = h })).below

-- ---- the start

-- a step of the start takes one of them
pub step_below : (g : Ground) (n t i : ℕ) (w : Way) → ((k : ℕ) → get_or g.first k 0 ≤ t) → AllBelow t w.tour
    → AllBelow t (step g n i w).tour
unfolding step visit AllBelow
step_below g n t i w bound h =
    let choice = chosen g w n in
    go choice.found choice.contour choice.candidate (λ e.
    let f = chosen_fair g w n e in
    let m = bound (suc choice.contour) in
    omega (arith, f.candidate.to))
  where
    go : (b : Bool) (k a : ℕ) → (b ≡ true → a < t)
        → AllBelow t (cond b (record { tour = w.tour ++ (a ∷ []); visited = w.visited ++ (k ∷ []) }) w).tour
    go true k a less = below_both t w.tour (a ∷ []) h (less refl, tt)
    go false k a less = h

-- so the start has no others
pub start_below : (g : Ground) (n t : ℕ) → ((k : ℕ) → get_or g.first k 0 ≤ t) → AllBelow t (nearest g n)
unfolding nearest_within walked AllBelow
start_below g n t bound = go (leb n contour_limit)
  where
    all : AllBelow t (each (step g n) n 0 set_out).tour
    all = each_keeps (λ w. AllBelow t w.tour) (step g n) n 0 (λ i l h w. step_below g n t i w bound) set_out tt

    go : (b : Bool) → AllBelow t (cond b (each (step g n) n 0 set_out).tour [])
    go true = all
    go false = tt
