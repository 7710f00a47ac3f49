-- What a search never does to its tour: it loses or doubles no contour, and it turns no pair round. And it makes no
-- more trials than it may. Each by the one induction over a search. Assumes nothing.
use mathlib.Core.Bool.{Bool, true, false, cond, ◌&&◌}
use mathlib.Core.List.{List, [], ◌∷◌, ◌++◌}
use mathlib.Core.Path.{◌≡◌, refl, sym, ap, ◌∙◌, subst}
use Prim.Native.Nat.{ℕ, zero, suc, ◌+◌, ◌≤◌, ◌<◌}
use native.Mathlib.Omega.{arith}
use borrow.Author.Tests.{lt-ltb, leb-false}
use lib.Dec.{eqb}
use lib.ListN.{length, get_or, set, length-set}
use lib.Seq.{set-get_or, set-set}
use Rattle.std.proofs.lemmas.List.{reverse-append}
use Rattle.std.specs.Prelude.{reverse}
use Rattle.keep.specs.Keep.{keeps_pairs}
use Rattle.improve.specs.Search.{Chart, State, length_in, owner_of, contours, legal, shorter, judged, at_limit, swap}
use Rattle.improve.specs.Search.{turned, reversed, flip, searched}
use Rattle.improve.specs.Trials.{Offers}
use Rattle.improve.proofs.Keeps.{Carries, search_carries, Keeps, search_keeps}
use Rattle.improve.proofs.ReversalLaws.{Parts, parts, turned_parts, length-turned}

-- ---- properties of the tour alone

-- a property of tours that another candidate of the same contour keeps, and a legal reversal
pub record KeepsTour (chart : Chart) (n : ℕ) (T : List ℕ → Type 0) : Type 0 where
  pub swapped : (p held a : ℕ) (tour : List ℕ) → p < n → Offers chart held a → T (set tour p held) → T (set tour p a)
  pub flipped : (i j : ℕ) (tour : List ℕ) → i < j → j < n → legal chart (reversed i j tour) ≡ true → T tour
      → T (reversed i j tour)

-- during a turn, the tour has the property, and so has it with the candidate that the turn found
abbrev InTurn : (List ℕ → Type 0) → ℕ → ℕ → State → Type 0
InTurn T p held s = T s.tour × T (set s.tour p held)

tour_carries : (chart : Chart) (limit n : ℕ) (T : List ℕ → Type 0) → KeepsTour chart n T
    → Carries chart limit n (λ s. T s.tour) (InTurn T)
unfolding swap flip judged
tour_carries chart limit n T keeps = record {
  stops = λ s l q. q;
  begins = λ s q. q;
  enters = λ p s q. (q, subst T (sym (set-get_or s.tour p 0)) q);
  rests = λ p held s l q. q;
  swaps = λ p held a s h o m q.
      let new : T (set s.tour p a) = keeps.swapped p held a s.tour h o q.1 in (
        either (shorter (length_in chart (set s.tour p a)) s.cost) new q.0,
        again p held a s (shorter (length_in chart (set s.tour p a)) s.cost) q.1,
      );
  leaves = λ p held s q. q.0;
  flips = λ i j s h g m q. judge i j s h g q (shorter (length_in chart (reversed i j s.tour)) s.cost)
      (legal chart (reversed i j s.tour)) refl;
}
  where
    either : {x y : List ℕ} (b : Bool) → T x → T y → T (cond b x y)
    either true u v = u
    either false u v = v

    again : (p held a : ℕ) (s : State) (b : Bool) → T (set s.tour p held)
        → T (set (cond b (set s.tour p a) s.tour) p held)
    again p held a s true w = rw (set-set s.tour p a held) w
    again p held a s false w = w

    judge : (i j : ℕ) (s : State) → i < j → j < n → T s.tour → (b l : Bool)
        → legal chart (reversed i j s.tour) ≡ l
        → T (cond (b && l) (reversed i j s.tour) s.tour)
    judge i j s h g q true true e = keeps.flipped i j s.tour h g e q
    judge i j s h g q true false e = q
    judge i j s h g q false true e = q
    judge i j s h g q false false e = q

-- and so the search keeps it
pub tour-kept : (chart : Chart) (most limit : ℕ) (tour : List ℕ) (T : List ℕ → Type 0)
    → KeepsTour chart (length tour) T → T tour
    → T (searched chart most limit tour).tour
tour-kept chart most limit tour T keeps q =
    search_carries chart most limit tour (λ s. T s.tour) (InTurn T)
    (tour_carries chart limit (length tour) T keeps) q

-- ---- as long as it was

long_enough : (chart : Chart) (n : ℕ) → KeepsTour chart n (λ tour. length tour ≡ n)
long_enough chart n = record {
  swapped = λ p held a tour h o e. simp length-set (simp length-set at e);
  flipped = λ i j tour h g l e. length-turned (suc i) (suc j) tour (omega arith) (omega arith) ∙ e;
}

pub same_length : (chart : Chart) (most limit : ℕ) (tour : List ℕ)
    → length (searched chart most limit tour).tour ≡ length tour
same_length chart most limit tour =
    tour-kept chart most limit tour (λ l. length l ≡ length tour) (long_enough chart (length tour)) refl

-- ---- the same contours

-- how often x stands in a list
unfoldable pub times : ℕ → List ℕ → ℕ
times x [] = 0
times x (y ∷ more) = cond (eqb y x) 1 0 + times x more

-- each number stands as often in the one as in the other
abbrev pub Shuffled : List ℕ → List ℕ → Type 0
Shuffled l m = (x : ℕ) → times x l ≡ times x m

-- the candidates numbered from a contour's first to the next one's are that contour's
abbrev pub Grouped : List ℕ → List ℕ → Type 0
Grouped owner first = (k a : ℕ) → get_or first k 0 ≤ a → a < get_or first (suc k) 0 → owner_of owner a ≡ k

-- how often a tour meets contour x
met : List ℕ → ℕ → List ℕ → ℕ
met owner x tour = times x (contours owner tour)

met_append : (owner : List ℕ) (x : ℕ) (a b : List ℕ) → met owner x (a ++ b) ≡ met owner x a + met owner x b
unfolding met times contours
met_append owner x [] b = omega arith
met_append owner x (y ∷ a) b = let e : met owner x (a ++ b) ≡ met owner x a + met owner x b =
    met_append owner x a b in omega arith

met_rev : (owner : List ℕ) (x : ℕ) (b : List ℕ) → met owner x (reverse b) ≡ met owner x b
met_rev owner x [] = refl
met_rev owner x (y ∷ b) =
    let e : reverse (y ∷ b) ≡ reverse b ++ (y ∷ []) = reverse-append (y ∷ []) b in
    let h : met owner x (reverse b) ≡ met owner x b = met_rev owner x b in
    let l : met owner x (reverse b ++ (y ∷ [])) ≡ met owner x (reverse b) + met owner x (y ∷ []) =
    met_append owner x (reverse b) (y ∷ []) in
    let r : met owner x (y ∷ b) ≡ met owner x (y ∷ []) + met owner x b = met_append owner x (y ∷ []) b in
    ap (met owner x) e ∙ omega arith

met_turned : (owner : List ℕ) (x f t : ℕ) (l : List ℕ) → f ≤ t → t ≤ length l
    → met owner x (turned f t l) ≡ met owner x l
met_turned owner x f t l h g = go (parts f t l h g)
  where
    go : Parts f t l → met owner x (turned f t l) ≡ met owner x l
    go p =
        let a = p.front in
        let b = p.middle in
        let c = p.back in
        let e : turned f t l ≡ a ++ (reverse b ++ c) =
        ap (turned f t) p.joined ∙ turned_parts a b c f t p.starts p.ends in
        let u : met owner x (a ++ (reverse b ++ c)) ≡ met owner x a + met owner x (reverse b ++ c) =
        met_append owner x a (reverse b ++ c) in
        let v : met owner x (reverse b ++ c) ≡ met owner x (reverse b) + met owner x c = met_append owner x (reverse b) c in
        let w : met owner x (reverse b) ≡ met owner x b = met_rev owner x b in
        let y : met owner x (a ++ (b ++ c)) ≡ met owner x a + met owner x (b ++ c) = met_append owner x a (b ++ c) in
        let z : met owner x (b ++ c) ≡ met owner x b + met owner x c = met_append owner x b c in
        let m : met owner x (a ++ (reverse b ++ c)) ≡ met owner x (a ++ (b ++ c)) = omega arith in
        ap (met owner x) e ∙ m ∙ ap (met owner x) (sym p.joined)

-- another candidate of the same contour changes no contour
contours-set : (owner l : List ℕ) (p a b : ℕ) → owner_of owner a ≡ owner_of owner b
    → contours owner (set l p a) ≡ contours owner (set l p b)
unfolding contours
contours-set owner [] p a b e = refl
contours-set owner (x ∷ l) zero a b e = rw e
contours-set owner (x ∷ l) (suc p) a b e = ap (λ (m : List ℕ). owner_of owner x ∷ m) (contours-set owner l p a b e)

-- a candidate offered for another is of the same contour
same_contour : (chart : Chart) (held a : ℕ) → Grouped chart.owner chart.first → Offers chart held a
    → owner_of chart.owner a ≡ owner_of chart.owner held
same_contour chart held a grouped o = grouped (owner_of chart.owner held) a o.from o.to

-- a tour of n that meets the same contours as the first
pub record Alike (owner : List ℕ) (n : ℕ) (from tour : List ℕ) : Type 0 where
  pub long : length tour ≡ n
  pub shuffled : Shuffled (contours owner tour) (contours owner from)

alike : (chart : Chart) (n : ℕ) (from : List ℕ) → Grouped chart.owner chart.first
    → KeepsTour chart n (Alike chart.owner n from)
unfolding met
alike chart n from grouped = record {
  swapped = λ p held a tour h o w. record {
    long = (long_enough chart n).swapped p held a tour h o w.long;
    shuffled = λ x. ap (times x) (contours-set chart.owner tour p a held (same_contour chart held a grouped o))
        ∙ w.shuffled x;
  };
  flipped = λ i j tour h g l w. record {
    long = (long_enough chart n).flipped i j tour h g l w.long;
    shuffled = λ x. met_turned chart.owner x (suc i) (suc j) tour (omega arith) (omega (arith, w.long))
        ∙ w.shuffled x;
  };
}

-- the search hands back a tour over the very contours of the one handed in, each as often: once, where each stood there
-- once
pub contours-kept : (chart : Chart) (most limit : ℕ) (tour : List ℕ) → Grouped chart.owner chart.first
    → Shuffled (contours chart.owner (searched chart most limit tour).tour) (contours chart.owner tour)
contours-kept chart most limit tour grouped =
    (tour-kept chart most limit tour (Alike chart.owner (length tour) tour) (alike chart (length tour) tour grouped)
    (record { long = refl; shuffled = λ x. refl })).shuffled

-- ---- legal

lawful : (chart : Chart) (n : ℕ) → Grouped chart.owner chart.first
    → KeepsTour chart n (λ tour. legal chart tour ≡ true)
lawful chart n grouped = record {
  swapped = λ p held a tour h o e.
      ap (λ (l : List ℕ). keeps_pairs l chart.pairs)
      (contours-set chart.owner tour p a held (same_contour chart held a grouped o)) ∙ e;
  flipped = λ i j tour h g l e. l;
}

-- from a legal tour the search comes to legal tours only
pub legal-kept : (chart : Chart) (most limit : ℕ) (tour : List ℕ) → Grouped chart.owner chart.first
    → legal chart tour ≡ true
    → legal chart (searched chart most limit tour).tour ≡ true
legal-kept chart most limit tour grouped e =
    tour-kept chart most limit tour (λ l. legal chart l ≡ true) (lawful chart (length tour) grouped) e

-- ---- no more trials than allowed

room_left : (limit moves : ℕ) → 0 < limit → at_limit limit moves ≡ false → moves < limit
unfolding at_limit
room_left limit moves h e = leb-false limit moves (rw (lt-ltb 0 limit h) at e)

within : (chart : Chart) (limit n : ℕ) → 0 < limit → Keeps chart limit n (λ s. s.moves ≤ limit)
unfolding swap flip judged
within chart limit n h = record {
  stops = λ s l q. q;
  begins = λ s q. q;
  swaps = λ p a s g m q. room_left limit s.moves h m.room;
  flips = λ i j s g k m q. room_left limit s.moves h m.room;
}

-- with a limit, the search makes at most so many trials
pub moves_at-most : (chart : Chart) (most limit : ℕ) (tour : List ℕ) → 0 < limit
    → (searched chart most limit tour).moves ≤ limit
moves_at-most chart most limit tour h =
    search_keeps chart most limit tour (λ s. s.moves ≤ limit) (within chart limit (length tour) h) (omega arith)
