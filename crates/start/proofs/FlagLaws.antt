-- The code's flags and the contours visited say the same. Assumes nothing.
use mathlib.Core.Bool.{Bool, not, ◌&&◌, ◌||◌, or_assoc, or-true, or-false, not-not}
use mathlib.Core.List.{List, [], ◌∷◌, ◌++◌}
use mathlib.Core.Logic.{◌⊎◌, inl, inr}
use mathlib.Core.Path.{◌≡◌, refl, sym, ap, ◌∙◌}
use Prim.Native.Nat.{ℕ, zero, suc, ◌<◌}
use borrow.Author.Tests.{eq-eqb, ne_eqb}
use lib.Dec.{eqb}
use lib.ListN.{length, get_or, set, replicate}
use lib.Seq.{get_or-set_same, get_or-set_other}
use Rattle.closure.proofs.PairLaws.{same_or}
use Rattle.closure.specs.Pairs.{Pair, paired, every}
use Rattle.keep.specs.Keep.{ready_by, ready_in}
use Rattle.start.specs.Code.{Flags}
use Rattle.start.specs.Nearest.{Ground, Way, is_in, clears, is_open}

-- nothing is marked at first
pub none_marked : (size k : ℕ) → ◌≡◌ {A = ℕ} (get_or (replicate size 0) k 0) 0
none_marked zero k = refl
none_marked (suc size) zero = refl
none_marked (suc size) (suc k) = none_marked size k

pub flags_none : (size : ℕ) → Flags (replicate size 0) []
unfolding is_in
flags_none size = record { says = λ k. rw (none_marked size k) }

-- ---- one contour more

in_more : (x k : ℕ) (l : List ℕ) → is_in x (l ++ (k ∷ [])) ≡ (is_in x l || eqb k x)
unfolding is_in
in_more x k [] = or-false (eqb k x)
in_more x k (y ∷ l) = ap (λ (b : Bool). eqb y x || b) (in_more x k l) ∙ sym (or_assoc (eqb y x) (is_in x l) (eqb k x))

-- its flag is set
pub flags_more : (flags visited : List ℕ) (k : ℕ) → k < length flags → Flags flags visited
    → Flags (set flags k 1) (visited ++ (k ∷ []))
flags_more flags visited k h f = record { says = λ x. go x (same_or x k) }
  where
    go : (x : ℕ) → (x ≡ k) ⊎ (x ≡ k → ⊥) → eqb (get_or (set flags k 1) x 0) 0 ≡ not (is_in x (visited ++ (k ∷ [])))
    go x (inl e) =
        rw (e, in_more k k visited, get_or-set_same flags k 1 0 h, eq-eqb k k refl, or-true (is_in k visited))
    go x (inr d) =
        rw (
          in_more x k visited,
          get_or-set_other flags k x 1 0 d,
          ne_eqb k x (λ z. d (sym z)),
          or-false
              (is_in x visited),
        ) (f.says x)

-- ---- open

module _ (flags : List ℕ) (w : Way) (f : Flags flags w.visited) (k : ℕ) where
  clears_is : (p : Pair) → clears w k p ≡ ready_by flags k p
  unfolding ready_by
  clears_is p =
      ap (λ (b : Bool). not (eqb p.after k) || b)
      (sym (ap not (f.says p.before) ∙ not-not (is_in p.before w.visited)))

  every_is : (ps : List Pair) → every (clears w k) ps ≡ every (ready_by flags k) ps
  unfolding every
  every_is [] = refl
  every_is (p ∷ more) =
      let e : clears w k p ≡ ready_by flags k p = clears_is p in
      ap (λ (b : Bool). b && every (clears w k) more) e ∙ ap (λ (b : Bool). ready_by flags k p && b) (every_is more)

  -- open is what the flags say
  pub open_is : (g : Ground) → is_open g w k ≡ (eqb (get_or flags k 0) 0 && ready_in flags g.pairs k)
  unfolding is_open ready_in
  open_is g =
      ap (λ (b : Bool). b && every (clears w k) (paired g.pairs)) (sym (f.says k))
      ∙ ap (λ (b : Bool). eqb (get_or flags k 0) 0 && b) (every_is (paired g.pairs))
