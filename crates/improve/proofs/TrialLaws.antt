-- What one trial does to a search that goes on, and that it leaves an ended one alone. Assumes nothing.
use mathlib.Core.Bool.{Bool, true, false, cond, ◌&&◌, ◌||◌, true≢false}
use mathlib.Core.List.{List, ◌++◌}
use mathlib.Core.Path.{◌≡◌, refl, sym, ap, ◌∙◌, subst}
use Prim.Native.Nat.{ℕ, suc, ◌+◌, ◌-◌, ◌<◌}
use native.Mathlib.Numerals.{add-one}
use native.Mathlib.Omega.{arith}
use borrow.Author.Tests.{eq-eqb, ne_eqb}
use lib.Dec.{eqb}
use lib.Ieee.{Float}
use lib.ListN.{length, get_or, set, take, drop}
use lib.Seq.{set-get_or}
use Rattle.std.specs.Prelude.{reverse}
use Rattle.table.specs.Each.{each}
use Rattle.std.specs.Prelude.{Option, Some, None, is_some}
use Rattle.improve.specs.Code.{Judged, counted, state_of}
use Rattle.improve.specs.Search.{Chart, State, length_in, legal, shorter, judged, at_limit, stopped, tried}
use Rattle.improve.specs.Search.{owner_of, swap, alternative, turn, slice, turned, reversed, flip, reversal}
use Rattle.improve.specs.Search.{row}
use Rattle.improve.specs.declared.Progress.{Progress}
use Rattle.improve.proofs.IdleLaws.{Idle, each_idle}
use Rattle.improve.proofs.ReversalLaws.{turned_twice}

-- ---- ended

pub tried_idle : (limit : ℕ) (trial : State → State) (s : State) → s.cut ≡ true → tried limit trial s ≡ s
unfolding tried
tried_idle limit trial s e = rw e

module _ (chart : Chart) where
  pub alternative_idle : (limit p held : ℕ) → Idle (alternative chart limit p held)
  unfolding alternative
  alternative_idle limit p held a s e = go (eqb a held)
    where
      go : (b : Bool) → cond b s (tried limit (swap chart p a) s) ≡ s
      go true = refl
      go false = tried_idle limit (swap chart p a) s e

  pub turn_idle : (limit : ℕ) → Idle (turn chart limit)
  unfolding turn
  turn_idle limit p s e = each_idle _ (alternative_idle limit p (get_or s.tour p 0)) _ _ s e

  pub reversal_idle : (limit i : ℕ) → Idle (reversal chart limit i)
  unfolding reversal
  reversal_idle limit i j s e = tried_idle limit (flip chart i j) s e

  pub row_idle : (limit n : ℕ) → Idle (row chart limit n)
  unfolding row
  row_idle limit n i s e = each_idle _ (reversal_idle limit i) _ _ s e

-- ---- at the limit

module _ (limit : ℕ) (trial : State → State) (s : State) (goes : s.cut ≡ false) where
  -- a trial that the limit does not let begin ends the search
  pub tried-stops : at_limit limit s.moves ≡ true → tried limit trial s ≡ stopped s
  unfolding tried
  tried-stops e =
      ap (λ (c : Bool). cond c s (cond (at_limit limit s.moves) (stopped s) (trial s))) goes
      ∙ ap (λ (b : Bool). cond b (stopped s) (trial s)) e

  -- any other is made
  pub tried_goes : at_limit limit s.moves ≡ false → tried limit trial s ≡ trial s
  unfolding tried
  tried_goes e =
      ap (λ (c : Bool). cond c s (cond (at_limit limit s.moves) (stopped s) (trial s))) goes
      ∙ ap (λ (b : Bool). cond b (stopped s) (trial s)) e

or_true : (b : Bool) → (b || true) ≡ true
or_true true = refl
or_true false = refl

or_false : (b : Bool) → (b || false) ≡ b
or_false true = refl
or_false false = refl

judged_is : (accepted : Bool) (new : List ℕ) (length : Float) (tour after : List ℕ) (s : Progress) (r : Option Float)
    → Judged accepted new length tour r after
    → judged accepted new length (state_of tour s false) ≡ state_of after (counted r s) false
unfolding judged
judged_is accepted new length tour after s r w = rw (w.answers, w.holds) (go accepted)
  where
    go : (b : Bool) → judged b new length (state_of tour s false)
        ≡ state_of (cond b new tour) (counted (cond b (Some length) None) s) false
    go true = rw (or_true s.better, add-one s.moves)
    go false = rw (or_false s.better, add-one s.moves)

-- the candidate held when the turn began is passed over
pub alternative-held : (chart : Chart) (limit p held a : ℕ) (s : State) → a ≡ held
    → alternative chart limit p held a s ≡ s
unfolding alternative
alternative-held chart limit p held a s e = rw (eq-eqb a held e)

module _ (chart : Chart) (limit p held a : ℕ) (tour : List ℕ) (s : Progress) (flag : Bool)
    (other : a ≡ held → ⊥) (asked : flag ≡ at_limit limit s.moves) where
  -- at the limit, another candidate ends the search
  pub alternative-stops : flag ≡ true
      → alternative chart limit p held a (state_of tour s false) ≡ state_of tour s true
  unfolding alternative
  alternative-stops e =
      rw (ne_eqb a held other) (tried-stops limit (swap chart p a) _ refl (sym asked ∙ e))

  -- before it, another candidate is tried; one that is rejected gives back what stands there
  pub alternative_goes : (last : ℕ) (r : Option Float) (after : List ℕ) → flag ≡ false → last ≡ get_or tour p 0
      → Judged (shorter (length_in chart (set tour p a)) s.cost) (set tour p a) (length_in chart (set tour p a))
      (set tour p last) r after
      → alternative chart limit p held a (state_of tour s false) ≡ state_of after (counted r s) false
  unfolding alternative swap
  alternative_goes last r after e l w =
      let stands : set tour p last ≡ tour = ap (set tour p) l ∙ set-get_or tour p 0 in
      rw (ne_eqb a held other)
      (tried_goes limit (swap chart p a) _ refl (sym asked ∙ e)
      ∙ judged_is _ _ _ tour after s r
      (subst (λ (b : List ℕ). Judged (shorter (length_in chart (set tour p a)) s.cost) (set tour p a)
      (length_in chart (set tour p a)) b r after) stands w))

module _ (chart : Chart) (limit i j : ℕ) (tour : List ℕ) (s : Progress) (flag : Bool)
    (asked : flag ≡ at_limit limit s.moves) where
  -- at the limit, a reversal ends the search
  pub reversal-stops : flag ≡ true → reversal chart limit i j (state_of tour s false) ≡ state_of tour s true
  unfolding reversal
  reversal-stops e = tried-stops limit (flip chart i j) _ refl (sym asked ∙ e)

  -- before it, the stretch is tried the other way round
  pub reversal_goes : (r : Option Float) (after : List ℕ) → flag ≡ false
      → Judged (shorter (length_in chart (reversed i j tour)) s.cost && legal chart (reversed i j tour))
      (reversed i j tour) (length_in chart (reversed i j tour)) tour r after
      → reversal chart limit i j (state_of tour s false) ≡ state_of after (counted r s) false
  unfolding reversal flip
  reversal_goes r after e w =
      tried_goes limit (flip chart i j) _ refl (sym asked ∙ e)
      ∙ judged_is _ _ _ tour after s r w

-- ---- turns

-- a turn is told by what is read for it
pub turn_is : (chart : Chart) (limit p : ℕ) (s after : State) (k from end : ℕ)
    → k ≡ owner_of chart.owner (get_or s.tour p 0) → from ≡ get_or chart.first k 0
    → end ≡ get_or chart.first (k + 1) 0
    → after ≡ each (alternative chart limit p (get_or s.tour p 0)) (end - from) from s
    → after ≡ turn chart limit p s
unfolding turn
turn_is chart limit p s after k from end e f g h = rw (← e, ← add-one k, ← f, ← g) h

-- ---- a reversal, weighed

-- what a reversal in place leaves
abbrev flipped : ℕ → ℕ → List ℕ → List ℕ
flipped i j tour = take (i + 1) tour ++ (reverse (slice (i + 1) (j + 1) tour) ++ drop (j + 1) tour)

flipped_is : (i j : ℕ) (tour : List ℕ) → flipped i j tour ≡ reversed i j tour
unfolding turned
flipped_is i j tour = rw (add-one i, add-one j)

module _ (long : List ℕ → Float) (kept : List ℕ → Bool) (i j : ℕ) (tour after : List ℕ) (cost : Float)
    (r : Option Float) (turns : after ≡ flipped i j tour)
    (weighed : r ≡ cond (shorter (long after) cost && kept after) (Some (long after)) None) where
  -- accepted, it is held
  pub reversal-held : is_some r ≡ true
      → Judged (shorter (long (reversed i j tour)) cost && kept (reversed i j tour)) (reversed i j tour)
      (long (reversed i j tour)) tour r after
  reversal-held q =
      let e : after ≡ reversed i j tour = turns ∙ flipped_is i j tour in
      rw (← e) (go (shorter (long after) cost && kept after) weighed)
    where
      go : (b : Bool) → r ≡ cond b (Some (long after)) None → Judged b after (long after) tour r after
      go true w = record { answers = w; holds = refl }
      go false w = absurd (true≢false (sym q ∙ ap is_some w))

  -- rejected, the stretch is reversed again, and the tour is as it was
  pub reversal-back : (undone : List ℕ) → i < j → j < length tour → undone ≡ flipped i j after → is_some r ≡ false
      → Judged (shorter (long (reversed i j tour)) cost && kept (reversed i j tour)) (reversed i j tour)
      (long (reversed i j tour)) tour r undone
  reversal-back undone h g u q =
      let e : after ≡ reversed i j tour = turns ∙ flipped_is i j tour in
      let b : undone ≡ tour =
      u ∙ flipped_is i j after ∙ ap (reversed i j) e
      ∙ turned_twice (suc i) (suc j) tour (omega arith) (omega arith) in
      rw (← e) (go b (shorter (long after) cost && kept after) weighed)
    where
      go : undone ≡ tour → (b : Bool) → r ≡ cond b (Some (long after)) None → Judged b after (long after) tour r undone
      go b true w = absurd (true≢false (sym (ap is_some w) ∙ q))
      go b false w = record { answers = w; holds = b }
