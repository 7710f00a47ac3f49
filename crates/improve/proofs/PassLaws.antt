-- A pass taken loop by loop, the passes one by one, and the ways out of them. Assumes nothing.
use mathlib.Core.Bool.{Bool, true, false, not, cond, ◌&&◌}
use mathlib.Core.List.{List}
use mathlib.Core.Path.{◌≡◌, refl, sym, ap, ◌∙◌}
use Prim.Native.Nat.{ℕ, zero, suc, ◌+◌, ◌-◌, ◌≤◌, ◌<◌}
use native.Mathlib.Omega.{arith}
use borrow.Author.Tests.{lt-ltb, le-leb, lt-leb}
use lib.Dec.{ltb, leb}
use lib.ListN.{length}
use Rattle.closure.specs.Limits.{contour_limit}
use Rattle.table.proofs.EachLaws.{onwards, arrive}
use Rattle.table.specs.Each.{each}
use Rattle.improve.specs.Code.{Reached}
use Rattle.improve.specs.Search.{Chart, State, turn, reversal, row, fresh, pass, repeated, begun, worthwhile}
use Rattle.improve.specs.Search.{searched, searched_within}
use Rattle.improve.proofs.IdleLaws.{each_idle}
use Rattle.improve.proofs.TrialLaws.{row_idle}

-- ---- a pass

module _ (chart : Chart) (limit n : ℕ) (s after : State) where
  -- the limit has ended the search among the turns
  pub turns_cut : after ≡ each (turn chart limit) n 0 (fresh s) → after.cut ≡ true → after ≡ pass chart limit n s
  unfolding pass
  turns_cut e c =
      sym (each_idle _ (row_idle chart limit n) (n - 1) 0 after c)
      ∙ ap (each (row chart limit n) (n - 1) 0) e

  -- the turns are over, and what the rows make of the state they came to is the pass
  pub turns_done : (p : ℕ) (turned : State)
      → onwards (turn chart limit) n p turned ≡ each (turn chart limit) n 0 (fresh s) → n ≤ p
      → after ≡ each (row chart limit n) (n - 1) 0 turned → after ≡ pass chart limit n s
  unfolding pass
  turns_done p turned so_far h e = e ∙ ap (each (row chart limit n) (n - 1) 0) (arrive _ _ _ _ _ so_far h)

-- ---- the passes

-- a search that has ended, or whose last pass accepted nothing, is over
pub repeat_cut : (chart : Chart) (limit n k : ℕ) (s : State) → s.cut ≡ true → repeated chart limit n k s ≡ s
unfolding repeated
repeat_cut chart limit n zero s e = refl
repeat_cut chart limit n (suc k) s e = go s.better
  where
    go : (b : Bool) → cond (b && not s.cut) (repeated chart limit n k (pass chart limit n s)) s ≡ s
    go true = rw e
    go false = refl

pub repeat_quiet : (chart : Chart) (limit n k : ℕ) (s : State) → s.better ≡ false → repeated chart limit n k s ≡ s
unfolding repeated
repeat_quiet chart limit n zero s e = refl
repeat_quiet chart limit n (suc k) s e = rw e

module _ (chart : Chart) (limit n most done : ℕ) (s whole : State)
    (so_far : repeated chart limit n (most - done) s ≡ whole) where
  -- no pass is left
  pub repeat_over : most ≤ done → s ≡ whole
  unfolding repeated
  repeat_over h = let left : most - done ≡ zero = omega arith in rw left at so_far

  module _ (h : done < most) (after : State) (passed : after ≡ pass chart limit n s) where
    -- one pass more
    pub repeat_more : s.better ≡ true → s.cut ≡ false → repeated chart limit n (most - (done + 1)) after ≡ whole
    unfolding repeated
    repeat_more b c =
        let left : most - done ≡ suc (most - (done + 1)) = omega arith in
        let goes : (s.better && not s.cut) ≡ true = rw (b, c) in
        let q : repeated chart limit n (most - (done + 1)) (pass chart limit n s) ≡ whole =
        rw (left, goes) at so_far in
        rw passed q

    -- it was the last, since the limit ended the search or it accepted nothing
    pub last_cut : s.better ≡ true → s.cut ≡ false → after.cut ≡ true → after ≡ whole
    last_cut b c e = sym (repeat_cut chart limit n (most - (done + 1)) after e) ∙ repeat_more b c

    pub last_quiet : s.better ≡ true → s.cut ≡ false → after.better ≡ false → after ≡ whole
    last_quiet b c e = sym (repeat_quiet chart limit n (most - (done + 1)) after e) ∙ repeat_more b c

-- a row is its reversals
pub row_is : (chart : Chart) (limit n i : ℕ) (s after : State)
    → after ≡ each (reversal chart limit i) (n - (i + 2)) (i + 2) s → after ≡ row chart limit n i s
unfolding row
row_is chart limit n i s after e = e

-- the trials and the tour of the state that was reached
pub reached : (s whole : State) → s ≡ whole → Reached s.moves s.tour whole
reached s whole e = record { counted = ap (λ (x : State). x.moves) e; held = ap (λ (x : State). x.tour) e }

-- ---- whether there is anything to do

unworthy : (chart : Chart) (most limit : ℕ) (tour : List ℕ) → worthwhile most (length tour) ≡ false
    → Reached 0 tour (searched chart most limit tour)
unfolding searched_within
unworthy chart most limit tour e = rw e (record { counted = refl; held = refl })

module _ (chart : Chart) (most limit : ℕ) (tour : List ℕ) where
  pub no_passes : most ≡ 0 → Reached 0 tour (searched chart most limit tour)
  no_passes e = unworthy chart most limit tour (rw e)

  pub too_few : length tour < 3 → Reached 0 tour (searched chart most limit tour)
  too_few h = unworthy chart most limit tour (go (ltb 0 most))
    where
      go : (b : Bool) → (b && (leb 3 (length tour) && leb (length tour) contour_limit)) ≡ false
      go true = rw (lt-leb 3 (length tour) h)
      go false = refl

  pub too_many : contour_limit < length tour → Reached 0 tour (searched chart most limit tour)
  too_many h = unworthy chart most limit tour (go (ltb 0 most) (leb 3 (length tour)))
    where
      go : (b d : Bool) → (b && (d && leb (length tour) contour_limit)) ≡ false
      go true true = lt-leb (length tour) contour_limit h
      go true false = refl
      go false true = refl
      go false false = refl

  pub worthy : (moves : ℕ) (after : List ℕ) → (most ≡ 0 → ⊥) → 3 ≤ length tour → length tour ≤ contour_limit
      → Reached moves after (repeated chart limit (length tour) most (begun chart tour))
      → Reached moves after (searched chart most limit tour)
  unfolding searched_within
  worthy moves after p h g w =
      let one : ltb 0 most ≡ true = lt-ltb 0 most (omega arith) in
      let two : leb 3 (length tour) ≡ true = le-leb 3 (length tour) h in
      let three : leb (length tour) contour_limit ≡ true = le-leb (length tour) contour_limit g in
      rw (one, two, three) w
