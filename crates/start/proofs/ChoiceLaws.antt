-- What a step chooses: a candidate of an open contour; and it chooses one wherever an open contour has one within
-- reach. Assumes nothing.
use mathlib.Core.Bool.{Bool, true, false, cond, true≢false}
use mathlib.Core.List.{List}
use mathlib.Core.Path.{◌≡◌, refl, sym, ap, ◌∙◌}
use Prim.Native.Nat.{ℕ, suc, ◌-◌, ◌≤◌, ◌<◌}
use native.Mathlib.Omega.{arith}
use lib.Ieee.{lt}
use lib.ListN.{get_or}
use Rattle.table.proofs.EachLaws.{each_keeps, each_hits}
use Rattle.points.specs.Numbers.{huge}
use Rattle.start.specs.Nearest.{Ground, Way, reach_of, nothing_yet, closer, offer, offered, is_open, considered}
use Rattle.start.specs.Nearest.{chosen}
use Rattle.start.specs.Nearest.{Choice}

-- candidate a is one of contour k
pub record InContour (first : List ℕ) (k a : ℕ) : Type 0 where
  pub from : get_or first k 0 ≤ a
  pub to : a < get_or first (suc k) 0

-- a choice is of an open contour below n, and one of its candidates
pub record Fair (g : Ground) (w : Way) (n : ℕ) (best : Choice) : Type 0 where
  pub within : best.contour < n
  pub «open» : is_open g w best.contour ≡ true
  pub candidate : InContour g.first best.contour best.candidate

module _ (g : Ground) (w : Way) (n : ℕ) where
  abbrev FairIf : Choice → Type 0
  FairIf best = best.found ≡ true → Fair g w n best

  offer_fair : (k a : ℕ) → k < n → is_open g w k ≡ true → InContour g.first k a → (best : Choice) → FairIf best
      → FairIf (offer g w k a best)
  unfolding offer closer
  offer_fair k a h o c best q = go (lt (reach_of g w a) best.distance)
    where
      go : (b : Bool)
          → FairIf (cond b (record { distance = reach_of g w a; contour = k; candidate = a; found = true }) best)
      go true e = record { within = h; «open» = o; candidate = c }
      go false e = q e

  considered_fair : (k : ℕ) → k < n → (best : Choice) → FairIf best → FairIf (considered g w k best)
  unfolding considered offered
  considered_fair k h best q = go (is_open g w k) refl
    where
      go : (b : Bool) → is_open g w k ≡ b → FairIf (cond b (offered g w k best) best)
      go true o =
          each_keeps FairIf (offer g w k) (get_or g.first (suc k) 0 - get_or g.first k 0) (get_or g.first k 0)
          (λ a l r. offer_fair k a h o (record { from = l; to = omega arith })) best q
      go false o = q

  -- what is chosen is of an open contour
  pub chosen_fair : (chosen g w n).found ≡ true → Fair g w n (chosen g w n)
  unfolding chosen
  chosen_fair =
      each_keeps FairIf (considered g w) n 0 (λ k l r. considered_fair k (omega arith)) nothing_yet
      (λ e. absurd (true≢false (sym e)))

  -- ---- something is chosen

  -- while nothing is found, everything nearer than the largest number would be
  abbrev Eager : Choice → Type 0
  Eager best = best.found ≡ false → best.distance ≡ huge

  abbrev FoundOne : Choice → Type 0
  FoundOne best = best.found ≡ true

  offer_eager : (k a : ℕ) (best : Choice) → Eager best → Eager (offer g w k a best)
  unfolding offer closer
  offer_eager k a best q = go (lt (reach_of g w a) best.distance)
    where
      go : (b : Bool)
          → Eager (cond b (record { distance = reach_of g w a; contour = k; candidate = a; found = true }) best)
      go true e = absurd (true≢false e)
      go false e = q e

  offer_found : (k a : ℕ) (best : Choice) → FoundOne best → FoundOne (offer g w k a best)
  unfolding offer closer
  offer_found k a best q = go (lt (reach_of g w a) best.distance)
    where
      go : (b : Bool)
          → FoundOne (cond b (record { distance = reach_of g w a; contour = k; candidate = a; found = true }) best)
      go true = refl
      go false = q

  offer_hits : (k a : ℕ) → lt (reach_of g w a) huge ≡ true → (best : Choice) → Eager best → FoundOne (offer g w k a best)
  unfolding offer closer
  offer_hits k a near best q = go best.found refl
    where
      pick : (b : Bool) → (b ≡ false → best.found ≡ true)
          → FoundOne (cond b (record { distance = reach_of g w a; contour = k; candidate = a; found = true }) best)
      pick true h = refl
      pick false h = h refl

      go : (f : Bool) → best.found ≡ f → FoundOne
          (cond (lt (reach_of g w a) best.distance)
          (record { distance = reach_of g w a; contour = k; candidate = a; found = true }) best)
      go true e = pick (lt (reach_of g w a) best.distance) (λ z. e)
      go false e =
          pick (lt (reach_of g w a) best.distance)
          (λ z. absurd (true≢false (sym (ap (lt (reach_of g w a)) (q e) ∙ near) ∙ z)))

  considered_eager : (k : ℕ) (best : Choice) → Eager best → Eager (considered g w k best)
  unfolding considered offered
  considered_eager k best q = go (is_open g w k)
    where
      go : (b : Bool) → Eager (cond b (offered g w k best) best)
      go true =
          each_keeps Eager (offer g w k) (get_or g.first (suc k) 0 - get_or g.first k 0) (get_or g.first k 0)
          (λ a l r. offer_eager k a) best q
      go false = q

  considered_found : (k : ℕ) (best : Choice) → FoundOne best → FoundOne (considered g w k best)
  unfolding considered offered
  considered_found k best q = go (is_open g w k)
    where
      go : (b : Bool) → FoundOne (cond b (offered g w k best) best)
      go true =
          each_keeps FoundOne (offer g w k) (get_or g.first (suc k) 0 - get_or g.first k 0) (get_or g.first k 0)
          (λ a l r. offer_found k a) best q
      go false = q

  -- an open contour with a candidate within reach: something is chosen
  pub chosen_found : (k a : ℕ) → k < n → is_open g w k ≡ true → InContour g.first k a → lt (reach_of g w a) huge ≡ true
      → (chosen g w n).found ≡ true
  unfolding chosen considered offered
  chosen_found k a h o c near =
      each_hits FoundOne Eager (considered g w) k considered_eager considered_found hit n 0 (omega arith)
      (omega arith) nothing_yet (λ e. refl)
    where
      hit : (best : Choice) → Eager best → FoundOne (considered g w k best)
      hit best q =
          rw o
          (each_hits FoundOne Eager (offer g w k) a (offer_eager k) (offer_found k) (offer_hits k a near)
          (get_or g.first (suc k) 0 - get_or g.first k 0) (get_or g.first k 0)
          c.from (omega (arith, c.from, c.to)) best q)
