-- A start's steps, as the code takes them. Assumes nothing.
use mathlib.Core.Bool.{Bool, true, false}
use mathlib.Core.List.{List, [], ◌∷◌, ◌++◌}
use mathlib.Core.Path.{◌≡◌, refl, sym, ap, ◌∙◌}
use Prim.Native.Nat.{ℕ, suc, ◌+◌, ◌-◌, ◌≤◌, ◌<◌}
use native.Mathlib.Numerals.{add-one}
use native.Mathlib.Omega.{arith}
use borrow.Author.Tests.{eq-eqb, ne_eqb, le-leb, lt-leb}
use lib.Ieee.{Float, lt}
use lib.ListN.{length, get_or, set, take, drop, take-append-drop}
use lib.Seq.{length-take-le, take-suc-set, drop-set-lt, drop-drop}
use Rattle.closure.specs.Limits.{contour_limit}
use Rattle.keep.specs.Keep.{ready_in}
use Rattle.table.specs.Each.{each}
use Rattle.table.specs.Evaluate.{home_at, distance_at}
use Rattle.std.specs.Prelude.{Option, Some, None}
use Rattle.table.specs.declared.Distances.{Distances}
use Rattle.start.specs.Code.{ground_on, stood, Tells, Flags, Written}
use Rattle.start.specs.Nearest.{reach_of, closer, offer, offered, is_open, considered, chosen, nothing_yet, Ground}
use Rattle.start.specs.Nearest.{Way, last_of, visit, step, set_out, walked, nearest, nearest_within}
use Rattle.start.specs.Nearest.{Choice}
use Rattle.start.proofs.FlagLaws.{open_is}

-- ---- how far

stood-none : (l : List ℕ) → None ≡ stood l → length l ≡ 0
unfolding stood
stood-none [] e = refl
stood-none (a ∷ l) e = cc

stood-some : (l : List ℕ) (b : ℕ) → Some b ≡ stood l → ((length l ≡ 0 → ⊥) × (b ≡ last_of l))
unfolding stood
stood-some [] b e = cc
stood-some (a ∷ l) b e = (λ z. absurd (omega arith), cc)

module _ (at : Distances) (last : Option ℕ) (g : Ground) (w : Way) (tells : Tells at last g w) (a : ℕ) (d : Float) where
  pub reach-home : last ≡ None → d ≡ home_at at.home.now a → d ≡ reach_of g w a
  unfolding reach_of
  reach-home e h =
      rw (eq-eqb (length w.tour) 0 (stood-none w.tour (sym e ∙ tells.last_is)), ← tells.home_is) h

  pub reach-on : (b : ℕ) → last ≡ Some b → d ≡ distance_at at.table.now at.count b a → d ≡ reach_of g w a
  unfolding reach_of
  reach-on b e h =
      let s = stood-some w.tour b (sym e ∙ tells.last_is) in
      rw (ne_eqb (length w.tour) 0 s.0, ← tells.table_is, ← tells.count_is, ← s.1) h

-- ---- which is nearer

pub closer_yes : (d : Float) (k a : ℕ) (best : Choice) → lt d best.distance ≡ true
    → ◌≡◌ {A = Choice} (record { distance = d; contour = k; candidate = a; found = true }) (closer d k a best)
unfolding closer
closer_yes d k a best e = rw e

pub closer_no : (d : Float) (k a : ℕ) (best : Choice) → lt d best.distance ≡ false → best ≡ closer d k a best
unfolding closer
closer_no d k a best e = rw e

pub offer_is : (g : Ground) (w : Way) (k a : ℕ) (best after : Choice) (d : Float) → d ≡ reach_of g w a
    → after ≡ closer d k a best
    → offer g w k a best ≡ after
unfolding offer
offer_is g w k a best after d e h = rw (← e) (sym h)

pub offered_is : (first : List ℕ) (g : Ground) (w : Way) (k from end : ℕ) (best after : Choice) → first ≡ g.first
    → from ≡ get_or first k 0 → end ≡ get_or first (k + 1) 0
    → after ≡ each (offer g w k) (end - from) from best → after ≡ offered g w k best
unfolding offered
offered_is first g w k from end best after q e f h =
    let begin : from ≡ get_or g.first k 0 = e ∙ ap (λ (l : List ℕ). get_or l k 0) q in
    let stop : end ≡ get_or g.first (k + 1) 0 = f ∙ ap (λ (l : List ℕ). get_or l (k + 1) 0) q in
    rw (← add-one k, ← begin, ← stop) h

-- ---- which contours

module _ (visited pairs : List ℕ) (g : Ground) (w : Way) (v : Flags visited w.visited) (p : pairs ≡ g.pairs)
    (k flag : ℕ) (e : flag ≡ get_or visited k 0) where
  pub open_not : (flag ≡ 0 → ⊥) → false ≡ is_open g w k
  open_not h = sym (open_is visited w v k g ∙ rw (← e, ne_eqb flag 0 h))

  pub open_ready : (ready : Bool) → flag ≡ 0 → ready ≡ ready_in visited pairs k → ready ≡ is_open g w k
  open_ready ready h r =
      let q : ready ≡ ready_in visited g.pairs k = r ∙ ap (λ (l : List ℕ). ready_in visited l k) p in
      sym (open_is visited w v k g ∙ rw (← e, eq-eqb flag 0 h, ← q))

module _ (g : Ground) (w : Way) (k : ℕ) (best : Choice) (yea : Bool) (asked : yea ≡ is_open g w k) where
  pub passed_over : yea ≡ false → considered g w k best ≡ best
  unfolding considered
  passed_over e = rw (sym asked ∙ e)

  pub looked_at : (after : Choice) → yea ≡ true → after ≡ offered g w k best → considered g w k best ≡ after
  unfolding considered
  looked_at after e h = rw (sym asked ∙ e) (sym h)

-- the choice is told contour by contour
pub chosen_is : (g : Ground) (w : Way) (n : ℕ) (best : Choice) → best ≡ each (considered g w) n 0 nothing_yet
    → best ≡ chosen g w n
unfolding chosen
chosen_is g w n best e = e

-- ---- the way

-- a way as it stands in a room: the first `made` entries, and the contours visited
abbrev pub way_of : List ℕ → List ℕ → ℕ → Way
way_of tour visited made = record { tour = take made tour; visited = visited }

-- what the code keeps beside it tells where it has come to
pub way-told : (d : Distances) (first pairs tour visited : List ℕ) (made : ℕ) (last : Option ℕ)
    → last ≡ stood (take made tour) → Tells d last (ground_on d first pairs) (way_of tour visited made)
way-told d first pairs tour visited made last l =
    record { home_is = refl; table_is = refl; count_is = refl; last_is = l }

module _ (g : Ground) (n i : ℕ) (tour visited : List ℕ) (made : ℕ) (choice : Choice) (h : made < length tour)
    (chose : choice ≡ chosen g (way_of tour visited made) n) where
  step_visits : step g n i (way_of tour visited made) ≡ visit choice (way_of tour visited made)
  unfolding step
  step_visits = rw (← chose)

  -- nothing is found, and nothing changes
  pub step_waits : choice.found ≡ false → step g n i (way_of tour visited made) ≡ way_of tour visited made
  unfolding visit
  step_waits e = step_visits ∙ rw e

  -- the choice becomes the last entry
  pub step_goes : choice.found ≡ true
      → step g n i (way_of tour visited made)
      ≡ way_of (set tour made choice.candidate) (visited ++ (choice.contour ∷ [])) (made + 1)
  unfolding visit
  step_goes e = step_visits ∙ rw (e, add-one made, take-suc-set tour made choice.candidate h)

-- the last one by its position
pub last_at : (l : List ℕ) → last_of l ≡ get_or l (length l - 1) 0
unfolding last_of
last_at [] = refl
last_at (a ∷ []) = refl
last_at (a ∷ (b ∷ more)) =
    let here : suc (suc (length more)) - 1 ≡ suc (length more) = omega arith in
    let there : suc (length more) - 1 ≡ length more = omega arith in
    rw here (rw there at (last_at (b ∷ more)))

-- the last entry written is the last one
last_put : (l : List ℕ) (a : ℕ) → last_of (l ++ (a ∷ [])) ≡ a
unfolding last_of
last_put [] a = refl
last_put (x ∷ []) a = refl
last_put (x ∷ (y ∷ l)) a = last_put (y ∷ l) a

stood_put : (l : List ℕ) (a : ℕ) → Some a ≡ stood (l ++ (a ∷ []))
unfolding stood
stood_put [] a = ap Some (sym (last_put [] a))
stood_put (x ∷ l) a = ap Some (sym (last_put (x ∷ l) a))

pub last_written : (tour : List ℕ) (made a : ℕ) → made < length tour
    → Some a ≡ stood (take (made + 1) (set tour made a))
last_written tour made a h = rw (add-one made, take-suc-set tour made a h) (stood_put (take made tour) a)

-- the rest of the room stays
pub rest_kept : (tour room : List ℕ) (made a : ℕ) → drop made tour ≡ drop made room
    → drop (made + 1) (set tour made a) ≡ drop (made + 1) room
rest_kept tour room made a e =
    drop-set-lt (made + 1) tour made a (omega arith) ∙ sym (drop-drop 1 made tour) ∙ ap (drop 1) e
    ∙ drop-drop 1 made room

-- all steps made, the room holds the tour and its old rest
pub written : (g : Ground) (n : ℕ) (tour room visited : List ℕ) (made : ℕ) → length room ≡ n → n ≤ contour_limit
    → made ≤ length tour
    → way_of tour visited made ≡ each (step g n) n 0 set_out → drop made tour ≡ drop made room
    → Written (nearest g n) room made tour
unfolding nearest_within walked
written g n tour room visited made m h k w e =
    let q : nearest g n ≡ take made tour = rw (le-leb n contour_limit h) (sym (ap (λ (x : Way). x.tour) w)) in
    let l : length (take made tour) ≡ made = length-take-le made tour k in
    record { counted = rw q (sym l); held = rw (q, l, ← e) (sym (take-append-drop made tour)) }

-- too many contours: nothing is written
pub unwritten : (g : Ground) (n : ℕ) (room : List ℕ) → contour_limit < n → Written (nearest g n) room 0 room
unfolding nearest_within
unwritten g n room h = rw (lt-leb n contour_limit h) (record { counted = refl; held = refl })
