-- The arrays of Kahn's order, step by step. Assumes nothing.
use mathlib.Core.Bool.{Bool, true, false, cond, ◌&&◌}
use mathlib.Core.Path.{◌≡◌, refl, sym, ap, ◌∙◌, subst}
use mathlib.Core.Logic.{⊎_elim}
use mathlib.Core.List.{List, [], ◌∷◌, ◌++◌, map, append-nil}
use Prim.Native.Nat.{ℕ, zero, suc, ◌+◌, ◌-◌, ◌/◌, ◌≤◌, ◌<◌}
use native.Mathlib.Numerals.{add-one}
use native.Mathlib.Omega.{arith}
use lib.Dec.{eqb, ltb}
use borrow.Author.Tests.{eq-eqb, ne_eqb, lt-ltb, le-ltb, ltb-true}
use lib.ListN.{length, get_or, set, take, drop, replicate, length-set, length-append, length-replicate, length-drop}
use lib.ListN.{take-append-drop}
use lib.Seq.{get_or-set_same, get_or-set_other, take-suc, take-suc-set, take_at, take_all, drop-cons, get_or-take}
use lib.Seq.{take-append-le, drop-append-le}
use Rattle.closure.specs.Limits.{contour_limit}
use Rattle.std.specs.Simd.{first_chunks}
use Rattle.closure.specs.Pairs.{Pair, pair_of, paired, both}
use Rattle.closure.proofs.PairLaws.{same_or, left-at, left-none, chunks_are}
use mathlib.Mathlib.Data.Bool.Basic.{and_elim_right}
use Rattle.answer.proofs.RoomLaws.{padded-length}
use Rattle.hierarchy.specs.Fill.{Filled}
use Rattle.hierarchy.specs.Sort.{Kahn, held_back, tallied, free_below, untaken, loosened, released, front_taken}
use Rattle.hierarchy.specs.Sort.{queue_taken, sorted_by}
use Rattle.hierarchy.specs.Code.{held_count, standing, first_taken, HasRoom, Stands}
use Rattle.answer.specs.declared.Listed.{Listed}
use Rattle.answer.specs.Room.{listed}
use Rattle.hierarchy.proofs.FillLaws.{filled_none, filled_more, listed_is}

pub both_yes : (n : ℕ) (p : Pair) → p.before < n → p.after < n → both n p ≡ true
both_yes n p hb ha = rw (lt-ltb p.before n hb, lt-ltb p.after n ha)

pub both_low : (n : ℕ) (p : Pair) → both n p ≡ true → p.after < n
both_low n p t = ltb-true p.after n (and_elim_right (ltb p.before n) (ltb p.after n) t)

-- ---- the tally

-- an array of zeros reads 0 everywhere
pub zeros : (n a : ℕ) → get_or {A = ℕ} (replicate n 0) a 0 ≡ 0
zeros zero a = refl
zeros (suc n) zero = refl
zeros (suc n) (suc a) = zeros n a

-- what is left to tally decides the whole, and no entry is above the number of pairs passed
pub record TallyPart (n : ℕ) (chunks : List (List ℕ)) (i : ℕ) (w : List ℕ) : Type 0 where
  pub size : length w ≡ contour_limit
  pub small : (a : ℕ) → get_or w a 0 ≤ i
  pub left : tallied n (drop i (map pair_of chunks)) w ≡ tallied n (map pair_of chunks) (replicate contour_limit 0)

pub tally-none : (n : ℕ) (chunks : List (List ℕ)) → TallyPart n chunks 0 (replicate contour_limit 0)
tally-none n chunks =
    record {
      size = length-replicate {A = ℕ} contour_limit 0;
      small = λ a. omega (arith, zeros contour_limit a);
      left = refl;
    }

-- the pair at this place of the chunks
abbrev pub pair_in : List (List ℕ) → ℕ → Pair
pair_in chunks i = pair_of (get_or chunks i [])

module _ (n : ℕ) (chunks : List (List ℕ)) (i : ℕ) (w : List ℕ) (more : i < length chunks) (part : TallyPart n chunks i w)
  where
    tally-walk : tallied n (drop (i + 1) (map pair_of chunks))
        (cond (both n (pair_in chunks i)) (held_back w (pair_in chunks i).after) w)
        ≡ tallied n (map pair_of chunks) (replicate contour_limit 0)
    unfolding tallied
    tally-walk = rw (left-at pair_of chunks i [] more) at part.left

    tally_small : (a : ℕ) → a < contour_limit → (x : ℕ) → get_or (held_back w a) x 0 ≤ i + 1
    tally_small a h x = ⊎_elim
        (λ (e : x ≡ a). rw (e, get_or-set_same w a (get_or w a 0 + 1) 0 (omega (arith, part.size)))
        (omega (arith, part.small a)))
        (λ (d : x ≡ a → ⊥). rw (get_or-set_other w a x (get_or w a 0 + 1) 0 d) (omega (arith, part.small x))) (same_or x a)

    pub tally_low : both n (pair_in chunks i) ≡ true → n ≤ contour_limit → (pair_in chunks i).after < contour_limit
    tally_low t low = omega (arith, both_low n (pair_in chunks i) t)

    pub tally_hit : both n (pair_in chunks i) ≡ true → n ≤ contour_limit
        → TallyPart n chunks (i + 1) (held_back w (pair_in chunks i).after)
    tally_hit t low = record {
      size = length-set w (pair_in chunks i).after (get_or w (pair_in chunks i).after 0 + 1) ∙ part.size;
      small = tally_small (pair_in chunks i).after (tally_low t low);
      left = rw t at tally-walk;
    }

    pub tally_miss : both n (pair_in chunks i) ≡ false → TallyPart n chunks (i + 1) w
    tally_miss f = record {
      size = part.size;
      small = λ a. omega (arith, part.small a);
      left = rw f at tally-walk;
    }

pub tally_all : (n : ℕ) (pairs : List ℕ) (chunks : List (List ℕ)) (i : ℕ) (w : List ℕ)
    → chunks ≡ first_chunks 2 (length pairs / 2) pairs → length chunks ≤ i → TallyPart n chunks i w
    → w ≡ tallied n (paired pairs) (replicate contour_limit 0)
unfolding tallied
tally_all n pairs chunks i w are all part =
    rw (← chunks_are pairs chunks are) (rw (left-none pair_of chunks i all) at part.left)

-- ---- the positions that are free at first

pub record FreePart (w : List ℕ) (n k : ℕ) (order : List ℕ) (count : ℕ) : Type 0 where
  pub within : k ≤ n
  pub few : count ≤ k
  pub filled : Filled contour_limit order count (free_below w k)

pub free-none : (w : List ℕ) (n : ℕ) (order : List ℕ) → order ≡ replicate contour_limit 0 → FreePart w n 0 order 0
unfolding free_below
free-none w n order e = record { within = omega arith; few = omega arith; filled = rw e (filled_none contour_limit) }

module _ (w : List ℕ) (n k : ℕ) (order : List ℕ) (count : ℕ) (low : n ≤ contour_limit) (more : k < n)
    (part : FreePart w n k order count) where
  pub free_yes : get_or w k 0 ≡ 0 → FreePart w n (k + 1) (set order count k) (count + 1)
  unfolding free_below
  free_yes e = record {
    within = omega arith;
    few = omega (arith, part.few);
    filled = rw (add-one k, eq-eqb (get_or w k 0) 0 e)
        (filled_more contour_limit order count (free_below w k) k (omega (arith, part.few)) part.filled);
  }

  pub free_no : (get_or w k 0 ≡ 0 → ⊥) → FreePart w n (k + 1) order count
  unfolding free_below
  free_no d = record {
    within = omega arith;
    few = omega (arith, part.few);
    filled = rw (add-one k, ne_eqb (get_or w k 0) 0 d, append-nil (free_below w k)) part.filled;
  }

pub free_all : (w : List ℕ) (n k : ℕ) (order : List ℕ) (count : ℕ) → n ≤ k → FreePart w n k order count
    → Filled contour_limit order count (free_below w n)
free_all w n k order count all part = let e : k ≡ n =
    omega (arith, part.within) in subst (λ (z : ℕ). Filled contour_limit order count (free_below w z)) e part.filled

-- ---- one position held back less

-- whether one is held back, as a number
abbrev held : ℕ → ℕ
held w = cond (eqb w 0) 0 1

held-set : (w : List ℕ) (a v : ℕ) → a < length w → held_count (set w a v) + held (get_or w a 0) ≡ held_count w + held v
unfolding held_count
held-set [] a v h = absurd (omega arith)
held-set (x ∷ w) zero v h = omega arith
held-set (x ∷ w) (suc a) v h = let e : held_count (set w a v) + held (get_or w a 0) ≡ held_count w + held v =
    held-set w a v (omega arith) in omega arith

held_no : (w : ℕ) → w ≡ 0 → held w ≡ 0
held_no w e = rw (eq-eqb w 0 e)

held_yes : (w : ℕ) → (w ≡ 0 → ⊥) → held w ≡ 1
held_yes w d = rw (ne_eqb w 0 d)

-- the array is as long as the limit
roomy_length : (w o : List ℕ) (k : ℕ) → HasRoom w o k → length o ≡ contour_limit
roomy_length w o k s =
    ap length s.filled.holds ∙ padded-length contour_limit 0 (take k o) (omega (arith, s.filled.counts, s.room))

module _ (w o : List ℕ) (k a : ℕ) (roomy : HasRoom w o k) (ha : a < contour_limit) where
  in_waits : a < length w
  in_waits = omega (arith, roomy.size)

  -- a position that one pair holds back has a place left in the order
  room_next : get_or w a 0 ≡ 1 → k + 1 + held_count (set w a 0) ≤ contour_limit
  room_next e =
      let h : held_count (set w a 0) + held (get_or w a 0) ≡ held_count w + held 0 = held-set w a 0 in_waits in
      omega (arith, held_yes (get_or w a 0) (omega arith), held_no 0 refl, roomy.room)

  pub room_left : get_or w a 0 ≡ 1 → k < contour_limit
  room_left e = omega (arith, room_next e)

  pub loosen_last : get_or w a 0 ≡ 1 → Stands (loosened (standing w o k) a) (set w a 0) (set o k a) (k + 1)
  unfolding loosened
  loosen_last e = record {
    roomy = record {
      size = length-set w a 0 ∙ roomy.size;
      filled = rw longer (filled_more contour_limit o k (take k o) a (room_left e) roomy.filled);
      room = room_next e;
    };
    is = rw (longer, e);
  }
    where
      longer : take (k + 1) (set o k a) ≡ take k o ++ (a ∷ [])
      longer = rw (add-one k) (take-suc-set o k a (omega (arith, roomy_length w o k roomy, room_left e)))

  pub loosen-one : (v : ℕ) → v ≡ get_or w a 0 - 1 → (get_or w a 0 ≡ 1 → ⊥)
      → Stands (loosened (standing w o k) a) (set w a v) o k
  unfolding loosened
  loosen-one v p d = record {
    roomy = record {
      size = length-set w a v ∙ roomy.size;
      filled = roomy.filled;
      room =
          let h : held_count (set w a v) + held (get_or w a 0) ≡ held_count w + held v = held-set w a v in_waits in
          ⊎_elim
          (λ (z : get_or w a 0 ≡ 0). omega (arith, held_no (get_or w a 0) z, held_no v (omega arith), roomy.room))
          (λ (z : get_or w a 0 ≡ 0 → ⊥). omega (arith, held_yes (get_or w a 0) z, held_yes v (omega arith), roomy.room))
          (same_or (get_or w a 0) 0);
    };
    is = rw (p, ne_eqb (get_or w a 0) 1 d, append-nil (take k o));
  }

-- ---- all pairs of one position

pub record ReleasePart (n x : ℕ) (chunks : List (List ℕ)) (i : ℕ) (s : Kahn) (w o : List ℕ) (k : ℕ) : Type 0 where
  pub roomy : HasRoom w o k
  pub left :
      released n x (drop i (map pair_of chunks)) (standing w o k) ≡ released n x (map pair_of chunks) s

pub release-none : (n x : ℕ) (chunks : List (List ℕ)) (w o : List ℕ) (k : ℕ) → HasRoom w o k
    → ReleasePart n x chunks 0 (standing w o k) w o k
release-none n x chunks w o k roomy = record { roomy = roomy; left = refl }

module _ (n x : ℕ) (chunks : List (List ℕ)) (i : ℕ) (s : Kahn) (w o : List ℕ) (k : ℕ) (r : Bool)
    (more : i < length chunks) (part : ReleasePart n x chunks i s w o k)
    (is : r ≡ (eqb (pair_in chunks i).before x && both n (pair_in chunks i))) where
  release-walk : released n x (drop (i + 1) (map pair_of chunks))
      (cond r (loosened (standing w o k) (pair_in chunks i).after) (standing w o k)) ≡ released n x (map pair_of chunks) s
  unfolding released
  release-walk = rw is (rw (left-at pair_of chunks i [] more) at part.left)

  pub release_hit : (w' o' : List ℕ) (k' : ℕ) → r ≡ true
      → Stands (loosened (standing w o k) (pair_in chunks i).after) w' o' k'
      → ReleasePart n x chunks (i + 1) s w' o' k'
  release_hit w' o' k' t stands = record { roomy = stands.roomy; left = rw stands.is (rw t at release-walk) }

  pub release_miss : r ≡ false → ReleasePart n x chunks (i + 1) s w o k
  release_miss t = record { roomy = part.roomy; left = rw t at release-walk }

  -- a pair that counts has its second below the limit
  pub release_low : n ≤ contour_limit → r ≡ true → (pair_in chunks i).after < contour_limit
  release_low low t =
      omega (
        arith,
        both_low n (pair_in chunks i)
            (and_elim_right (eqb (pair_in chunks i).before x) (both n (pair_in chunks i)) (sym is ∙ t)),
      )

pub release_all : (n x : ℕ) (pairs : List ℕ) (chunks : List (List ℕ)) (i : ℕ) (s : Kahn) (w o : List ℕ) (k : ℕ)
    → chunks ≡ first_chunks 2 (length pairs / 2) pairs → length chunks ≤ i →
    ReleasePart n x chunks i s w o k → Stands (released n x (paired pairs) s) w o k
unfolding released
release_all n x pairs chunks i s w o k are all part = record {
  roomy = part.roomy;
  is = rw (← chunks_are pairs chunks are) (rw (left-none pair_of chunks i all) at part.left);
}

-- ---- one position of the queue after the other

-- what comes free joins the queue at its end: it does not matter how many of its first are taken
module _ (i : ℕ) (s : Kahn) (h : i ≤ length s.queue) where
  loosened_behind : (a : ℕ) → loosened (first_taken i s) a ≡ first_taken i (loosened s a)
  unfolding loosened
  loosened_behind a =
      let l = cond (eqb (get_or s.waits a 0) 1) (a ∷ []) [] in
      rw (take-append-le i s.queue l h, drop-append-le i s.queue l h)

  loosened-longer : (a : ℕ) → i ≤ length (loosened s a).queue
  unfolding loosened
  loosened-longer a = omega (arith, length-append s.queue (cond (eqb (get_or s.waits a 0) 1) (a ∷ []) []))

released_behind : (n x i : ℕ) (ps : List Pair) (s : Kahn) → i ≤ length s.queue →
    released n x ps (first_taken i s) ≡ first_taken i (released n x ps s)
unfolding released
released_behind n x i [] s h = refl
released_behind n x i (p ∷ more) s h = go (eqb p.before x && both n p) (released_behind n x i more)
  where
    go : (b : Bool) →
        ((t : Kahn) → i ≤ length t.queue → released n x more (first_taken i t) ≡ first_taken i (released n x more t)) →
        released n x more (cond b (loosened (first_taken i s) p.after) (first_taken i s))
        ≡ first_taken i (released n x more (cond b (loosened s p.after) s))
    go true rec =
        ap (released n x more) (loosened_behind i s h p.after)
        ∙ rec (loosened s p.after) (loosened-longer i s h p.after)
    go false rec = rec s h

-- the front is the position behind those that are taken
pub front_taken_lem : (n i : ℕ) (ps : List Pair) (s : Kahn) → i < length s.queue →
    front_taken n ps (first_taken i s) ≡ first_taken (suc i) (released n (get_or s.queue i 0) ps s)
unfolding front_taken
front_taken_lem n i ps s h =
    rw (drop-cons s.queue i 0 h, ← take-suc s.queue i 0 h)
    (released_behind n (get_or s.queue i 0) (suc i) ps s h)

pub queue_step : (most n i : ℕ) (ps : List Pair) (s : Kahn) → i < length s.queue →
    queue_taken (suc most) n ps (first_taken i s)
    ≡ queue_taken most n ps (first_taken (suc i) (released n (get_or s.queue i 0) ps s))
unfolding queue_taken
queue_step most n i ps s h =
    rw (lt-ltb 0 (length (drop i s.queue)) (omega (arith, length-drop i s.queue)), front_taken_lem n i ps s h)

pub queue_end : (most n i : ℕ) (ps : List Pair) (s : Kahn) → length s.queue ≤ i →
    queue_taken most n ps (first_taken i s) ≡ first_taken i s
unfolding queue_taken
queue_end zero n i ps s h = refl
queue_end (suc most) n i ps s h = rw (le-ltb 0 (length (drop i s.queue)) (omega (arith, length-drop i s.queue)))

pub record QueuePart (n : ℕ) (pairs : List ℕ) (i : ℕ) (s : Kahn) (w o : List ℕ) (k : ℕ) : Type 0 where
  pub roomy : HasRoom w o k
  pub left :
      queue_taken (contour_limit - i) n (paired pairs) (first_taken i (standing w o k))
      ≡ queue_taken contour_limit n (paired pairs) s

pub queue_none : (n : ℕ) (pairs w o : List ℕ) (k : ℕ) → HasRoom w o k → QueuePart n pairs 0 (standing w o k) w o k
queue_none n pairs w o k roomy = record { roomy = roomy; left = refl }

pub queue_more : (n : ℕ) (pairs : List ℕ) (i : ℕ) (s : Kahn) (w o : List ℕ) (k x : ℕ) (w' o' : List ℕ) (k' : ℕ) →
    i < k → x ≡ get_or o i 0 → QueuePart n pairs i s w o k →
    Stands (released n x (paired pairs) (standing w o k)) w' o' k' → QueuePart n pairs (i + 1) s w' o' k'
queue_more n pairs i s w o k x w' o' k' h e part stands = record {
  roomy = stands.roomy;
  left =
      let c : k ≡ length (take k o) = part.roomy.filled.counts in
      let f : contour_limit - i ≡ suc (contour_limit - (i + 1)) = omega (arith, part.roomy.room) in
      let x_is : x ≡ get_or (take k o) i 0 = e ∙ sym (get_or-take k o i 0 h) in
      ap (λ (t : Kahn). queue_taken (contour_limit - (i + 1)) n (paired pairs) (first_taken (i + 1) t)) stands.is
      ∙ rw (x_is, add-one i)
      (sym (queue_step (contour_limit - suc i) n i (paired pairs) (standing w o k) (omega arith))
      ∙ (rw (f, add-one i) at part.left));
}

pub queue_all : (n : ℕ) (pairs : List ℕ) (i : ℕ) (s : Kahn) (w o : List ℕ) (k : ℕ) → k ≤ i →
    QueuePart n pairs i s w o k →
    Filled contour_limit o k (queue_taken contour_limit n (paired pairs) s).taken
queue_all n pairs i s w o k h part =
    let c : k ≡ length (take k o) = part.roomy.filled.counts in
    let at-end = queue_end (contour_limit - i) n i (paired pairs) (standing w o k) (omega arith) in
    let e : (queue_taken contour_limit n (paired pairs) s).taken ≡ take k o =
    ap (λ (t : Kahn). t.taken) (sym part.left ∙ at-end) ∙ take_all i (take k o) (omega arith) in
    rw e part.roomy.filled

-- ---- how it stands at first

held-append : (a b : List ℕ) → held_count (a ++ b) ≡ held_count a + held_count b
unfolding held_count
held-append [] b = omega arith
held-append (x ∷ a) b = let e : held_count (a ++ b) ≡ held_count a + held_count b = held-append a b in omega arith

held-le : (l : List ℕ) → held_count l ≤ length l
unfolding held_count
held-le [] = omega arith
held-le (x ∷ l) = let h : held_count l ≤ length l = held-le l in
    ⊎_elim (λ (z : x ≡ 0). omega (arith, held_no x z)) (λ (z : x ≡ 0 → ⊥). omega (arith, held_yes x z)) (same_or x 0)

held_one : (x : ℕ) → held_count (x ∷ []) ≡ held x
unfolding held_count
held_one x = omega arith

free-take : (w : List ℕ) (n : ℕ) → n ≤ length w → length (free_below w n) + held_count (take n w) ≡ n
unfolding free_below held_count
free-take w zero h = omega arith
free-take w (suc n) h =
    let i : length (free_below w n) + held_count (take n w) ≡ n = free-take w n (omega arith) in
    let t : held_count (take (suc n) w) ≡ held_count (take n w) + held (get_or w n 0) =
    ap held_count (take-suc w n 0 h) ∙ held-append (take n w) (get_or w n 0 ∷ [])
    ∙ ap (λ (z : ℕ). held_count (take n w) + z) (held_one (get_or w n 0)) in
    ⊎_elim
    (λ (z : get_or w n 0 ≡ 0). let f : length (free_below w (suc n)) ≡ length (free_below w n) + 1 =
    rw (eq-eqb (get_or w n 0) 0 z) (length-append (free_below w n) (n ∷ [])) in omega (arith, held_no (get_or w n 0) z))
    (λ (z : get_or w n 0 ≡ 0 → ⊥). let f : length (free_below w (suc n)) ≡ length (free_below w n) =
    rw (ne_eqb (get_or w n 0) 0 z, append-nil (free_below w n)) in omega (arith, held_yes (get_or w n 0) z))
    (same_or (get_or w n 0) 0)

free_room : (w : List ℕ) (n : ℕ) → n ≤ length w → length (free_below w n) + held_count w ≤ length w
free_room w n h =
    let e : held_count w ≡ held_count (take n w) + held_count (drop n w) =
    ap held_count (sym (take-append-drop n w)) ∙ held-append (take n w) (drop n w) in
    omega (arith, free-take w n h, held-le (drop n w), length-drop n w)

pub tallied-length : (n : ℕ) (ps : List Pair) (w : List ℕ) → length (tallied n ps w) ≡ length w
unfolding tallied
tallied-length n [] w = refl
tallied-length n (p ∷ more) w = tallied-length n more (cond (both n p) (held_back w p.after) w) ∙ go (both n p)
  where
    go : (b : Bool) → length (cond b (held_back w p.after) w) ≡ length w
    go true = length-set w p.after (get_or w p.after 0 + 1)
    go false = refl

pub stands_first : (n : ℕ) (pairs w o : List ℕ) (k : ℕ) → n ≤ contour_limit →
    w ≡ tallied n (paired pairs) (replicate contour_limit 0) → Filled contour_limit o k (free_below w n) →
    Stands (untaken n (paired pairs)) w o k
unfolding untaken
stands_first n pairs w o k low e f = record {
  roomy = record {
    size = size;
    filled = rw is (f);
    room = omega (arith, f.counts, free_room w n (omega (arith, size)), size);
  };
  is = rw (is, e);
}
  where
    size : length w ≡ contour_limit
    size = ap length e ∙ tallied-length n (paired pairs) (replicate contour_limit 0)

    is : take k o ≡ free_below w n
    is = ap (take k) f.holds ∙ take_at (free_below w n) (replicate (contour_limit - length (free_below w n)) 0) k
        (sym f.counts)

-- the whole order, as the code hands it back
pub sorted_is : (n : ℕ) (pairs w o : List ℕ) (k : ℕ) (o' : List ℕ) (k' : ℕ) → Stands (untaken n (paired pairs)) w o k →
    Filled contour_limit o' k' (queue_taken contour_limit n (paired pairs) (standing w o k)).taken →
    ◌≡◌ {A = Listed ℕ contour_limit} (record { items = o'; count = k' }) (listed contour_limit 0 (sorted_by n pairs))
unfolding sorted_by
sorted_is n pairs w o k o' k' first last =
    listed_is contour_limit o' k' (queue_taken contour_limit n (paired pairs) (untaken n (paired pairs))).taken
    (subst (λ (s : Kahn). Filled contour_limit o' k' (queue_taken contour_limit n (paired pairs) s).taken) first.is
    last)
