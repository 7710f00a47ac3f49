-- Kahn's topological order: positions are taken in the order in which they come free. Assumes nothing.
use Rattle.std.specs.Prelude.{cond, ◌&&◌, List, [], ◌∷◌, ◌++◌, ℕ, zero, suc, ◌+◌, ◌-◌, ltb, eqb, length, get_or, set, drop, replicate}
use Rattle.closure.specs.Limits.{contour_limit}
use Rattle.closure.specs.Pairs.{Pair, paired, both}

-- how far it has come: the positions taken, in their order; the queue of those that nothing holds back any more, in the
-- order in which they came free; and how many pairs still hold each position back
pub record Kahn : Type 0 where
  pub taken : List ℕ
  pub queue : List ℕ
  pub waits : List ℕ

-- one more pair holds position a back
abbrev pub held_back : List ℕ → ℕ → List ℕ
held_back w a = set w a (get_or w a 0 + 1)

-- each pair holds its second back; a pair of which one is not below n is passed over
unfoldable pub tallied : ℕ → List Pair → List ℕ → List ℕ
tallied n [] w = w
tallied n (p ∷ more) w = tallied n more (cond (both n p) (held_back w p.after) w)

-- the positions below k that nothing holds back, lowest first
unfoldable pub free_below : List ℕ → ℕ → List ℕ
free_below w zero = []
free_below w (suc k) = free_below w k ++ cond (eqb (get_or w k 0) 0) (k ∷ []) []

-- before any is taken, the queue has those that no pair holds back
unfoldable pub untaken : ℕ → List Pair → Kahn
unfolding tallied free_below
untaken n ps =
    let waits = tallied n ps (replicate contour_limit 0) in
    record { taken = []; queue = free_below waits n; waits = waits }

-- one pair less holds position a back; where it was the last one, a joins the queue
unfoldable pub loosened : Kahn → ℕ → Kahn
loosened s a = record {
  taken = s.taken;
  queue = s.queue ++ cond (eqb (get_or s.waits a 0) 1) (a ∷ []) [];
  waits = set s.waits a (get_or s.waits a 0 - 1);
}

-- x's pairs, in the order of the list, hold nothing back any more
unfoldable pub released : ℕ → ℕ → List Pair → Kahn → Kahn
unfolding loosened
released n x [] s = s
released n x (p ∷ more) s = released n x more (cond (eqb p.before x && both n p) (loosened s p.after) s)

-- the front of the queue is taken, and its pairs hold nothing back any more
unfoldable pub front_taken : ℕ → List Pair → Kahn → Kahn
unfolding released
front_taken n ps s =
    let x = get_or s.queue 0 0 in
    released n x ps (record { taken = s.taken ++ (x ∷ []); queue = drop 1 s.queue; waits = s.waits })

-- one after the other is taken until the queue is empty, but at most so many
unfoldable pub queue_taken : ℕ → ℕ → List Pair → Kahn → Kahn
unfolding front_taken
queue_taken zero n ps s = s
queue_taken (suc most) n ps s =
    let further = queue_taken most n ps (front_taken n ps s) in
    cond (ltb 0 (length s.queue)) further s

-- the order of the n positions: each is taken in its turn
unfoldable pub sorted_by : ℕ → List ℕ → List ℕ
unfolding paired queue_taken untaken
sorted_by n pairs = (queue_taken contour_limit n (paired pairs) (untaken n (paired pairs))).taken
