-- The questions on a list of pairs: what is refused, with which number and at which place, and what is answered.
-- Assumes nothing.
use Rattle.std.specs.Prelude.{Bool, cond, List, [], ◌∷◌, ℕ, ◌+◌, ◌*◌, ◌/◌, ◌%◌, ltb, eqb, length}
use Rattle.answer.specs.declared.Listed.{Listed}
use Rattle.answer.specs.Answer.{Answer, Check, Count, unless}
use Rattle.answer.specs.Stage.{or_else, first_refusal}
use Rattle.answer.specs.Lowest.{refuse_at, refuse_if}
use Rattle.closure.specs.Limits.{contour_limit, pair_limit}
use Rattle.closure.specs.Pairs.{Pair, paired, some_of, is_pair}
use Rattle.closure.specs.Cycle.{first_on_cycle}
use Rattle.answer.specs.Room.{padded, listed}
use Rattle.hierarchy.specs.declared.PairList.{PairList}
use Rattle.keep.specs.Keep.{keeps_pairs}
use Rattle.hierarchy.specs.Sort.{sorted_by}

-- ---- refusals

-- too many contours, then too many pairs, half a pair being one too, then half a pair at its own number
unfoldable pub pairs_check : ℕ → List ℕ → Check
unfolding first_refusal
pairs_check contours pairs =
    first_refusal
    (refuse_if (ltb contour_limit contours) 4 1
    ∷ (refuse_if (ltb pair_limit (length pairs / 2 + length pairs % 2)) 4 2
    ∷ (refuse_if (eqb (length pairs % 2) 1) 10 (length pairs / 2) ∷ [])))

-- then too many ids asked about
abbrev pub valid_check : ℕ → List ℕ → List ℕ → Check
valid_check contours pairs ids =
    or_else (pairs_check contours pairs) (refuse_if (ltb contour_limit (length ids)) 15 (length ids))

-- or then a cycle, at the lowest position on one
abbrev pub sort_check : ℕ → List ℕ → Check
sort_check contours pairs = or_else (pairs_check contours pairs) (refuse_at 12 (first_on_cycle contours pairs))

-- ---- pairs as they are handed out, in a room for the most there are

abbrev pub pair_list_of : List ℕ → PairList
pair_list_of l = record { ids = padded (2 * pair_limit) 0 l; count = length l / 2 }

-- ---- the questions

-- one number of each pair that passes the test, in the order of the list, repeats kept
unfoldable pub picked : (Pair → Bool) → (Pair → ℕ) → List Pair → List ℕ
picked test pick [] = []
picked test pick (p ∷ more) = cond (test p) (pick p ∷ picked test pick more) (picked test pick more)

-- the pair's second, or its first, is this id
abbrev pub ends_at : ℕ → Pair → Bool
ends_at id p = eqb p.after id

abbrev pub starts_at : ℕ → Pair → Bool
starts_at id p = eqb p.before id

-- how many contours there are
abbrev pub num_contours : ℕ → List ℕ → Count
num_contours contours pairs = unless (pairs_check contours pairs) contours

-- the pairs themselves
abbrev pub precedences_of : ℕ → List ℕ → Answer PairList
precedences_of contours pairs = unless (pairs_check contours pairs) (pair_list_of pairs)

-- cutting a before b breaks a pair that puts b before a
abbrev pub violates_of : ℕ → List ℕ → ℕ → ℕ → Answer Bool
violates_of contours pairs a b = unless (pairs_check contours pairs) (some_of (is_pair b a) (paired pairs))

-- the ids that pairs put before this one
abbrev pub predecessors_of : ℕ → List ℕ → ℕ → Answer (Listed ℕ pair_limit)
predecessors_of contours pairs id =
    unless (pairs_check contours pairs) (listed pair_limit 0 (picked (ends_at id) (λ p. p.before) (paired pairs)))

-- the ids that pairs put after this one
abbrev pub successors_of : ℕ → List ℕ → ℕ → Answer (Listed ℕ pair_limit)
successors_of contours pairs id =
    unless (pairs_check contours pairs) (listed pair_limit 0 (picked (starts_at id) (λ p. p.after) (paired pairs)))

-- the ids as given keep to the pairs
abbrev pub valid_sequence : ℕ → List ℕ → List ℕ → Answer Bool
valid_sequence contours pairs ids = unless (valid_check contours pairs ids) (keeps_pairs ids pairs)

-- the positions in topological order
abbrev pub topological_sort : ℕ → List ℕ → Answer (Listed ℕ contour_limit)
topological_sort contours pairs = unless (sort_check contours pairs) (listed contour_limit 0 (sorted_by contours pairs))
