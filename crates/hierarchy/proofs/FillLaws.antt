-- A list held in the first entries of an array, the rest 0; and how the numbers picked from pairs fill one. Assumes
-- nothing.
use mathlib.Core.Bool.{Bool, true, false}
use mathlib.Core.Path.{◌≡◌, refl, sym, ap, ◌∙◌}
use mathlib.Core.List.{List, [], ◌∷◌, ◌++◌, map, append_assoc, append-nil}
use Prim.Native.Nat.{ℕ, ◌+◌, ◌*◌, ◌/◌, ◌≤◌, ◌<◌}
use native.Mathlib.Nat.{sub-zero}
use native.Mathlib.Omega.{arith}
use Rattle.std.proofs.lemmas.List.{drop-replicate}
use lib.ListN.{length, get_or, set, drop, replicate, length-append}
use Rattle.answer.specs.declared.Listed.{Listed}
use Rattle.closure.specs.Limits.{pair_limit}
use Rattle.std.specs.Simd.{first_chunks}
use Rattle.closure.specs.Pairs.{Pair, pair_of, paired}
use Rattle.closure.proofs.PairLaws.{left-at, left-none, chunks_are}
use Rattle.answer.specs.Room.{padded, listed}
use Rattle.answer.proofs.RoomLaws.{padded-one}
use Rattle.hierarchy.specs.Fill.{Filled}
use Rattle.hierarchy.specs.Questions.{picked, pair_list_of}

pub filled_none : (n : ℕ) → Filled n (replicate n 0) 0 []
filled_none n = record { holds = ap (λ (m : ℕ). replicate m 0) (sym (sub-zero n)); counts = refl }

pub filled_more : (n : ℕ) (items : List ℕ) (count : ℕ) (l : List ℕ) (x : ℕ) → count < n → Filled n items count l
    → Filled n (set items count x) (count + 1) (l ++ (x ∷ []))
filled_more n items count l x h f = record {
  holds = rw (f.holds, f.counts) (padded-one n 0 l x (length l) refl (omega (arith, f.counts)));
  counts = omega (arith, f.counts, length-append l (x ∷ []));
}

-- ---- numbers picked from the pairs

-- what is picked so far, with what is still to be picked, is the whole
pub record PickPart (n : ℕ) (test : Pair → Bool) (pick : Pair → ℕ) (chunks : List (List ℕ)) (i : ℕ) (items : List ℕ)
    (count : ℕ) : Type 0 where
  pub sofar : List ℕ
  pub filled : Filled n items count sofar
  pub left : sofar ++ picked test pick (drop i (map pair_of chunks)) ≡ picked test pick (map pair_of chunks)
  pub few : count ≤ i

pub pick_none : (n : ℕ) (test : Pair → Bool) (pick : Pair → ℕ) (chunks : List (List ℕ))
    → PickPart n test pick chunks 0 (replicate n 0) 0
pick_none n test pick chunks = record { sofar = []; filled = filled_none n; left = refl; few = omega arith }

module _ (n : ℕ) (test : Pair → Bool) (pick : Pair → ℕ) (chunks : List (List ℕ)) (i : ℕ) (items : List ℕ) (count : ℕ)
    (more : i < length chunks) (part : PickPart n test pick chunks i items count) where
  next : Pair
  next = pair_of (get_or chunks i [])

  picked-walk : part.sofar ++ picked test pick (next ∷ drop (i + 1) (map pair_of chunks))
      ≡ picked test pick (map pair_of chunks)
  unfolding next
  picked-walk = rw (left-at pair_of chunks i [] more) at part.left

  pub pick_yes : (x : ℕ) → x ≡ pick (pair_of (get_or chunks i [])) → count < n
      → test (pair_of (get_or chunks i [])) ≡ true
      → PickPart n test pick chunks (i + 1) (set items count x) (count + 1)
  unfolding picked next
  pick_yes x e h t = record {
    sofar = part.sofar ++ (x ∷ []);
    filled = filled_more n items count part.sofar x h part.filled;
    left = rw e (append_assoc part.sofar (pick next ∷ []) (picked test pick (drop (i + 1) (map pair_of chunks)))
        ∙ (rw t at picked-walk));
    few = omega (arith, part.few);
  }

  pub pick_no : test (pair_of (get_or chunks i [])) ≡ false → PickPart n test pick chunks (i + 1) items count
  unfolding picked next
  pick_no t = record {
    sofar = part.sofar;
    filled = part.filled;
    left = rw t at picked-walk;
    few = omega (arith, part.few);
  }

pub pick_all : (n : ℕ) (test : Pair → Bool) (pick : Pair → ℕ) (pairs : List ℕ) (chunks : List (List ℕ)) (i : ℕ)
    (items : List ℕ) (count : ℕ) → chunks ≡ first_chunks 2 (length pairs / 2) pairs → length chunks ≤ i
    → PickPart n test pick chunks i items count → Filled n items count (picked test pick (paired pairs))
unfolding picked
pick_all n test pick pairs chunks i items count are all part =
    let e : part.sofar ≡ picked test pick (map pair_of chunks) =
    sym (append-nil part.sofar) ∙ (rw (left-none pair_of chunks i all) at part.left) in
    rw (← chunks_are pairs chunks are, ← e) part.filled

pub listed_is : (n : ℕ) (items : List ℕ) (count : ℕ) (l : List ℕ) → Filled n items count l
    → ◌≡◌ {A = Listed ℕ n} (record { items = items; count = count }) (listed n 0 l)
listed_is n items count l f = rw (f.holds, f.counts)

-- ---- a list copied to the front

pub copied_front : (n : ℕ) (front l : List ℕ) → front ≡ l → front ++ drop (length l) (replicate n 0) ≡ padded n 0 l
copied_front n front l e = rw e (ap (λ (rest : List ℕ). l ++ rest) (drop-replicate (length l) n 0))

pub pairs_of : (items : List ℕ) (l : List ℕ) (whole : ℕ) → items ≡ padded (2 * pair_limit) 0 l → whole ≡ length l / 2 →
    ◌≡◌ {A = Rattle.hierarchy.specs.declared.PairList.PairList}
    (record { ids = items; count = whole }) (pair_list_of l)
pairs_of items l whole is e = rw (is, e)
