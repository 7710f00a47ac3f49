-- Last ranks as the loops find them, in a table filled entry by entry or for one id at a time. Assumes nothing.
use mathlib.Core.Bool.{Bool, true, false, cond, not, ◌&&◌}
use mathlib.Core.Path.{◌≡◌, refl, sym, ap, ◌∙◌}
use mathlib.Core.Logic.{⊎_elim}
use mathlib.Core.List.{List, [], ◌∷◌, ◌++◌, map, reverse}
use Prim.Native.Nat.{ℕ, zero, suc, ◌+◌, ◌-◌, ◌/◌, ◌≤◌, ◌<◌}
use native.Mathlib.Numerals.{add-one}
use native.Mathlib.Omega.{arith}
use lib.Dec.{eqb, ltb}
use borrow.Author.Tests.{eq-eqb, ne_eqb, lt-ltb, le-ltb, ltb-false}
use lib.ListN.{length, get_or, set, drop, replicate, length-set, get_or-replicate, drop_of_length-le}
use lib.Seq.{drop-cons, get_or-set_same, get_or-set_other}
use Rattle.std.specs.Simd.{first_chunks}
use Rattle.std.specs.Prelude.{Option, Some, None, IfSome}
use Rattle.std.specs.List.{position_or_len}
use Rattle.std.specs.Option.{MatchOption, IsSomeAnd}
use Rattle.std.proofs.lemmas.Grind.{reverse_onto}
use Rattle.std.proofs.lemmas.List.{length-reverse}
use Rattle.std.proofs.lemmas.List.Folds.{position_or_len_push}
use Rattle.std.proofs.lemmas.List.Sums.{prefix_len-le-length}
use Rattle.closure.specs.Pairs.{pair_of, paired, every}
use Rattle.closure.proofs.PairLaws.{same_or, chunks_are}
use Rattle.keep.specs.Keep.{last_rank, kept_at, kept_in, keeps_pairs}
use Rattle.keep.specs.Code.{latest, RanksOf}

-- what the loops find is the last rank in what is left, where x is there, and else what was met before
latest_is : (x k met : ℕ) (l : List ℕ) → latest x k met l ≡ cond (ltb 0 (last_rank l x)) (k + last_rank l x) met
unfolding latest last_rank
latest_is x k met [] = refl
latest_is x k met (y ∷ l) = latest_is x (suc k) (cond (eqb y x) (suc k) met) l ∙ go (last_rank l x) (eqb y x)
  where
    go : (later : ℕ) (b : Bool) → cond (ltb 0 later) (suc k + later) (cond b (suc k) met) ≡
        (let r = cond (ltb 0 later) (suc later) (cond b 1 0) in cond (ltb 0 r) (k + r) met)
    go zero true = omega arith
    go zero false = refl
    go (suc later) b = rw (lt-ltb 0 (suc later) (omega arith), lt-ltb 0 (suc (suc later)) (omega arith)) (omega arith)

-- the loops' last rank in a whole order is the definition's
pub latest_last : (x : ℕ) (order : List ℕ) → latest x 0 0 order ≡ last_rank order x
latest_last x order = latest_is x 0 0 order ∙ go (last_rank order x)
  where
    go : (r : ℕ) → cond (ltb 0 r) (0 + r) 0 ≡ r
    go zero = refl
    go (suc r) = rw (lt-ltb 0 (suc r) (omega arith)) (omega arith)

-- one step of the walk
latest-step : (x k met y : ℕ) (more : List ℕ)
    → latest x k met (y ∷ more) ≡ latest x (suc k) (cond (eqb y x) (suc k) met) more
unfolding latest
latest-step x k met y more = refl

-- the table has an entry for each byte, and going on from entry i with what it holds gives what the whole order gives
pub record RanksPart (order : List ℕ) (i : ℕ) (p q : List ℕ) : Type 0 where
  pub size : length q ≡ 256
  pub within : i ≤ length order
  pub left : (x : ℕ) → x < 256 → latest x i (get_or q x 0) (drop i order) ≡ latest x 0 (get_or p x 0) order

pub ranks_none : (order p : List ℕ) → length p ≡ 256 → RanksPart order 0 p p
ranks_none order p size = record { size = size; within = omega arith; left = λ x h. refl }

pub ranks_more : (order : List ℕ) (i y : ℕ) (p q : List ℕ) → y ≡ get_or order i 0 → y < 256 → i < length order →
    RanksPart order i p q → RanksPart order (i + 1) p (set q y (i + 1))
ranks_more order i y p q e small more part = record {
  size = length-set q y (i + 1) ∙ part.size;
  within = omega arith;
  left = λ x h. step x h ∙ (rw (drop-cons order i 0 more, ← e) at (part.left x h));
}
  where
    step : (x : ℕ) → x < 256
        → latest x (i + 1) (get_or (set q y (i + 1)) x 0) (drop (i + 1) order)
        ≡ latest x i (get_or q x 0) (y ∷ drop (suc i) order)
    step x h = ⊎_elim
        (λ (s : x ≡ y). rw (
          s,
          get_or-set_same q y (i + 1) 0 (omega (arith, part.size)),
          latest-step,
          eq-eqb y y refl,
          add-one i,
        ))
        (λ (d : x ≡ y
        → ⊥). rw (get_or-set_other q y x (i + 1) 0 d, latest-step, ne_eqb y x (λ z. d (sym z)), add-one i))
        (same_or x y)

pub ranks_all : (order : List ℕ) (i : ℕ) (p q : List ℕ) → length order ≤ i → RanksPart order i p q → RanksOf order p q
unfolding latest
ranks_all order i p q all part = record { told = λ x h. rw (drop_of_length-le order all) at (part.left x h) }

-- ---- the answer for the pairs of the list

-- a table that was zero at first holds the last rank of a number of the list
pub table_rank : (order ranks : List ℕ) (x y : ℕ) → RanksOf order (replicate 256 0) ranks → x ≡ y → x < 256 →
    get_or ranks x 0 ≡ last_rank order y
table_rank order ranks x y table e h =
    table.told x h ∙ ap (λ (z : ℕ). latest x 0 z order) (get_or-replicate 256 x 0 0 h)
    ∙ latest_last x order ∙ ap (last_rank order) e

-- so where all numbers of the list are bytes, what it says of all pairs is what the order says
all_ranks : (order ranks pairs : List ℕ) → RanksOf order (replicate 256 0) ranks
    → ((i : ℕ) → get_or pairs i 0 < 256)
    → every (λ p. kept_at (get_or ranks p.before 0) (get_or ranks p.after 0)) (paired pairs) ≡ keeps_pairs order pairs
unfolding paired every keeps_pairs kept_in
all_ranks order ranks [] table bytes = refl
all_ranks order ranks (b ∷ []) table bytes = refl
all_ranks order ranks (b ∷ (a ∷ more)) table bytes =
    rw (table_rank order ranks b b table refl (bytes 0), table_rank order ranks a a table refl (bytes 1))
    (ap (λ (all : Bool). kept_at (last_rank order b) (last_rank order a) && all)
    (all_ranks order ranks more table (λ i. bytes (suc (suc i)))))

pub table_keeps : (order ranks pairs : List ℕ) (chunks : List (List ℕ))
    → chunks ≡ first_chunks 2 (length pairs / 2) pairs
    → RanksOf order (replicate 256 0) ranks → ((i : ℕ) → get_or pairs i 0 < 256)
    → every (λ p. kept_at (get_or ranks p.before 0) (get_or ranks p.after 0)) (map pair_of chunks)
    ≡ keeps_pairs order pairs
table_keeps order ranks pairs chunks are table bytes =
    rw (chunks_are pairs chunks are) (all_ranks order ranks pairs table bytes)

-- ---- the last rank of one id, looked for from the back

abbrev is_id : ℕ → ℕ → Bool
is_id id x = eqb x id

-- how far from the back it is decides the last rank
back_step : (b : Bool) (p n later : ℕ) → p ≤ n → later ≡ n - p →
    cond (ltb 0 later) (suc later) (cond b 1 0) ≡ suc n - cond (eqb p n) (n + cond b 0 1) p
back_step b p n later h e = ⊎_elim
    (λ (s : p ≡ n). rw (eq-eqb p n s, le-ltb 0 later (omega arith)) (last b))
    (λ (d : p ≡ n → ⊥). rw (ne_eqb p n d, lt-ltb 0 later (omega arith)) (omega arith)) (same_or p n)
  where
    last : (b : Bool) → cond b 1 0 ≡ suc n - (n + cond b 0 1)
    last true = omega arith
    last false = omega arith

rank_back : (id : ℕ) (ids : List ℕ) → last_rank ids id ≡ length ids - position_or_len (is_id id) (reverse ids)
unfolding last_rank
rank_back id [] = refl
rank_back id (x ∷ more) =
    let at : position_or_len (is_id id) (reverse more ++ x ∷ [])
    ≡ cond (eqb (position_or_len (is_id id) (reverse more)) (length (reverse more)))
    (length (reverse more) + cond (eqb x id) 0 1) (position_or_len (is_id id) (reverse more)) =
    position_or_len_push (is_id id) (reverse more) x in
    rw (reverse_onto more x [], at, length-reverse more)
    (back_step (eqb x id) (position_or_len (is_id id) (reverse more)) (length more) (last_rank more id)
    (rw (← length-reverse more) (prefix_len-le-length (λ y. not (eqb y id)) (reverse more))) (rank_back id more))

-- a place from the front as one from the back
abbrev pub from_back : ℕ → Option ℕ → Option ℕ
from_back n None = None
from_back n (Some i) = Some (n - 1 - i)

pub turned : {A : Type 0} (n len : ℕ) (r : Option ℕ) (o : Option A) (C : A → Type 0)
    → MatchOption o (r ≡ None) (λ x. IsSomeAnd r (λ i. i + 1 + len ≡ n) × C x)
    → MatchOption o (from_back n r ≡ None) (λ x. (from_back n r ≡ Some len) × C x)
turned n len r None C m = ap (from_back n) m
turned n len None (Some x) C m = absurd m.0
turned n len (Some i) (Some x) C m = (ap Some (let e : i + 1 + len ≡ n = m.0 in omega arith), m.1)

-- what is there only where a test is passed
pub some_is : (t : Bool) (v x : ℕ) → Some x ≡ cond t (Some v) None → (t ≡ true) × (x ≡ v)
some_is true v x e = (refl, cc)
some_is false v x e = absurd (let z : ◌≡◌ {A = ℕ} 0 1 = cc in omega arith)

pub none_is : (t : Bool) (v : ℕ) → None ≡ cond t (Some v) None → t ≡ false
none_is true v e = absurd (let z : ◌≡◌ {A = ℕ} 0 1 = cc in omega arith)
none_is false v e = refl

-- the place of the last one, and so its rank
pub rank_told : (id : ℕ) (ids : List ℕ) (r : Option ℕ) (rank : ℕ) → IfSome r (λ i. i < length ids)
    → from_back (length ids) r ≡ cond (ltb (position_or_len (is_id id) (reverse ids)) (length (reverse ids)))
    (Some (position_or_len (is_id id) (reverse ids))) None
    → MatchOption r (rank ≡ 0) (λ i. rank ≡ i + 1) → rank ≡ last_rank ids id
rank_told id ids None rank h e m =
    let p = position_or_len (is_id id) (reverse ids) in
    let f = none_is (ltb p (length (reverse ids))) p e in
    let l = length-reverse ids in
    let q = ltb-false p (length (reverse ids)) f in
    m ∙ sym (rank_back id ids ∙ omega arith)
rank_told id ids (Some i) rank h e m =
    let p = position_or_len (is_id id) (reverse ids) in
    let f : length ids - 1 - i ≡ p = (some_is (ltb p (length (reverse ids))) p (length ids - 1 - i) e).1 in
    m ∙ sym (rank_back id ids ∙ omega (arith, h, f))
