-- What a store into the table of flags does to each flag, and what joining rows comes to. Assumes nothing.
use mathlib.Core.Bool.{Bool, true, false, ◌&&◌, ◌||◌, or-true, or-false, or_assoc}
use mathlib.Core.Path.{◌≡◌, refl, sym, ap, ◌∙◌, subst}
use mathlib.Core.Logic.{⊎_elim}
use mathlib.Core.List.{List, [], ◌∷◌}
use Prim.Native.Nat.{ℕ, zero, suc, ◌+◌, ◌≤◌, ◌<◌, min}
use native.Mathlib.Numerals.{add-one}
use native.Mathlib.Omega.{arith}
use lib.ListN.{length, get_or, set, drop, replicate, length-set, length-replicate, get_or-replicate, drop_of_length-le}
use lib.Seq.{get_or-set_same, get_or-set_other}
use Rattle.answer.specs.Lowest.{lowest}
use Rattle.answer.proofs.LowestLaws.{lowest_same}
use borrow.Author.Tests.{lt-ltb}
use Rattle.closure.proofs.PairLaws.{same_or, both-or, lt-or, is_pair_lem, no_pair}
use Rattle.closure.specs.Limits.{contour_limit}
use Rattle.closure.specs.Pairs.{Pair, paired, some_of, is_pair}
use Rattle.closure.specs.Cycle.{linked, leads, on_cycle, first_on_cycle}
use Rattle.closure.specs.Flags.{flag, Whole, RowJoined, RowsJoined, Noted, Says}

-- the table with v as the flag of i and j
abbrev put : List (List Bool) → ℕ → ℕ → Bool → List (List Bool)
put f i j v = set f i (set (get_or f i []) j v)

module _ (f : List (List Bool)) (i j : ℕ) (v : Bool) (w : Whole f) (hi : i < contour_limit) where
  put-row : get_or (put f i j v) i [] ≡ set (get_or f i []) j v
  put-row = get_or-set_same f i (set (get_or f i []) j v) [] (omega (arith, w.rows))

  pub put_here : j < contour_limit → flag (put f i j v) i j ≡ v
  put_here hj = rw put-row (get_or-set_same (get_or f i []) j v false (omega (arith, w.row i hi)))

  -- every other flag stays
  pub put_other : (r c : ℕ) → (r ≡ i → c ≡ j → ⊥) → flag (put f i j v) r c ≡ flag f r c
  put_other r c ne = ⊎_elim
      (λ (e : r ≡ i). rw (e, put-row) (get_or-set_other (get_or f i []) j c v false (ne e)))
      (λ (d : r ≡ i → ⊥). rw (get_or-set_other f i r (set (get_or f i []) j v) [] d)) (same_or r i)

  pub put_whole : Whole (put f i j v)
  put_whole = record {
    rows = length-set f i (set (get_or f i []) j v) ∙ w.rows;
    row = λ r h. ⊎_elim
        (λ (e : r ≡ i). rw (e, put-row) (length-set (get_or f i []) j v ∙ w.row i hi))
        (λ (d : r ≡ i → ⊥). rw (get_or-set_other f i r (set (get_or f i []) j v) [] d) (w.row r h)) (same_or r i);
  }

-- ---- one row, entry by entry

-- the entries below j of row i are joined with row k's, the others are as they were
pub record RowPart (n k i j : ℕ) (f g : List (List Bool)) : Type 0 where
  pub whole : Whole g
  pub within : j ≤ n
  pub done : (c : ℕ) → c < j → flag g i c ≡ (flag f i c || flag f k c)
  pub ahead : (c : ℕ) → j ≤ c → c < n → flag g i c ≡ flag f i c
  pub rest : (r c : ℕ) → r < n → c < n → (r ≡ i → ⊥) → flag g r c ≡ flag f r c

pub row-none : (n k i : ℕ) (f : List (List Bool)) → Whole f → RowPart n k i 0 f f
row-none n k i f w =
    record {
      whole = w;
      within = omega arith;
      done = λ c h. absurd (omega arith);
      ahead = λ c h g. refl;
      rest = λ r c h g ne. refl;
    }

-- one entry more, from row k as it was
module _ (n k i j : ℕ) (f g : List (List Bool)) (small : n ≤ contour_limit) (hi : i < n) (hj : j < n)
    (part : RowPart n k i j f g) where
  pub row_more : RowPart n k i (j + 1) f (put g i j (flag g i j || flag f k j))
  row_more = record {
    whole = put_whole g i j _ part.whole (omega arith);
    within = omega arith;
    done = λ c h. ⊎_elim
        (λ (e : c ≡ j). rw e (put_here g i j _ part.whole (omega arith) (omega arith)
        ∙ rw (part.ahead j (omega arith) hj)))
        (λ (ne : c ≡ j → ⊥). stays i c (λ _ e. ne e) ∙ part.done c (omega arith)) (same_or c j);
    ahead = λ c h l. stays i c (λ _ e. omega arith) ∙ part.ahead c (omega arith) l;
    rest = λ r c h l ne. stays r c (λ e _. ne e) ∙ part.rest r c h l ne;
  }
    where
      stays : (r c : ℕ) → (r ≡ i → c ≡ j → ⊥) → flag (put g i j (flag g i j || flag f k j)) r c ≡ flag g r c
      stays = put_other g i j _ part.whole (omega arith)

pub row-joined : (n k i j : ℕ) (f g : List (List Bool)) → flag f i k ≡ true → n ≤ j → RowPart n k i j f g
    → RowJoined n k i f g
row-joined n k i j f g t all part =
    record { whole = part.whole; row = λ c h. part.done c (omega arith) ∙ rw t; rest = part.rest }

-- where i does not lead to k, nothing is to be added
pub row_kept : (n k i : ℕ) (f : List (List Bool)) → Whole f → flag f i k ≡ false → RowJoined n k i f f
row_kept n k i f w t = record { whole = w; row = λ j h. rw t (sym (or-false (flag f i j))); rest = λ r j h l ne. refl }

-- ---- all rows, one after the other

-- the rows below i are joined with row k, the others are as they were
pub record RowsPart (n k i : ℕ) (f g : List (List Bool)) : Type 0 where
  pub whole : Whole g
  pub within : i ≤ n
  pub done : (r c : ℕ) → r < i → c < n → flag g r c ≡ (flag f r c || (flag f r k && flag f k c))
  pub ahead : (r c : ℕ) → i ≤ r → r < n → c < n → flag g r c ≡ flag f r c

pub rows_none : (n k : ℕ) (f : List (List Bool)) → Whole f → RowsPart n k 0 f f
rows_none n k f w =
    record { whole = w; within = omega arith; done = λ r c h l. absurd (omega arith); ahead = λ r c h l m. refl }

-- adding what is already there
absorb : (a b : Bool) → (b || (a && b)) ≡ b
absorb true true = refl
absorb true false = refl
absorb false true = refl
absorb false false = refl

module _ (n k i : ℕ) (f g h : List (List Bool)) (hk : k < n) (hi : i < n) (part : RowsPart n k i f g)
    (joined : RowJoined n k i g h) where
  -- row k itself is never changed
  rows_source : (c : ℕ) → c < n → flag g k c ≡ flag f k c
  rows_source c l =
      ⊎_elim (λ (e : k < i). part.done k c e l ∙ absorb (flag f k k) (flag f k c))
      (λ (ge : i ≤ k). part.ahead k c ge hk l) (lt-or k i)

  pub rows_more : RowsPart n k (i + 1) f h
  rows_more = record {
    whole = joined.whole;
    within = omega arith;
    done = λ r c l m. ⊎_elim
        (λ (e : r ≡ i). rw e (joined.row c m
        ∙ rw (part.ahead i c (omega arith) hi m, part.ahead i k (omega arith) hi hk, rows_source c m)))
        (λ (ne : r ≡ i → ⊥). joined.rest r c (omega arith) m ne ∙ part.done r c (omega arith) m) (same_or r i);
    ahead = λ r c l m o. joined.rest r c m o (omega arith) ∙ part.ahead r c (omega arith) m o;
  }

pub rows_joined : (n k i : ℕ) (f g : List (List Bool)) → n ≤ i → RowsPart n k i f g → RowsJoined n k f g
rows_joined n k i f g all part = record { whole = part.whole; rows = λ r c h l. part.done r c (omega arith) l }

-- ---- every way round, one position after the other

pub record ClosedPart (n k : ℕ) (f g : List (List Bool)) : Type 0 where
  pub within : k ≤ n
  pub says : Says n (leads (flag f) k) g

pub closed_none : (n : ℕ) (f : List (List Bool)) → Whole f → ClosedPart n 0 f f
unfolding leads
closed_none n f w = record { within = omega arith; says = record { whole = w; told = λ i j h l. refl } }

pub closed_more : (n k : ℕ) (f g h : List (List Bool)) → k < n → ClosedPart n k f g → RowsJoined n k g h
    → ClosedPart n (k + 1) f h
unfolding leads
closed_more n k f g h hk part joined = rw (add-one k) (record {
  within = omega arith;
  says = record {
    whole = joined.whole;
    told = λ i j l m. joined.rows i j l m
        ∙ rw (part.says.told i j l m, part.says.told i k l hk, part.says.told k j hk m);
  };
})

pub closed_all : (n k : ℕ) (f g : List (List Bool)) → n ≤ k → ClosedPart n k f g → Says n (leads (flag f) n) g
closed_all n k f g all part = let e : k ≡ n =
    omega (arith, part.within) in subst (λ (z : ℕ). Says n (leads (flag f) z) g) e part.says

-- what is reached below n depends on the links below n alone
pub leads_same : (n k : ℕ) (link other : ℕ → ℕ → Bool) → ((i j : ℕ) → i < n → j < n → link i j ≡ other i j) → k ≤ n
    → (i j : ℕ) → i < n → j < n → leads link k i j ≡ leads other k i j
unfolding leads
leads_same n zero link other same h i j hi hj = same i j hi hj
leads_same n (suc k) link other same h i j hi hj =
    let l : k ≤ n = omega arith in
    rw (
      leads_same n k link other same l i j hi hj,
      leads_same n k link other same l i k hi h,
      leads_same n k link
          other same l k j h hj,
    )

-- ---- the flags of the pairs

module _ (n b a : ℕ) (f : List (List Bool)) (w : Whole f) where
  pub note-set : b < n → a < n → n ≤ contour_limit
      → Noted n (record { before = b; after = a } ∷ []) f (put f b a true)
  unfolding some_of
  note-set hb ha small = record {
    whole = put_whole f b a true w (omega arith);
    told = λ r c h l. ⊎_elim
        (λ (e : (b ≡ r) × (a ≡ c)). rw (is_pair_lem b a r c e.0 e.1)
        (rw (← e.0, ← e.1) (put_here f b a true w (omega arith) (omega arith)) ∙ sym (or-true (flag f r c))))
        (λ (d : b ≡ r → a ≡ c → ⊥). rw (no_pair b a r c d)
        (put_other f b a true w (omega arith) r c (λ p q. d (sym p) (sym q)) ∙ sym (or-false (flag f r c))))
        (both-or b a r c);
  }

  pub note_skip : (b < n → a < n → ⊥) → Noted n (record { before = b; after = a } ∷ []) f f
  unfolding some_of
  note_skip out = record {
    whole = w;
    told = λ r c h l. rw (no_pair b a r c (λ p q. out (rw p h) (rw q l))) (sym (or-false (flag f r c)));
  }

-- what the flags say, with the pairs from this place on, is what they said at first with all pairs
pub record NotedPart (n : ℕ) (ps : List Pair) (i : ℕ) (f g : List (List Bool)) : Type 0 where
  pub whole : Whole g
  pub told : (r c : ℕ) → r < n → c < n →
      (flag g r c || some_of (is_pair r c) (drop i ps)) ≡ (flag f r c || some_of (is_pair r c) ps)

pub noted_none : (n : ℕ) (ps : List Pair) (f : List (List Bool)) → Whole f → NotedPart n ps 0 f f
noted_none n ps f w = record { whole = w; told = λ r c h l. refl }

-- what is added to a flag is added with what else there is
or-one : (a b c : Bool) → (a || (b || false) || c) ≡ (a || (b || c))
or-one a b c = or_assoc a (b || false) c ∙ ap (λ (z : Bool). a || (z || c)) (or-false b)

pub noted_more : (n : ℕ) (ps : List Pair) (i : ℕ) (f g h : List (List Bool)) (p : Pair)
    → drop i ps ≡ p ∷ drop (i + 1) ps → NotedPart n ps i f g → Noted n (p ∷ []) g h → NotedPart n ps (i + 1) f h
unfolding some_of
noted_more n ps i f g h p more part one = record {
  whole = one.whole;
  told = λ r c l m. rw (one.told r c l m)
      (or-one (flag g r c) (is_pair r c p) (some_of (is_pair r c) (drop (i + 1) ps)) ∙ (rw more at (part.told r c l m)));
}

pub noted_all : (n : ℕ) (ps : List Pair) (i : ℕ) (f g : List (List Bool)) → length ps ≤ i
    → NotedPart n ps i f g → Noted n ps f g
unfolding some_of
noted_all n ps i f g all part = record {
  whole = part.whole;
  told = λ r c h l. sym (or-false (flag g r c)) ∙ (rw (drop_of_length-le ps all) at (part.told r c h l));
}

-- ---- the diagonal of the closed table

-- below n a link is a pair
pub linked_is : (n : ℕ) (pairs : List ℕ) (i j : ℕ) → i < n → j < n
    → linked n pairs i j ≡ some_of (is_pair i j) (paired pairs)
unfolding linked
linked_is n pairs i j hi hj = rw (lt-ltb i n hi, lt-ltb j n hj)

-- no flag is set
abbrev pub unset : List (List Bool)
unset = replicate contour_limit (replicate contour_limit false)

pub unset_whole : Whole unset
unset_whole = record {
  rows = length-replicate contour_limit (replicate contour_limit false);
  row = λ i h.
      ap length (get_or-replicate contour_limit i (replicate contour_limit false) [] h) ∙ length-replicate contour_limit false;
}

unset_flag : (i j : ℕ) → i < contour_limit → j < contour_limit → flag unset i j ≡ false
unset_flag i j h l =
    rw (get_or-replicate contour_limit i (replicate contour_limit false) [] h) (get_or-replicate contour_limit j false false l)

-- the flags of the pairs are the links
noted_linked : (n : ℕ) (pairs : List ℕ) (f : List (List Bool)) → n ≤ contour_limit
    → Noted n (paired pairs) unset f → (i j : ℕ) → i < n → j < n → flag f i j ≡ linked n pairs i j
noted_linked n pairs f small noted i j h l =
    noted.told i j h l ∙ rw (unset_flag i j (omega arith) (omega arith)) (sym (linked_is n pairs i j h l))

-- each flag of the closed table says where the pairs lead
pub closed_leads : (n : ℕ) (pairs : List ℕ) (f g : List (List Bool)) → n ≤ contour_limit
    → Noted n (paired pairs) unset f → Says n (leads (flag f) n) g →
    (i j : ℕ) → i < n → j < n → flag g i j ≡ leads (linked n pairs) n i j
closed_leads n pairs f g small noted says i j h l =
    says.told i j h l ∙ leads_same n n (flag f) (linked n pairs) (noted_linked n pairs f small noted) (omega arith) i
    j h l

diagonal : (n : ℕ) (pairs : List ℕ) (f g : List (List Bool)) → n ≤ contour_limit
    → Noted n (paired pairs) unset f → Says n (leads (flag f) n) g →
    lowest (λ i. flag g i i) n ≡ lowest (on_cycle n pairs) n
diagonal n pairs f g small noted says =
    lowest_same n (λ i. flag g i i) (on_cycle n pairs) (λ i h. closed_leads n pairs f g small noted says i i h h)

-- and so for the number of contours, cut to the limit
pub diagonal_capped : (contours n : ℕ) (pairs : List ℕ) (f g : List (List Bool)) → n ≡ min contours contour_limit →
    Noted n (paired pairs) unset f → Says n (leads (flag f) n) g
    → lowest (λ i. flag g i i) n ≡ first_on_cycle contours pairs
diagonal_capped contours n pairs f g e noted says =
    diagonal n pairs f g (omega arith) noted says ∙ ap (λ (m : ℕ). lowest (on_cycle m pairs) m) e
