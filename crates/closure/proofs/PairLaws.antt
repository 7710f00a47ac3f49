-- The pairs of a flat list as its chunks of two numbers, one after another; and when a pair is a given one. Assumes
-- nothing.
use mathlib.Core.Bool.{Bool, true, false, ◌&&◌, ◌||◌}
use mathlib.Core.Path.{◌≡◌, refl, sym, ap, ◌∙◌}
use mathlib.Core.Logic.{◌⊎◌, inl, inr, ⊎_elim}
use mathlib.Core.List.{List, [], ◌∷◌, map}
use Prim.Native.Nat.{ℕ, zero, suc, ◌+◌, ◌*◌, ◌/◌, ◌≤◌, ◌<◌}
use native.Mathlib.Numerals.{add-one}
use native.Mathlib.Omega.{arith}
use native.Mathlib.Decide.{ℕ_discrete, dec_lt}
use borrow.Author.Tests.{eq-eqb, ne_eqb}
use lib.ListN.{length, get_or, drop, drop_of_length-le}
use Rattle.std.proofs.Common.{suc-mul}
use Rattle.std.specs.Simd.{first_chunks}
use Rattle.std.specs.List.{list_all, list_any}
use Rattle.std.proofs.lemmas.List.{map-id, length-map, get_or_default}
use Rattle.closure.specs.Pairs.{Pair, pair_of, paired, every, some_of, is_pair}

-- two numbers are equal or not
pub same_or : (a b : ℕ) → (a ≡ b) ⊎ (a ≡ b → ⊥)
same_or a b = elim (ℕ_discrete a b) [ yes p ↦ inl p | no q ↦ inr q ]

-- two numbers are equal to two others, or not both
pub both-or : (a b c d : ℕ) → ((a ≡ c) × (b ≡ d)) ⊎ (a ≡ c → b ≡ d → ⊥)
both-or a b c d = ⊎_elim
    (λ (p : a ≡ c). ⊎_elim (λ (q : b ≡ d). inl (p, q)) (λ (q : b ≡ d → ⊥). inr (λ _ e. q e)) (same_or b d))
    (λ (p : a ≡ c → ⊥). inr (λ e _. p e)) (same_or a c)

-- one is below the other or not
pub lt-or : (a b : ℕ) → (a < b) ⊎ (b ≤ a)
lt-or a b = elim (dec_lt a b) [ yes p ↦ inl p | no q ↦ inr (omega arith) ]

-- ---- chunks of two

-- the pair of the two positions that two items stand for
pub pair_is : {A : Type 0} (place : A → ℕ) (two : List A) (x y : A) (b a : ℕ) → length two ≡ 2
    → b ≡ place (get_or two 0 x) → a ≡ place (get_or two 1 y)
    → pair_of (map place two) ≡ record { before = b; after = a }
pair_is place [] x y b a h p q = absurd (omega arith)
pair_is place (v ∷ []) x y b a h p q = absurd (omega arith)
pair_is place (v ∷ (w ∷ more)) x y b a h p q = rw (p, q)

-- one item is no larger than all of them
pub one_fits : (items one most : ℕ) → 0 < items → items * one < most → one < most
one_fits zero one most h l = absurd (omega arith)
one_fits (suc items) one most h l = let e : suc items * one ≡ items * one + one = suc-mul items one in omega arith

-- what is left of the pairs that items stand for begins with that of the next item
pub left-map : {A B : Type 0} (f : A → B) (items : List A) (i : ℕ) (x : A) → i < length items → x ≡ get_or items i x
    → drop i (map f items) ≡ f x ∷ drop (i + 1) (map f items)
left-map f [] i x h e = absurd (omega arith)
left-map f (y ∷ items) zero x h e = rw e
left-map f (y ∷ items) (suc i) x h e =
    let e' : drop i (map f items) ≡ f x ∷ drop (i + 1) (map f items) = left-map f items i x (omega arith) e in
    rw (add-one (suc i)) (rw (add-one i) at e')

-- and so with any default
pub left-at : {A B : Type 0} (f : A → B) (items : List A) (i : ℕ) (d : A) → i < length items
    → drop i (map f items) ≡ f (get_or items i d) ∷ drop (i + 1) (map f items)
left-at f items i d h = left-map f items i (get_or items i d) h (get_or_default items i d (get_or items i d) h)

-- at the end none is left
pub left-none : {A B : Type 0} (f : A → B) (items : List A) (i : ℕ) → length items ≤ i → drop i (map f items) ≡ []
left-none f items i h =
    drop_of_length-le (map f items) (let e : length (map f items) ≡ length items = length-map items f in omega arith)

-- the whole pairs of a flat list are its chunks of two
pub paired_chunks : (l : List ℕ) → paired l ≡ map pair_of (first_chunks 2 (length l / 2) l)
unfolding paired
paired_chunks [] = refl
paired_chunks (x ∷ []) = refl
paired_chunks (x ∷ (y ∷ l)) =
    rw (half (length l)) (ap (λ (ps : List Pair). record { before = x; after = y } ∷ ps) (paired_chunks l))
  where
    half : (n : ℕ) → suc (suc n) / 2 ≡ suc (n / 2)
    half n = omega arith

-- and so where the items are the positions themselves
pub same_chunks : (l : List ℕ) (pairs : List (List ℕ)) → pairs ≡ first_chunks 2 (length l / 2) l
    → paired l ≡ map (λ two. pair_of (map (λ (x : ℕ). x) two)) pairs
same_chunks l pairs e =
    rw e (paired_chunks l ∙ sym (λ i. map (λ two. pair_of (map-id two i)) (first_chunks 2 (length l / 2) l)))

pub chunks_are : (l : List ℕ) (chunks : List (List ℕ)) → chunks ≡ first_chunks 2 (length l / 2) l
    → map pair_of chunks ≡ paired l
chunks_are l chunks e = ap (map pair_of) e ∙ sym (paired_chunks l)

-- a question on all chunks of two, or on some, is that on their pairs
pub all_chunks : (test : Pair → Bool) (cs : List (List ℕ))
    → list_all (λ two. test (pair_of two)) cs ≡ every test (map pair_of cs)
unfolding every
all_chunks test [] = refl
all_chunks test (c ∷ cs) = ap (λ (b : Bool). test (pair_of c) && b) (all_chunks test cs)

pub any_chunk : (test : Pair → Bool) (cs : List (List ℕ))
    → list_any (λ two. test (pair_of two)) cs ≡ some_of test (map pair_of cs)
unfolding some_of
any_chunk test [] = refl
any_chunk test (c ∷ cs) = ap (λ (b : Bool). test (pair_of c) || b) (any_chunk test cs)

-- ---- when a pair is a given one

pub is_pair_lem : (b a i j : ℕ) → b ≡ i → a ≡ j → is_pair i j (record { before = b; after = a }) ≡ true
is_pair_lem b a i j p q = rw (eq-eqb b i p, eq-eqb a j q)

pub no_pair : (b a i j : ℕ) → (b ≡ i → a ≡ j → ⊥) → is_pair i j (record { before = b; after = a }) ≡ false
no_pair b a i j no' = ⊎_elim
    (λ (p : b ≡ i). rw (eq-eqb b i p, ne_eqb a j (no' p)))
    (λ (q : b ≡ i → ⊥). rw (ne_eqb b i q)) (same_or b i)
