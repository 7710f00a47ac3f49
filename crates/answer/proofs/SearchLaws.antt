-- What the library's searches find, as `lowest` has it: with what the closure says of each place. Assumes nothing.
use Rattle.std.specs.Prelude.{MatchOption, Option, is_some, MatchBool}
use Rattle.std.proofs.Common.{◌≡◌, ℕ, ◌<◌, Bool, true, false, List, get_or, length, Bor, refl, sym, ◌∙◌, zero-add, arith}
use mathlib.Core.Logic.{◌⊎◌, inl, inr}
use mathlib.Core.Bool.{true≢false}
use Rattle.std.specs.Iterator.{YieldsThen}
use Rattle.std.specs.List.{FoldsTo, AllWithin, HoldsAt, range_with_len}
use Rattle.std.specs.Fn.{Called, CalledAt}
use Rattle.std.proofs.iter.Yields.{nat_range_steps}
use Rattle.std.specs.declared.ops.Range.{Range}
use denote.Param.Members.{Mut}
use Rattle.std.proofs.lemmas.Iterator.{first_from_Range, cases_from_any, YieldsList-from_range}
use Rattle.std.proofs.lemmas.List.FromFn.{length-range_with_len, get_or-range_with_len}
use Rattle.answer.specs.Answer.{Found}
use Rattle.answer.specs.Lowest.{lowest}
use Rattle.answer.proofs.LowestLaws.{LowestAt, Nowhere, found_is, at_is, absent_is, search_through}

-- `find` over the places below n
pub found_by : {F : Type 0} {g : Mut F (Bor ℕ × Unit {0}) Bool} (test : ℕ → Bool) (n : ℕ) (u : Range ℕ) (f : F)
    (r : Found)
    → (xs : List ℕ) × (j : F) × YieldsThen nat_range_steps (record { start = 0; end = n }) xs r u
    × FoldsTo (λ p x q. CalledAt g p x false q) f xs j × MatchOption r (Unit {0}) (λ x. (h : F) × CalledAt g j x true h)
    → ((k : ℕ) (q : F) → CalledAt g f k true q → test k ≡ true)
    → ((k : ℕ) (q : F) → CalledAt g f k false q → (q ≡ f) × (test k ≡ false))
    → r ≡ lowest test n
found_by test n u f r ran yes' no' =
    found_is test n r
    (first_from_Range _ u f r (λ k. test k ≡ true) (λ k. test k ≡ false) ran yes' no')

-- `any` over the places below n
pub any_by : {F : Type 0} {g : Mut F (ℕ × Unit {0}) Bool} (test : ℕ → Bool) (n : ℕ) (u : Range ℕ) (f : F) (r : Bool)
    → (xs : List ℕ) × (o : Option ℕ) × (j : F) × YieldsThen nat_range_steps (record { start = 0; end = n }) xs o u
    × FoldsTo (λ p x q. Called g p (x, tt) false q) f xs j
    × MatchOption o (r ≡ false) (λ x. (r ≡ true) × ((h : F) × Called g j (x, tt) true h))
    → ((k : ℕ) (q : F) → Called g f (k, tt) true q → test k ≡ true)
    → ((k : ℕ) (q : F) → Called g f (k, tt) false q → (q ≡ f) × (test k ≡ false))
    → r ≡ is_some (lowest test n)
any_by test n u f r ran yes' no' =
    go r (cases_from_any u f r (λ k. test k ≡ true) (λ k. test k ≡ false) ran (YieldsList-from_range 0 n n refl (omega arith)) yes' no')
  where
    places : List ℕ
    places = range_with_len 0 n

    place : (k : ℕ) → k < length places → get_or places k 0 ≡ k
    place k h = get_or-range_with_len 0 n k 0 (rw (← length-range_with_len 0 n) h) ∙ zero-add k

    go : (b : Bool)
        → MatchBool b ((k : ℕ) × (k < length places) × HoldsAt (λ k. test k ≡ true) places k)
        (AllWithin (λ k. test k ≡ false) places 0 (length places)) → b ≡ is_some (lowest test n)
    go true (k, h, at) = some (search_through test n)
      where
        held : test k ≡ true
        held = rw (← place k h) (at 0)

        some : ((j : ℕ) × LowestAt test n j) ⊎ Nowhere test n → true ≡ is_some (lowest test n)
        some (inl (j, low)) = rw (at_is test n j low)
        some (inr none) =
            let e = sym held ∙ none k (rw (← length-range_with_len 0 n) h) in absurd (true≢false e)
    go false all =
        rw (absent_is test n (λ k h.
        let g : k < length places = rw (length-range_with_len 0 n) h in
        rw (← place k g) (all k 0 (omega arith) g)))
