-- The pairs by rule one contour at a time, behind the written ones. Assumes nothing.
use Rattle.std.specs.Prelude.{None, Some}
use mathlib.Core.Path.{◌≡◌, refl, sym, ap, ◌∙◌}
use mathlib.Core.Bool.{Bool, true, false}
use mathlib.Core.List.{List, [], ◌∷◌, ◌++◌, append_assoc, append-nil}
use Prim.Native.Nat.{ℕ, zero, suc, ◌+◌, ◌*◌, ◌≤◌, ◌<◌}
use native.Mathlib.Numerals.{add-one}
use native.Mathlib.Omega.{arith}
use lib.ListN.{length, set, length-append}
use Rattle.answer.specs.Answer.{Found}
use Rattle.answer.specs.Lowest.{lowest}
use Rattle.answer.specs.Room.{padded}
use Rattle.answer.proofs.LowestLaws.{LowestAt, is_at_lem}
use Rattle.answer.proofs.RoomLaws.{padded-two}
use Rattle.closure.specs.Limits.{contour_limit, pair_limit}
use Rattle.fields.specs.Layout.{contours_of, pairs_of}
use Rattle.card.specs.Rules.{is_hole, encloses, enclosing_of, rule_pair, rules_of}
use Rattle.card.specs.Names.{written_on, seat_limit}
use Rattle.card.proofs.NameLaws.{seats_length}

-- ---- what one contour goes before

pub no_hole : (s : List ℕ) (k : ℕ) → is_hole s k ≡ false → None ≡ enclosing_of s k
unfolding enclosing_of
no_hole s k e = rw e

pub hole_before : (s : List ℕ) (k : ℕ) (f : Found) → is_hole s k ≡ true → f ≡ lowest (encloses s k) (contours_of s)
    → f ≡ enclosing_of s k
unfolding enclosing_of
hole_before s k f e is = rw e is

-- one that goes before another is a hole, and the other is the first that encloses it
pub found_enclosing : (s : List ℕ) (k j : ℕ) → enclosing_of s k ≡ Some j
    → (is_hole s k ≡ true) × LowestAt (encloses s k) (contours_of s) j
unfolding enclosing_of
found_enclosing s k j e = go (is_hole s k) refl
  where
    go : (b : Bool) → is_hole s k ≡ b → (is_hole s k ≡ true) × LowestAt (encloses s k) (contours_of s) j
    go true hole = (hole, is_at_lem (encloses s k) (contours_of s) j (rw hole at e))
    go false hole =
        let none : ◌≡◌ {A = Found} None (Some j) = rw hole at e in
        let z : ◌≡◌ {A = ℕ} 0 1 = cc in
        absurd (omega arith)

-- ---- the first k contours

pub rules_more : (s : List ℕ) (k : ℕ) → rules_of s (k + 1) ≡ rules_of s k ++ rule_pair k (enclosing_of s k)
unfolding rules_of
rules_more s k = rw (add-one k)

-- one pair or none
abbrev pub rule_count : Found → ℕ
rule_count (Some j) = 1
rule_count None = 0

pair_length : (k : ℕ) (f : Found) → length (rule_pair k f) ≡ 2 * rule_count f
pair_length k (Some j) = refl
pair_length k None = refl

at_most_one : (f : Found) → rule_count f ≤ 1
at_most_one (Some j) = omega arith
at_most_one None = omega arith

-- how many of the first k contours go before another
unfoldable pub rules_in : List ℕ → ℕ → ℕ
rules_in s zero = 0
rules_in s (suc k) = rules_in s k + rule_count (enclosing_of s k)

pub rules_whole : (s : List ℕ) (k : ℕ) → length (rules_of s k) ≡ 2 * rules_in s k
unfolding rules_of rules_in
rules_whole s zero = refl
rules_whole s (suc k) =
    omega (
      arith,
      length-append (rules_of s k) (rule_pair k (enclosing_of s k)),
      pair_length k (enclosing_of s k),
      rules_whole s k,
    )

rules_few : (s : List ℕ) (k : ℕ) → rules_in s k ≤ k
unfolding rules_in
rules_few s zero = omega arith
rules_few s (suc k) = omega (arith, at_most_one (enclosing_of s k), rules_few s k)

-- ---- behind the written pairs

-- the written pairs, and those by rule of the first k contours
abbrev pub joined_to : List ℕ → ℕ → List ℕ
joined_to s k = written_on s ++ rules_of s k

pub joined-none : (s : List ℕ) → joined_to s 0 ≡ written_on s
unfolding rules_of
joined-none s = append-nil (written_on s)

-- there is room for one more
pub joined_room : (s : List ℕ) (k : ℕ) → contours_of s ≤ contour_limit → pairs_of s ≤ pair_limit → k < contours_of s
    → length (joined_to s k) + 1 < seat_limit
joined_room s k n m h =
    omega (
      arith,
      length-append (written_on s) (rules_of s k),
      seats_length s (pairs_of s),
      rules_whole s k,
      rules_few s k,
    )

module _ (s : List ℕ) (k : ℕ) where
  joined_more : joined_to s (k + 1) ≡ joined_to s k ++ rule_pair k (enclosing_of s k)
  joined_more = ap (λ (l : List ℕ). written_on s ++ l) (rules_more s k)
      ∙ sym (append_assoc (written_on s) (rules_of s k) (rule_pair k (enclosing_of s k)))

  -- a contour that goes before none adds none
  pub joined_same : (f : Found) → f ≡ enclosing_of s k → f ≡ None → joined_to s k ≡ joined_to s (k + 1)
  joined_same f is e =
      sym (joined_more ∙ ap (λ (g : Found). joined_to s k ++ rule_pair k g) (sym is ∙ e) ∙ append-nil (joined_to s k))

  -- one that does adds its pair
  pub joined_pair : (f : Found) (j : ℕ) → f ≡ enclosing_of s k → f ≡ Some j
      → joined_to s k ++ (k ∷ j ∷ []) ≡ joined_to s (k + 1)
  joined_pair f j is e = sym (joined_more ∙ ap (λ (g : Found). joined_to s k ++ rule_pair k g) (sym is ∙ e))

-- ---- one more pair written to the places

module _ (s p : List ℕ) (k j count : ℕ) (f : Found) (is : f ≡ enclosing_of s k) (e : f ≡ Some j)
    (filled : p ≡ padded seat_limit 0 (joined_to s k)) (counted : count ≡ length (joined_to s k)) where
  pub joined_places : count + 1 < seat_limit
      → set (set p count k) (count + 1) j ≡ padded seat_limit 0 (joined_to s (k + 1))
  joined_places h =
      rw (filled, ← joined_pair s k f j is e) (padded-two seat_limit 0 (joined_to s k) k j count (sym counted) h)

  pub joined_count : count + 2 ≡ length (joined_to s (k + 1))
  joined_count =
      let more = length-append (joined_to s k) (k ∷ j ∷ []) in
      ap (λ (c : ℕ). c + 2) counted ∙ sym more ∙ ap length (joined_pair s k f j is e)
