-- Two contours are linked in a card's list of positions exactly where one of its pairs, written or by rule, stands for
-- them. Assumes nothing.
use Rattle.std.specs.Prelude.{None, Some}
use mathlib.Mathlib.Data.Bool.Basic.{or_inl, or_inr, and_elim_left, and_elim_right, and_intro}
use mathlib.Core.Path.{◌≡◌, refl, sym, ap, ◌∙◌, subst}
use mathlib.Core.Logic.{◌⊎◌, inl, inr}
use mathlib.Core.Bool.{Bool, true, false, ◌&&◌, ◌||◌, or_assoc, or-false}
use mathlib.Core.List.{List, [], ◌∷◌, ◌++◌}
use Prim.Native.Nat.{ℕ, zero, suc, ◌*◌, ◌-◌, ◌<◌}
use native.Mathlib.Nat.{not-suc-le-zero, le_of_suc-le-suc, eq-or-lt_of_le}
use native.Mathlib.Omega.{arith}
use lib.Dec.{eqb}
use lib.ListN.{length}
use borrow.Author.Tests.{eq-eqb, eqb-true, lt-ltb}
use Rattle.answer.specs.Answer.{Found}
use Rattle.answer.proofs.Truth.{or_cases, true_false}
use Rattle.closure.specs.Cycle.{linked}
use Rattle.closure.specs.Pairs.{Pair, paired, every, some_of, is_pair, both}
use Rattle.closure.proofs.PathLaws.{every_is, linked_pair, pair_linked}
use Rattle.fields.specs.Layout.{contours_of, pairs_of, before_id_of, after_id_of}
use Rattle.card.specs.Stages.{before_of, after_of}
use Rattle.card.specs.Rules.{enclosing_of, rule_pair, rules_of}
use Rattle.card.specs.Names.{seats_of, written_on, pairs_on}
use Rattle.card.proofs.NameLaws.{seats_length}
use Rattle.card.proofs.RuleLaws.{rules_whole}
use Rattle.card_laws.specs.Table.{Row9, Row10, No, Has, Precedes, by_pair, by_rule}
use Rattle.card_laws.proofs.PairRows.{same_contour, before_has, after_has}
use Rattle.card_laws.proofs.RuleLaws.{enclosing_rule, rule_enclosing}

-- ---- the pairs of two flat lists, one behind the other

-- where the first has whole pairs only
paired-append : (l r : List ℕ) (k : ℕ) → length l ≡ 2 * k → paired (l ++ r) ≡ paired l ++ paired r
unfolding paired
paired-append [] r k e = refl
paired-append (x ∷ []) r k e = absurd (omega arith)
paired-append (x ∷ (y ∷ more)) r k e =
    ap (λ (z : List Pair). record { before = x; after = y } ∷ z) (paired-append more r (k - 1) (omega arith))

some_append : (test : Pair → Bool) (l r : List Pair) → some_of test (l ++ r) ≡ (some_of test l || some_of test r)
unfolding some_of
some_append test [] r = refl
some_append test (p ∷ l) r =
    ap (λ (b : Bool). test p || b) (some_append test l r) ∙ sym (or_assoc (test p) (some_of test l) (some_of test r))

-- ---- two positions that a flat list has as a pair

-- the list puts i before j
abbrev pub Lists : ℕ → ℕ → List ℕ → Type 0
Lists i j l = some_of (is_pair i j) (paired l) ≡ true

module _ (i j : ℕ) where
  -- of two lists the one or the other does
  either_lists : (l r : List ℕ) (k : ℕ) → length l ≡ 2 * k
      → some_of (is_pair i j) (paired (l ++ r)) ≡ (some_of (is_pair i j) (paired l) || some_of (is_pair i j) (paired r))
  either_lists l r k whole =
      ap (some_of (is_pair i j)) (paired-append l r k whole) ∙ some_append (is_pair i j) (paired l) (paired r)

  in_either : (l r : List ℕ) (k : ℕ) → length l ≡ 2 * k → Lists i j (l ++ r) → Lists i j l ⊎ Lists i j r
  in_either l r k whole e =
      or_cases (some_of (is_pair i j) (paired l)) (some_of (is_pair i j) (paired r)) (sym (either_lists l r k whole) ∙ e)

  from_either : (l r : List ℕ) (k : ℕ) → length l ≡ 2 * k → Lists i j l ⊎ Lists i j r → Lists i j (l ++ r)
  from_either l r k whole e = either_lists l r k whole ∙ go e
    where
      go : Lists i j l ⊎ Lists i j r → (some_of (is_pair i j) (paired l) || some_of (is_pair i j) (paired r)) ≡ true
      go (inl t) = or_inl (some_of (is_pair i j) (paired l)) _ t
      go (inr t) = or_inr (some_of (is_pair i j) (paired l)) _ t

  -- a list of one pair
  only_pair : (b a : ℕ) → Lists i j (b ∷ a ∷ []) → (b ≡ i) × (a ≡ j)
  unfolding some_of paired
  only_pair b a e =
      let t : (eqb b i && eqb a j) ≡ true = rw (or-false (eqb b i && eqb a j)) at e in
      (eqb-true _ _ (and_elim_left (eqb b i) (eqb a j) t), eqb-true _ _ (and_elim_right (eqb b i) (eqb a j) t))

  pair_only : (b a : ℕ) → b ≡ i → a ≡ j → Lists i j (b ∷ a ∷ [])
  unfolding some_of paired
  pair_only b a e f = or_inl (eqb b i && eqb a j) false (and_intro (eq-eqb b i e) (eq-eqb a j f))

-- ---- written pairs, and pairs by rule

-- some of the first m written pairs puts i before j
record BeforeIn (s : List ℕ) (m i j : ℕ) : Type 0 where
  pub pair : ℕ
  pub is_pair_lem : pair < m
  pub first : before_of s pair ≡ i
  pub second : after_of s pair ≡ j

module _ (s : List ℕ) (i j : ℕ) where
  found_pair : (m : ℕ) → Lists i j (seats_of s m) → BeforeIn s m i j
  unfolding some_of paired seats_of
  found_pair zero e = absurd (true_false {b = false} e refl)
  found_pair (suc m) e =
      go (in_either i j (seats_of s m) (before_of s m ∷ after_of s m ∷ []) m (seats_length s m) e) (found_pair m)
    where
      go : Lists i j (seats_of s m) ⊎ Lists i j (before_of s m ∷ after_of s m ∷ [])
          → (Lists i j (seats_of s m) → BeforeIn s m i j) → BeforeIn s (suc m) i j
      go (inl t) later =
          let b = later t in
          record { pair = b.pair; is_pair_lem = omega (arith, b.is_pair_lem); first = b.first; second = b.second }
      go (inr t) later =
          let last = only_pair i j (before_of s m) (after_of s m) t in
          record { pair = m; is_pair_lem = omega arith; first = last.0; second = last.1 }

  pair_found : (m : ℕ) → BeforeIn s m i j → Lists i j (seats_of s m)
  unfolding seats_of
  pair_found zero b = absurd (not-suc-le-zero b.is_pair_lem)
  pair_found (suc m) b =
      from_either i j (seats_of s m) (before_of s m ∷ after_of s m ∷ []) m (seats_length s m)
      (go (eq-or-lt_of_le (le_of_suc-le-suc b.is_pair_lem)) (pair_found m))
    where
      go : (b.pair ≡ m) ⊎ (b.pair < m) → (BeforeIn s m i j → Lists i j (seats_of s m))
          → Lists i j (seats_of s m) ⊎ Lists i j (before_of s m ∷ after_of s m ∷ [])
      go (inl e) earlier =
          inr (pair_only i j _ _ (ap (before_of s) (sym e) ∙ b.first) (ap (after_of s) (sym e) ∙ b.second))
      go (inr h) earlier =
          inl (earlier (record { pair = b.pair; is_pair_lem = h; first = b.first; second = b.second }))

  found_rule : (m : ℕ) → Lists i j (rules_of s m) → (i < m) × (enclosing_of s i ≡ Some j)
  unfolding some_of paired rules_of
  found_rule zero e = absurd (true_false {b = false} e refl)
  found_rule (suc m) e =
      go (in_either i j (rules_of s m) (rule_pair m (enclosing_of s m)) _ (rules_whole s m) e) (found_rule m)
    where
      own : (f : Found) → enclosing_of s m ≡ f → Lists i j (rule_pair m f) → (i < suc m) × (enclosing_of s i ≡ Some j)
      own (Some k) f t =
          let last = only_pair i j m k t in
          (omega (arith, last.0), ap (enclosing_of s) (sym last.0) ∙ f ∙ ap Some last.1)
      own None f t = absurd (true_false {b = false} t refl)

      go : Lists i j (rules_of s m) ⊎ Lists i j (rule_pair m (enclosing_of s m))
          → (Lists i j (rules_of s m) → (i < m) × (enclosing_of s i ≡ Some j)) → (i < suc m) × (enclosing_of s i ≡ Some j)
      go (inl t) later = let b = later t in (omega (arith, b.0), b.1)
      go (inr t) later = own (enclosing_of s m) refl t

  rule_found : (m : ℕ) → i < m → enclosing_of s i ≡ Some j → Lists i j (rules_of s m)
  unfolding rules_of
  rule_found zero h e = absurd (not-suc-le-zero h)
  rule_found (suc m) h e =
      from_either i j (rules_of s m) (rule_pair m (enclosing_of s m)) _ (rules_whole s m)
      (go (eq-or-lt_of_le (le_of_suc-le-suc h)) (rule_found m))
    where
      go : (i ≡ m) ⊎ (i < m) → (i < m → enclosing_of s i ≡ Some j → Lists i j (rules_of s m))
          → Lists i j (rules_of s m) ⊎ Lists i j (rule_pair m (enclosing_of s m))
      go (inl f) earlier =
          inr (subst (λ (g : Found). Lists i j (rule_pair m g)) (sym (ap (enclosing_of s) (sym f) ∙ e))
          (pair_only i j m j (sym f) refl))
      go (inr g) earlier = inl (earlier g e)

-- ---- once ids are unique and every pair's ids are known: the three laws of a card's pairs

module _ (s : List ℕ) (unique : No (Row9 s)) (named : No (Row10 s)) where
  -- the list has no other pairs than the card
  pub listed_precedes : (i j : ℕ) → Lists i j (pairs_on s) → Precedes s i j
  listed_precedes i j e =
      go (in_either i j (written_on s) (rules_of s (contours_of s)) (pairs_of s) (seats_length s (pairs_of s)) e)
    where
      go : Lists i j (written_on s) ⊎ Lists i j (rules_of s (contours_of s)) → Precedes s i j
      go (inl t) =
          let b = found_pair s i j (pairs_of s) t in
          let q = b.pair in
          by_pair (record {
            pair = q;
            is_pair_lem = b.is_pair_lem;
            first = subst (Has s (before_id_of s q)) b.first (before_has s unique named q b.is_pair_lem);
            second = subst (Has s (after_id_of s q)) b.second (after_has s unique named q b.is_pair_lem);
          })
      go (inr t) = let b = found_rule s i j (contours_of s) t in by_rule (enclosing_rule s i j b.0 b.1)

  -- and it has them all
  pub precedes_listed : (i j : ℕ) → Precedes s i j → Lists i j (pairs_on s)
  precedes_listed i j b =
      from_either i j (written_on s) (rules_of s (contours_of s)) (pairs_of s) (seats_length s (pairs_of s)) (go b)
    where
      go : Precedes s i j → Lists i j (written_on s) ⊎ Lists i j (rules_of s (contours_of s))
      go (by_pair p) =
          let q = p.pair in
          inl (pair_found s i j (pairs_of s) (record {
            pair = q;
            is_pair_lem = p.is_pair_lem;
            first = same_contour s unique (before_id_of s q) (before_of s q) i (before_has s unique named q p.is_pair_lem)
                p.first;
            second = same_contour s unique (after_id_of s q) (after_of s q) j (after_has s unique named q p.is_pair_lem)
                p.second;
          }))
      go (by_rule r) = inr (rule_found s i j (contours_of s) r.is_contour (rule_enclosing s i j r))

  -- both are contours
  precedes_within : (i j : ℕ) → Precedes s i j → (i < contours_of s) × (j < contours_of s)
  precedes_within i j (by_pair p) = (p.first.is_contour, p.second.is_contour)
  precedes_within i j (by_rule r) = (r.is_contour, r.enclosed.within)

  -- contours are linked by the card's pairs only where one of them puts the first before the second
  pub link_precedes : (i j : ℕ) → linked (contours_of s) (pairs_on s) i j ≡ true → Precedes s i j
  link_precedes i j e = listed_precedes i j (pair_linked (contours_of s) (pairs_on s) i j e)

  -- and wherever one does
  pub precedes_link : (i j : ℕ) → Precedes s i j → linked (contours_of s) (pairs_on s) i j ≡ true
  precedes_link i j b =
      let both = precedes_within i j b in
      linked_pair (contours_of s) (pairs_on s) i j both.0 both.1 (precedes_listed i j b)

  -- both positions of each pair are contours
  pub pairs_below : every (both (contours_of s)) (paired (pairs_on s)) ≡ true
  pairs_below = every_is (both (contours_of s)) (paired (pairs_on s)) (λ b a t.
      let in_both = precedes_within b a (listed_precedes b a t) in
      and_intro (lt-ltb b _ in_both.0) (lt-ltb a _ in_both.1))
