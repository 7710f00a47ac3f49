-- The list of all pairs, place by place. Assumes nothing.
use Rattle.std.specs.Prelude.{None, Ok, Some}
use mathlib.Core.Path.{◌≡◌, refl, sym, ap, ◌∙◌, subst}
use mathlib.Core.Logic.{◌⊎◌, inl, inr}
use mathlib.Core.Bool.{Bool, false, not, ◌&&◌, and-false}
use mathlib.Core.List.{List, [], ◌∷◌, ◌++◌, append-nil}
use Prim.Native.Nat.{ℕ, zero, suc, ◌+◌, ◌*◌, ◌<◌}
use native.Mathlib.Nat.{add-zero, not-suc-le-zero, le_of_suc-le-suc, eq-or-lt_of_le}
use native.Mathlib.Omega.{arith}
use lib.Dec.{eqb}
use borrow.Author.Tests.{eq-eqb}
use lib.ListN.{length, get_or, length-append, get_or-append}
use lib.Seq.{get_or-append-add}
use Rattle.answer.specs.Answer.{Found}
use Rattle.fields.specs.Layout.{version_of, contours_of, pairs_of, type_of, part_of, before_id_of, after_id_of}
use Rattle.card.specs.Rules.{is_hole, enclosing_of, rule_pair, rules_of}
use Rattle.card.specs.Names.{written_on, pairs_on}
use Rattle.card.specs.Verdict.{check_of}
use Rattle.card.proofs.NameLaws.{seats_length, pair_earlier, pair_first, pair_second, seat-before, seat_after}
use Rattle.card.proofs.RuleLaws.{no_hole, rule_count, rules_in, rules_whole}
use Rattle.card_laws.specs.Table.{Has}
use Rattle.card_laws.specs.Joined.{first_at, second_at, Joined, Unruled}
use Rattle.card_laws.proofs.RuleLaws.{enclosing_rule, rule_enclosing}
use Rattle.card_laws.proofs.Facts.{accepted}

-- ---- the pairs by rule of the first k contours: c pairs in a list

record RuledTo (s l : List ℕ) (c k : ℕ) : Type 0 where
  whole : length l ≡ 2 * c
  own : (r : ℕ) → r < c → (first_at l r < k) × (enclosing_of s (first_at l r) ≡ Some (second_at l r))
  rising : (r : ℕ) → suc r < c → first_at l r < first_at l (suc r)
  each : (i j : ℕ) → i < k → enclosing_of s i ≡ Some j → (r : ℕ) × (r < c) × (first_at l r ≡ i)

module _ (s l : List ℕ) (c k : ℕ) (to : RuledTo s l c k) where
  -- a contour that goes before none
  ruled_same : enclosing_of s k ≡ None → RuledTo s l c (suc k)
  ruled_same none = record {
    whole = to.whole;
    own = λ r h. (omega (arith, (to.own r h).0), (to.own r h).1);
    rising = to.rising;
    each = λ i j h e. find i j e (eq-or-lt_of_le (le_of_suc-le-suc h));
  }
    where
      find : (i j : ℕ) → enclosing_of s i ≡ Some j → (i ≡ k) ⊎ (i < k) → (r : ℕ) × (r < c) × (first_at l r ≡ i)
      find i j e (inl f) =
          let z : None ≡ Some j = sym none ∙ ap (enclosing_of s) (sym f) ∙ e in
          let y : ◌≡◌ {A = ℕ} 0 1 = cc in
          absurd (omega arith)
      find i j e (inr g) = to.each i j g e

  -- one that does
  module _ (j : ℕ) (one : enclosing_of s k ≡ Some j) where
    abbrev more : List ℕ
    more = l ++ (k ∷ j ∷ [])

    earlier : (i : ℕ) → i < 2 * c → get_or more i 0 ≡ get_or l i 0
    earlier = pair_earlier l c k j to.whole

    last_first : first_at more c ≡ k
    last_first = pair_first l c k j to.whole

    last_second : second_at more c ≡ j
    last_second = pair_second l c k j to.whole

    ruled_more : RuledTo s more (c + 1) (suc k)
    ruled_more = record {
      whole = omega (arith, length-append l (k ∷ j ∷ []), to.whole);
      own = λ r h. own r (eq-or-lt_of_le (le_of_suc-le-suc (plus r h)));
      rising = λ r h. rising r (eq-or-lt_of_le (le_of_suc-le-suc (plus (suc r) h)));
      each = λ i m h e. find i m e (eq-or-lt_of_le (le_of_suc-le-suc h));
    }
      where
        plus : (r : ℕ) → r < c + 1 → r < suc c
        plus r h = omega arith

        own : (r : ℕ) → (r ≡ c) ⊎ (r < c)
            → (first_at more r < suc k) × (enclosing_of s (first_at more r) ≡ Some (second_at more r))
        own r (inl e) = subst
            (λ (x : ℕ). (first_at more x < suc k) × (enclosing_of s (first_at more x) ≡ Some (second_at more x))) (sym e)
            (rw (last_first, last_second) (omega arith, one))
        own r (inr h) =
            rw (earlier (2 * r) (omega arith), earlier (2 * r + 1) (omega arith))
            (omega (arith, (to.own r h).0), (to.own r h).1)

        rising : (r : ℕ) → (suc r ≡ c) ⊎ (suc r < c) → first_at more r < first_at more (suc r)
        rising r (inl e) =
            rw (earlier (2 * r) (omega arith), e, last_first) (to.own r (omega arith)).0
        rising r (inr h) =
            rw (earlier (2 * r) (omega arith), earlier (2 * suc r) (omega arith)) (to.rising r h)

        find : (i m : ℕ) → enclosing_of s i ≡ Some m → (i ≡ k) ⊎ (i < k) → (r : ℕ) × (r < c + 1) × (first_at more r ≡ i)
        find i m e (inl f) = (c, omega arith, last_first ∙ sym f)
        find i m e (inr g) =
            let at = to.each i m g e in
            (at.0, omega (arith, at.1), earlier (2 * at.0) (omega (arith, at.1)) ∙ at.2)

ruled : (s : List ℕ) (k : ℕ) → RuledTo s (rules_of s k) (rules_in s k) k
unfolding rules_of rules_in
ruled s zero = record {
  whole = refl;
  own = λ r h. absurd (not-suc-le-zero h);
  rising = λ r h. absurd (not-suc-le-zero h);
  each = λ i j h e. absurd (not-suc-le-zero h);
}
ruled s (suc k) = go (enclosing_of s k) refl (ruled s k)
  where
    go : (f : Found) → enclosing_of s k ≡ f → RuledTo s (rules_of s k) (rules_in s k) k
        → RuledTo s (rules_of s k ++ rule_pair k (enclosing_of s k)) (rules_in s k + rule_count (enclosing_of s k)) (suc k)
    go (Some j) e to = rw e (ruled_more s (rules_of s k) (rules_in s k) k to j e)
    go None e to =
        rw (e, append-nil (rules_of s k), add-zero (rules_in s k)) (ruled_same s (rules_of s k) (rules_in s k) k to e)

-- ---- behind the written ones

module _ (s : List ℕ) where
  abbrev rules : List ℕ
  rules = rules_of s (contours_of s)

  -- what is read behind the written pairs is read of those by rule
  behind : (a : ℕ) → get_or (pairs_on s) (2 * pairs_of s + a) 0 ≡ get_or rules a 0
  behind a = rw (← seats_length s (pairs_of s)) (get_or-append-add (written_on s) rules a 0)

  first_behind : (r : ℕ) → first_at (pairs_on s) (pairs_of s + r) ≡ first_at rules r
  first_behind r =
      ap (λ (a : ℕ). get_or (pairs_on s) a 0) (let e : 2 * (pairs_of s + r) ≡ 2 * pairs_of s + 2 * r = omega arith in e)
      ∙ behind (2 * r)

  second_behind : (r : ℕ) → second_at (pairs_on s) (pairs_of s + r) ≡ second_at rules r
  second_behind r =
      ap (λ (a : ℕ). get_or (pairs_on s) a 0)
      (let e : 2 * (pairs_of s + r) + 1 ≡ 2 * pairs_of s + (2 * r + 1) = omega arith in e)
      ∙ behind (2 * r + 1)

  -- what is read before them is read of the written ones
  ahead : (a : ℕ) → a < 2 * pairs_of s → get_or (pairs_on s) a 0 ≡ get_or (written_on s) a 0
  ahead a h = get_or-append (written_on s) (rules_of s (contours_of s)) 0 a (omega (arith, seats_length s (pairs_of s)))

pub joined : (s : List ℕ) → check_of s ≡ Ok tt → Joined s (rules_in s (contours_of s))
joined s fine =
    let to = ruled s (contours_of s) in
    record {
      all = omega (
        arith,
        length-append (written_on s) (rules_of s (contours_of s)),
        seats_length s (pairs_of s),
        rules_whole s (contours_of s),
      );
      before = λ q h.
          let named = (accepted s fine).before_named q h in
          subst (Has s (before_id_of s q)) (sym (ahead s (2 * q) (omega arith) ∙ seat-before s (pairs_of s) q h))
          (record { is_contour = named.is_contour; same = named.same_id });
      after = λ q h.
          let named = (accepted s fine).after_named q h in
          subst (Has s (after_id_of s q)) (sym (ahead s (2 * q + 1) (omega arith) ∙ seat_after s (pairs_of s) q h))
          (record { is_contour = named.is_contour; same = named.same_id });
      by_rule = λ r h.
          rw (first_behind s r, second_behind s r) (enclosing_rule s _ _ (to.own r h).0 (to.own r h).1);
      in_order = λ r h. rw (first_behind s r, first_behind s (suc r)) (to.rising r h);
      each = λ i j b.
          let at = to.each i j b.is_contour (rule_enclosing s i j b) in
          (at.0, at.1, first_behind s at.0 ∙ at.2);
    }

-- ---- no parts

no_rules : (s : List ℕ) (k : ℕ) → ((i : ℕ) → i < k → part_of s i ≡ 0) → rules_of s k ≡ []
unfolding rules_of
no_rules s zero none = refl
no_rules s (suc k) none =
    rw (no_rules s k (λ i h. none i (omega arith)), ← no_hole s k (no_part (none k (omega arith))))
  where
    no_part : part_of s k ≡ 0 → is_hole s k ≡ false
    no_part e = ap (λ (b : Bool). eqb (type_of s k) 1 && not b) (eq-eqb _ 0 e) ∙ and-false (eqb (type_of s k) 1)

pub no_parts : (s : List ℕ) → version_of s ≡ 1 → (k : ℕ) → part_of s k ≡ 0
no_parts s e k = rw e

pub unruled : (s : List ℕ) → Unruled s
unruled s = record {
  version-one = λ e i j b. b.of_a_part (no_parts s e i);
  as_written =
      λ none. ap (λ (l : List ℕ). written_on s ++ l) (no_rules s (contours_of s) none) ∙ append-nil (written_on s);
}
