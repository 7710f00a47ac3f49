-- The refusals of a question about bridges in words, an answer's places, and what the lookups find. Assumes nothing.
use Rattle.std.specs.Prelude.{Err, None, Ok, Some}
use mathlib.Core.Path.{◌≡◌, ◌∙◌}
use mathlib.Core.Bool.{Bool, true, false, not, ◌&&◌}
use mathlib.Core.Logic.{◌⊎◌, inl, inr}
use mathlib.Core.List.{List}
use Prim.Native.Nat.{ℕ, ◌+◌, ◌-◌, ◌≤◌, ◌<◌}
use native.Mathlib.Omega.{arith}
use borrow.Author.Tests.{lt-ltb, le-ltb}
use lib.Dec.{ltb}
use lib.ListN.{length, get_or}
use lib.Ieee.{Float, nan, binary64, rem, lt, le}
use Rattle.answer.specs.declared.Point.{Point}
use Rattle.answer.specs.Answer.{Check}
use Rattle.answer.specs.Lowest.{lowest}
use Rattle.answer.specs.Stage.{first_refusal}
use Rattle.answer.proofs.LowestLaws.{LowestAt, Nowhere, at_is, absent_is, search_through}
use Rattle.answer.proofs.Truth.{yes_or_no}
use Rattle.fields.specs.Limits.{vertex_limit}
use Rattle.points.specs.Points.{no_ends, edges}
use Rattle.points.specs.Numbers.{zero64, tiny}
use Rattle.points.specs.Bad.{bad_at, first_bad}
use Rattle.candidates.specs.Along.{last_spot}
use Rattle.candidates.specs.Question.{outside, contour_check}
use Rattle.bridge.specs.Limits.{bridge_limit}
use Rattle.bridge.specs.Lookup.{marks, mark_at, whole_of, falls_on, edge_on, spot_by, spot_on}
use Rattle.bridge.specs.Question.{half_of, bad_width, off_the_way, first_off, way_check, bridge_check}
use Rattle.bridge.specs.Question.{bridges_of}
use Rattle.bridge.specs.Words as words
use Rattle.bridge.specs.Words.{vertex_count, way_of, Sized, Good, Long, Fits, On}
use Rattle.bridge.proofs.MarkLaws.{marks-length, mark_first, mark_next, whole_is, held-vertex, edge_is}
use Rattle.bridge.proofs.FillLaws.{places}
use Rattle.bridge.proofs.AnswerLaws.{accepted}
use Rattle.bridge.proofs.QuestionLaws.{width_fits, too_wide, not-above, narrow_finite}

abbrev told : ℕ → ℕ → Check
told number place = Err (record { number = number; place = place })

-- ---- the contour

module _ (numbers : List Float) where
  -- the number of vertices is out of range
  sized_no : (vertex_count numbers < 1) ⊎ (vertex_limit < vertex_count numbers)
      → contour_check numbers ≡ told 6 (vertex_count numbers)
  unfolding contour_check first_refusal
  sized_no (inl h) = rw (lt-ltb (vertex_count numbers) 1 h)
  sized_no (inr h) =
      let low : ltb (vertex_count numbers) 1 ≡ false = le-ltb (vertex_count numbers) 1 (omega arith) in
      rw (low, lt-ltb vertex_limit (vertex_count numbers) h)

  module _ (s : Sized numbers) where
    in_range : outside vertex_limit (vertex_count numbers) ≡ false
    in_range =
        let low : ltb (vertex_count numbers) 1 ≡ false = le-ltb (vertex_count numbers) 1 s.0 in
        rw (low, le-ltb vertex_limit (vertex_count numbers) s.1)

    first_bad_lem : (k : ℕ) → k < vertex_count numbers → bad_at numbers k ≡ true → ((j : ℕ) → j < k → bad_at numbers j ≡ false)
        → contour_check numbers ≡ told 8 k
    unfolding contour_check first_refusal first_bad
    first_bad_lem k h b e =
        rw (in_range, at_is (bad_at numbers) (vertex_count numbers) k (record { within = h; holds = b; before = e }))

    none_bad : Good numbers → contour_check numbers ≡ Ok tt
    unfolding contour_check first_refusal first_bad
    none_bad g = rw (in_range, absent_is (bad_at numbers) (vertex_count numbers) g)

-- ---- the way, the width and the centres on it

module _ (numbers : List Float) (width : Float) (centres : List Float) where
  fits_not : (Fits numbers width → ⊥) → bad_width (way_of numbers) width ≡ true
  fits_not not_so = go (yes_or_no (lt zero64 width)) (yes_or_no (lt (half_of width) (way_of numbers)))
    where
      go : (lt zero64 width ≡ true) ⊎ (lt zero64 width ≡ false)
          → (lt (half_of width) (way_of numbers) ≡ true) ⊎ (lt (half_of width) (way_of numbers) ≡ false)
          → bad_width (way_of numbers) width ≡ true
      go (inr a) h = not-above (way_of numbers) width a
      go (inl a) (inr h) = too_wide (way_of numbers) width h
      go (inl a) (inl h) =
          absurd (not_so (record { counts = narrow_finite (way_of numbers) width a h; above = a; short = h }))

  fits_so : Fits numbers width → bad_width (way_of numbers) width ≡ false
  fits_so f = width_fits (way_of numbers) width f.above f.short

  on-not : (c : Float) → (On numbers c → ⊥) → off_the_way (way_of numbers) c ≡ true
  unfolding off_the_way
  on-not c not_so = go (yes_or_no (le zero64 c)) (yes_or_no (lt c (way_of numbers)))
    where
      go : (le zero64 c ≡ true) ⊎ (le zero64 c ≡ false)
          → (lt c (way_of numbers) ≡ true) ⊎ (lt c (way_of numbers) ≡ false)
          → not (le zero64 c && lt c (way_of numbers)) ≡ true
      go (inr a) h = rw a
      go (inl a) (inr h) = rw (a, h)
      go (inl a) (inl h) = absurd (not_so (record { from = a; before = h }))

  on_so : (c : Float) → On numbers c → off_the_way (way_of numbers) c ≡ false
  unfolding off_the_way
  on_so c o = rw (o.from, o.before)

  way_short : lt (way_of numbers) tiny ≡ true → way_check (way_of numbers) width centres ≡ told 18 0
  unfolding way_check first_refusal
  way_short h = rw h

  way_unfit : Long numbers → bad_width (way_of numbers) width ≡ true → way_check (way_of numbers) width centres ≡ told 18 1
  unfolding way_check first_refusal
  way_unfit h w = rw (h, w)

  module _ (h : Long numbers) (f : Fits numbers width) where
    way_centre : (i : ℕ) → i < length centres → (On numbers (get_or centres i nan) → ⊥)
        → ((j : ℕ) → j < i → On numbers (get_or centres j nan)) → way_check (way_of numbers) width centres ≡ told 18 (2 + i)
    unfolding way_check first_refusal first_off
    way_centre i l not_on on =
        let test : ℕ → Bool = λ k. off_the_way (way_of numbers) (get_or centres k nan) in
        let found = at_is test (length centres) i (record {
          within = l;
          holds = on-not (get_or centres i nan) not_on;
          before = λ j g. on_so (get_or centres j nan) (on j g);
        }) in
        rw (h, fits_so f, found)

    way_fine : ((j : ℕ) → j < length centres → On numbers (get_or centres j nan))
        → way_check (way_of numbers) width centres ≡ Ok tt
    unfolding way_check first_refusal first_off
    way_fine on =
        let test : ℕ → Bool = λ k. off_the_way (way_of numbers) (get_or centres k nan) in
        let found = absent_is test (length centres) (λ j g. on_so (get_or centres j nan) (on j g)) in
        rw (h, fits_so f, found)

  -- ---- the answers

  too_many : bridge_limit < length centres → bridge_check numbers width centres ≡ told 13 bridge_limit
  unfolding bridge_check
  too_many h = rw (lt-ltb bridge_limit (length centres) h)

  module _ (few : length centres ≤ bridge_limit) where
    by_contour : (number place : ℕ) → contour_check numbers ≡ told number place
        → bridge_check numbers width centres ≡ told number place
    unfolding bridge_check
    by_contour number place e = rw (le-ltb bridge_limit (length centres) few, e)

    by_way : contour_check numbers ≡ Ok tt → bridge_check numbers width centres ≡ way_check (way_of numbers) width centres
    unfolding bridge_check
    by_way e = rw (le-ltb bridge_limit (length centres) few, e)

  refused : (number place : ℕ) → bridge_check numbers width centres ≡ told number place
      → bridges_of numbers width centres ≡ words.back number place
  unfolding bridges_of
  refused number place e = rw e

  answers : words.Answers numbers width centres
  answers = record {
    many = λ h. refused 13 bridge_limit (too_many h);
    unsized = λ few h. refused 6 (vertex_count numbers) (by_contour few 6 (vertex_count numbers) (sized_no numbers h));
    bad = λ few s k h b e. refused 8 k (by_contour few 8 k (first_bad_lem numbers s k h b e));
    short = λ few s g h. refused 18 0 (by_way few (none_bad numbers s g) ∙ way_short h);
    unfit = λ few s g h w. refused 18 1 (by_way few (none_bad numbers s g) ∙ way_unfit h (fits_not w));
    centre = λ few s g h f i l not_on on.
        refused 18 (2 + i) (by_way few (none_bad numbers s g) ∙ way_centre h f i l not_on on);
    fine = λ few s g h f on. accepted numbers width centres (by_way few (none_bad numbers s g) ∙ way_fine h f on);
  }

module _ (ps : List Point) (d : Float) where
  count : length (marks ps) - 1 ≡ length ps
  count = omega (arith, marks-length ps)

  found_on : (k : ℕ) → k < length ps → falls_on (marks ps) d k ≡ true
      → ((j : ℕ) → j < k → falls_on (marks ps) d j ≡ false) → edge_on (marks ps) d ≡ Some k
  unfolding edge_on
  found_on k h t b =
      rw count (at_is (falls_on (marks ps) d) (length ps) k (record { within = h; holds = t; before = b }))

  found_off : ((j : ℕ) → j < length ps → falls_on (marks ps) d j ≡ false) → edge_on (marks ps) d ≡ None
  unfolding edge_on
  found_off b = rw count (absent_is (falls_on (marks ps) d) (length ps) b)

  edge_within : 0 < length ps → (spot_by ps (marks ps) d (edge_on (marks ps) d)).vertex < length ps
  unfolding edge_on last_spot
  edge_within some = go (search_through (falls_on (marks ps) d) (length (marks ps) - 1))
    where
      go : ((k : ℕ) × LowestAt (falls_on (marks ps) d) (length (marks ps) - 1) k)
          ⊎ Nowhere (falls_on (marks ps) d) (length (marks ps) - 1)
          → (spot_by ps (marks ps) d (lowest (falls_on (marks ps) d) (length (marks ps) - 1))).vertex < length ps
      go (inl (k, w)) =
          rw (
            at_is (falls_on (marks ps) d) (length (marks ps) - 1) k w,
            held-vertex d k (mark_at (marks ps) k) (get_or (edges ps) k no_ends),
          ) (omega (arith, w.within, count))
      go (inr none) = rw (absent_is (falls_on (marks ps) d) (length (marks ps) - 1) none) (omega arith)

looked : (ps : List Point) → words.Looked ps
unfolding spot_on
looked ps = record {
  long = marks-length ps;
  first = mark_first ps;
  next = mark_next ps;
  whole = whole_is ps;
  on = found_on ps;
  off = found_off ps;
  within = λ some distance. edge_within ps (rem binary64 distance (whole_of (marks ps))) some;
  edge = edge_is ps;
}

pub claim : words.Claim
claim = (answers, places, looked)
