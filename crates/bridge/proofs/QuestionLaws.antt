-- Which of its cases a question's check is in. Assumes nothing.
use Rattle.std.specs.Prelude.{Err, Ok, Some}
use mathlib.Core.Path.{◌≡◌, refl, sym}
use mathlib.Core.Bool.{Bool, true, false, not, or-true}
use mathlib.Core.List.{List}
use Prim.Native.Nat.{ℕ, ◌+◌, ◌/◌, ◌≤◌, ◌<◌}
use native.Mathlib.Omega.{arith}
use borrow.Author.Tests.{ltb-false}
use lib.Dec.{ltb}
use lib.ListN.{length}
use lib.Ieee.{Float, nan, inf, fin, div, lt, of_bits}
use Rattle.answer.specs.Answer.{Check}
use Rattle.answer.specs.Lowest.{refuse_at, refuse_if}
use Rattle.answer.specs.Stage.{or_else, first_refusal}
use Rattle.answer.proofs.Truth.{or-none}
use Rattle.answer.proofs.LowestLaws.{is_at_lem}
use Rattle.fields.specs.Limits.{vertex_limit}
use Rattle.points.specs.Points.{points}
use Rattle.points.specs.Bad.{first_bad}
use Rattle.points.specs.Numbers.{zero64}
use Rattle.candidates.specs.Along.{perimeter_of}
use Rattle.candidates.specs.Question.{outside, contour_check}
use Rattle.bridge.specs.Limits.{bridge_limit}
use Rattle.bridge.specs.Question.{half_of, finite, bad_width, first_off, way_check, bridge_check}

-- ---- widths

-- what is above 0 and has its half below something is finite
pub narrow_finite : (whole width : Float) → lt zero64 width ≡ true → lt (half_of width) whole ≡ true
    → finite width ≡ true
unfolding lt half_of div of_bits
narrow_finite whole nan a h = a
narrow_finite nan (inf s) a h = h
narrow_finite (inf t) (inf true) a h = a
narrow_finite (inf t) (inf false) a h = h
narrow_finite (fin t n d) (inf true) a h = a
narrow_finite (fin t n d) (inf false) a h = h
narrow_finite whole (fin s m e) a h = refl

pub width_fits : (whole width : Float) → lt zero64 width ≡ true → lt (half_of width) whole ≡ true
    → bad_width whole width ≡ false
unfolding bad_width
width_fits whole width a h = rw (narrow_finite whole width a h, a, h)

pub too_wide : (whole width : Float) → lt (half_of width) whole ≡ false → bad_width whole width ≡ true
unfolding bad_width
too_wide whole width h = rw (h, or-true (not (lt zero64 width)), or-true (not (finite width)))

-- of a width above 0, as the code asks it
pub wide_or_not : (whole width : Float) → lt zero64 width ≡ true
    → not (lt (half_of width) whole) ≡ bad_width whole width
wide_or_not whole width a = go (lt (half_of width) whole) refl
  where
    go : (b : Bool) → lt (half_of width) whole ≡ b → not b ≡ bad_width whole width
    go true h = sym (width_fits whole width a h)
    go false h = sym (too_wide whole width h)

pub not-above : (whole width : Float) → lt zero64 width ≡ false → bad_width whole width ≡ true
unfolding bad_width
not-above whole width h = rw (h, or-true (not (finite width)))

-- ---- centres

pub off_within : (whole : Float) (centres : List Float) (k : ℕ) → first_off whole centres ≡ Some k → k < length centres
unfolding first_off
off_within whole centres k e = (is_at_lem _ _ _ e).within

-- ---- a question with nothing wrong

-- neither of two checks in a row refuses
or_else-first : (a b : Check) → or_else a b ≡ Ok tt → a ≡ Ok tt
or_else-first (Ok _) b e = refl
or_else-first (Err r) b e = e

or_else-second : (a b : Check) → or_else a b ≡ Ok tt → b ≡ Ok tt
or_else-second (Ok _) b e = e
or_else-second (Err r) b e = let z : ◌≡◌ {A = ℕ} 0 1 = cc in absurd (omega arith)

-- a test that is not refused fails
not-refused : (b : Bool) (number place : ℕ) → refuse_if b number place ≡ Ok tt → b ≡ false
not-refused false number place e = refl
not-refused true number place e = let z : ◌≡◌ {A = ℕ} 0 1 = cc in absurd (omega arith)

module _ (numbers : List Float) (width : Float) (centres : List Float)
    (fine : bridge_check numbers width centres ≡ Ok tt) where
  pub fine_few : length centres ≤ bridge_limit
  unfolding bridge_check
  fine_few =
      ltb-false bridge_limit (length centres)
      (not-refused (ltb bridge_limit (length centres)) 13 bridge_limit (or_else-first _ _ fine))

  pub fine_sized : length numbers / 2 ≤ vertex_limit
  unfolding bridge_check contour_check first_refusal
  fine_sized =
      let v = (length numbers + 1) / 2 in
      let contour = or_else-first (contour_check numbers) (way_check (perimeter_of (points numbers)) width centres)
      (or_else-second (refuse_if (ltb bridge_limit (length centres)) 13 bridge_limit)
      (or_else (contour_check numbers) (way_check (perimeter_of (points numbers)) width centres)) fine) in
      let sized = or_else-first (refuse_if (outside vertex_limit v) 6 v)
      (or_else (refuse_at 8 (first_bad numbers v)) (Ok tt)) contour in
      let within = (or-none (ltb v 1) (ltb vertex_limit v) (not-refused (outside vertex_limit v) 6 v sized)).1 in
      omega (arith, ltb-false vertex_limit v within)
