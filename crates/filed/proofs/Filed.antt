-- Cards already filed keep their tours. Assumes nothing.
use Rattle.std.specs.Prelude.{Ok}
use mathlib.Core.Path.{◌≡◌, sym, ap, ◌∙◌}
use mathlib.Core.List.{List}
use Prim.Native.Nat.{ℕ, ◌≤◌}
use native.Mathlib.Omega.{arith}
use lib.ListN.{length}
use Rattle.fields.specs.Layout.{contours_of, pairs_of}
use Rattle.card.specs.Limits.{today, before}
use Rattle.card.specs.Verdict.{check_within, check_of}
use Rattle.instance.specs.Gather.{gathered}
use Rattle.instance.proofs.FineLaws.{held_all}
use Rattle.tour_laws.proofs.TourLaws.{start_long}
use Rattle.filed.specs.Filed.{Kept, Claim}
use Rattle.filed.proofs.LimitLaws.{Passes, Small, passes, small, one_verdict, one_head, one_cycle, one-held}
use Rattle.filed.proofs.LimitLaws.{one_start, one-tour, one_list, length_again, short_enough}

module _ (s : List ℕ) (e : check_within before s ≡ Ok tt) where
  then : Passes before s
  then = passes before s e

  small_then : Small before s
  small_then = small before s then.head_fine

  -- none of the three was lowered
  small_now : Small today s
  small_now =
      let n : contours_of s ≤ before.contours = small_then.contours in
      let m : pairs_of s ≤ before.pairs = small_then.pairs in
      record { contours = omega arith; pairs = omega arith }

  now : Passes today s
  now =
      let short : length s ≤ before.bytes = short_enough before.bytes s then.length_fine in
      record {
        length_fine = length_again before.bytes today.bytes s then.length_fine (omega arith);
        head_fine = sym (one_head before today s small_then small_now) ∙ then.head_fine;
        cycle_fine = sym (one_cycle before today s small_then small_now) ∙ then.cycle_fine;
      }

  same : check_within before s ≡ check_of s
  same = one_verdict before today s then now

  fine : check_of s ≡ Ok tt
  fine = sym same ∙ e

  kept : Kept before s
  kept = record {
    fine = fine;
    candidates = ap (gathered s) (one-held before today s small_then small_now ∙ held_all s fine);
    pairs = one_list before today s small_then small_now;
    start = one_start before today s small_then small_now;
    tour = λ room table. one-tour before today s small_then small_now (start_long s fine) room table same;
  }

pub claim : Claim
claim = kept
