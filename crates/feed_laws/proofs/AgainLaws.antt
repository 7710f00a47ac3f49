-- The tour asked for again, in the rooms that it was written to: the same answer, and the rooms stay. Assumes nothing.
use Rattle.std.specs.Prelude.{Err, Ok}
use mathlib.Core.Path.{◌≡◌, refl, ap, ◌∙◌}
use mathlib.Core.Bool.{Bool, true, false}
use mathlib.Core.List.{List, [], ◌∷◌, ◌++◌}
use Prim.Native.Nat.{ℕ, ◌*◌, ◌≤◌}
use native.Mathlib.Omega.{arith}
use borrow.Author.Tests.{ltb-false, le-ltb}
use lib.Dec.{ltb}
use lib.Ieee.{Float}
use lib.ListN.{length, drop, length-append, length-drop}
use lib.Seq.{drop_at}
use Rattle.answer.specs.Answer.{Check}
use Rattle.answer.specs.Stage.{first_refusal}
use Rattle.answer.specs.Lowest.{refuse_if}
use Rattle.answer.specs.Room.{placed}
use Rattle.answer.proofs.RoomLaws.{placed_again}
use Rattle.fields.specs.Layout.{contours_of}
use Rattle.card.specs.Verdict.{check_of}
use Rattle.table.proofs.DistanceLaws.{distances-length}
use Rattle.instance.specs.Search.{candidates_on, count_on, owners_on, table_on}
use Rattle.tour.specs.Search.{tour_on}
use Rattle.tour.specs.Tour.{room_check, tour_check, tour_check_within, toured, toured_unless, tour_of, tour_within}

-- a list written to the front makes no room smaller
pub placed_grows : {A : Type 0} (l room : List A) → length room ≤ length (placed l room)
placed_grows l room = rw (length-append l (drop (length l) room), length-drop (length l) room) (omega arith)

-- rooms that are large enough stay so when they grow
enough : (n a b : ℕ) → ltb a n ≡ false → a ≤ b → ltb b n ≡ false
enough n a b e h = let m = ltb-false a n e in le-ltb b n (omega arith)

module _ (s : List ℕ) where
  -- the check by its three tests
  tests : Check → Bool → Bool → Check
  tests c a b = first_refusal (c ∷ first_refusal (refuse_if a 13 (contours_of s)
      ∷ refuse_if b 13 (count_on s * count_on s) ∷ []) ∷ [])

  fine_grown : (c : Check) (a b a' b' : Bool) → (a ≡ false → a' ≡ false) → (b ≡ false → b' ≡ false)
      → tests c a b ≡ Ok tt → tests c a' b' ≡ Ok tt
  unfolding tests first_refusal
  fine_grown (Err r) a b a' b' f g e = e
  fine_grown (Ok _) true b a' b' f g e = let z : ◌≡◌ {A = ℕ} 0 1 = cc in absurd (omega arith)
  fine_grown (Ok _) false true a' b' f g e = let z : ◌≡◌ {A = ℕ} 0 1 = cc in absurd (omega arith)
  fine_grown (Ok _) false false a' b' f g e = rw (f refl, g refl)

  still_fine : (a a' b b' : ℕ) → a ≤ a' → b ≤ b' → tour_check s a b ≡ Ok tt → tour_check s a' b' ≡ Ok tt
  unfolding tour_check_within room_check tests
  still_fine a a' b b' h g e =
      let n = contours_of s in
      let t = count_on s * count_on s in
      fine_grown (check_of s) (ltb a n) (ltb b t) (ltb a' n) (ltb b' t) (λ f. enough n a a' f h)
      (λ f. enough t b b' f g) e

  module _ (room : List ℕ) (table : List Float) where
    abbrev entries : ℕ
    entries = count_on s * count_on s

    long : length (table_on s) ≡ entries
    long = distances-length (candidates_on s) (owners_on s)

    abbrev written : List Float
    written = table_on s ++ drop entries table

    written_again : table_on s ++ drop entries written ≡ written
    written_again = ap (λ (r : List Float). table_on s ++ r) (drop_at (table_on s) (drop entries table) entries long)

    written_grows : length table ≤ length written
    written_grows =
        rw (length-append (table_on s) (drop entries table), length-drop entries table, long) (omega arith)

    same : (c : Check) → tour_check s (length room) (length table) ≡ c
        → let l = toured_unless c (toured s room table) room table in tour_of s l.room l.table ≡ l
    unfolding tour_within
    same (Err r) e = ap (λ (c : Check). toured_unless c (toured s room table) room table) e
    same (Ok _) e =
        let tour = tour_on s in
        let fine = still_fine (length room) (length (placed tour room)) (length table) (length written)
        (placed_grows tour room) written_grows e in
        ap (λ (c : Check). toured_unless c (toured s (placed tour room) written) (placed tour room) written) fine
        ∙ rw (placed_again tour room, written_again)

    pub tour_again : let l = tour_of s room table in tour_of s l.room l.table ≡ l
    unfolding tour_within
    tour_again = same (tour_check s (length room) (length table)) refl

    -- and no table gets smaller
    pub table_grows : length table ≤ length (tour_of s room table).table
    unfolding tour_within
    table_grows = go (tour_check s (length room) (length table))
      where
        go : (c : Check) → length table ≤ length (toured_unless c (toured s room table) room table).table
        go (Ok _) = written_grows
        go (Err r) = omega arith
