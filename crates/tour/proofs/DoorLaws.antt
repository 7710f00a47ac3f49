-- The doors: which refusal is told, and that the parts of a room that were lent come back at their place. Assumes
-- nothing.
use Rattle.std.specs.Prelude.{Err, Ok}
use mathlib.Core.Path.{◌≡◌, refl, sym, ap, ◌∙◌}
use mathlib.Core.List.{List, ◌++◌}
use Prim.Native.Nat.{ℕ, ◌*◌, ◌≤◌, ◌<◌}
use lib.ListN.{length, take, drop}
use lib.Seq.{length-take-le}
use lib.Ieee.{Float}
use borrow.Author.Tests.{lt-ltb, le-ltb}
use Rattle.answer.specs.Answer.{Check}
use Rattle.answer.specs.declared.Refusal.{Refusal}
use Rattle.answer.specs.Stage.{first_refusal}
use Rattle.fields.specs.Layout.{contours_of}
use Rattle.card.specs.Verdict.{check_of}
use Rattle.card.proofs.GroupLaws.{last_stage}
use Rattle.solve.specs.declared.Outcome.{Outcome}
use Rattle.solve.specs.Solve.{Solved}
use Rattle.answer.proofs.RoomLaws.{room_back}
use Rattle.instance.specs.Search.{count_on, table_on, chart_on}
use Rattle.tour.specs.Search.{end_on, tour_on}
use Rattle.tour.specs.Tour.{Left, left, room_check, tour_check, tour_check_within, toured, toured_unless, tour_of}
use Rattle.tour.specs.Tour.{tour_within}

-- ---- the rooms' sizes

module _ (s : List ℕ) (entries distances n t : ℕ) (en : n ≡ contours_of s) (et : t ≡ count_on s) where
  pub short_room : entries < n → Err (record { number = 13; place = n }) ≡ room_check s entries distances
  unfolding room_check first_refusal
  short_room h = rw (← en, lt-ltb entries n h)

  pub short_table : n ≤ entries → distances < t * t
      → Err (record { number = 13; place = t * t }) ≡ room_check s entries distances
  unfolding room_check first_refusal
  short_table h g = rw (← et, ← en, le-ltb entries n h, lt-ltb distances (t * t) g)

  pub rooms_fine : n ≤ entries → t * t ≤ distances → Ok tt ≡ room_check s entries distances
  unfolding room_check first_refusal
  rooms_fine h g = rw (← et, ← en, le-ltb entries n h, le-ltb distances (t * t) g)

-- ---- parts that were lent

pub toured_is : (s room part : List ℕ) (table after : List Float) (o : Outcome) (n d : ℕ)
    → Solved (chart_on s) (end_on s) (take n room) o part
    → length part ≡ length (take n room) → after ≡ table_on s → d ≡ count_on s * count_on s
    → left (Ok o) (part ++ drop n room) (after ++ drop d table) ≡ toured s room table
toured_is s room part table after o n d w k e f =
    rw (w.told, room_back (tour_on s) room part n w.held k, e, f)

-- ---- the doors

module _ (s room : List ℕ) (table : List Float) (a : Check) (is : a ≡ check_of s) where
  pub tour-refused : (r : Refusal) → a ≡ Err r → left (Err r) room table ≡ tour_of s room table
  unfolding tour_within tour_check_within first_refusal
  tour-refused r e = rw (← is, e)

  pub tour_fine : (l : Left) → a ≡ Ok tt
      → l ≡ toured_unless (room_check s (length room) (length table)) (toured s room table) room table
      → l ≡ tour_of s room table
  unfolding tour_within tour_check_within first_refusal
  tour_fine l e f =
      let rooms = room_check s (length room) (length table) in
      let same : rooms ≡ tour_check s (length room) (length table) = rw (← is, e) (last_stage rooms rooms refl) in
      f ∙ ap (λ (c : Check). toured_unless c (toured s room table) room table) same

-- ---- what the code meets on the way

pub part_lent : {A : Type 0} (l : List A) (n : ℕ) → n ≤ length l → n ≡ length (take n l)
part_lent l n h = sym (length-take-le n l h)

module _ (s room : List ℕ) (table : List Float) (n t : ℕ) (en : n ≡ contours_of s) (et : t ≡ count_on s) where
  pub room_refused : length room < n → left (Err (record { number = 13; place = n })) room table
      ≡ toured_unless (room_check s (length room) (length table)) (toured s room table) room table
  room_refused h =
      ap (λ (c : Check). toured_unless c (toured s room table) room table)
      (short_room s (length room) (length table) n t en et h)

  pub table_refused : n ≤ length room → length table < t * t
      → left (Err (record { number = 13; place = t * t })) room table
      ≡ toured_unless (room_check s (length room) (length table)) (toured s room table) room table
  table_refused h g =
      ap (λ (c : Check). toured_unless c (toured s room table) room table)
      (short_table s (length room) (length table) n t en et h g)

  pub rooms_passed : (l : Left) → n ≤ length room → t * t ≤ length table → l ≡ toured s room table
      → l ≡ toured_unless (room_check s (length room) (length table)) (toured s room table) room table
  rooms_passed l h g e =
      e ∙ ap (λ (c : Check). toured_unless c (toured s room table) room table)
      (rooms_fine s (length room) (length table) n t en et h g)
