-- What the tour's door left behind decides the list: with rooms of its own for a tour and a table nothing else is
-- refused than by the card's check. Assumes nothing.
use Rattle.std.specs.Prelude.{Err, Ok}
use mathlib.Core.Path.{◌≡◌, refl, sym, ap, ◌∙◌}
use mathlib.Core.List.{List}
use Prim.Native.Nat.{ℕ, ◌*◌, ◌≤◌}
use native.Mathlib.Nat.{mul-le-mul}
use native.Mathlib.Omega.{arith}
use lib.ListN.{length, take, drop, length-take}
use lib.Seq.{take_at}
use lib.Ieee.{Float}
use Rattle.answer.specs.Answer.{Answer, Check}
use Rattle.answer.specs.declared.Refusal.{Refusal}
use Rattle.answer.specs.Stage.{or_else, first_refusal}
use Rattle.closure.specs.Limits.{contour_limit}
use Rattle.fields.specs.Limits.{candidate_limit}
use Rattle.fields.specs.Layout.{contours_of}
use Rattle.card.specs.Verdict.{check_of}
use Rattle.card_laws.proofs.Facts.{accepted}
use Rattle.table.specs.Distances.{entry_limit}
use Rattle.instance.proofs.FineLaws.{few_candidates}
use Rattle.solve.specs.declared.Outcome.{Outcome}
use Rattle.answer.specs.Room.{placed}
use Rattle.instance.specs.Search.{count_on}
use Rattle.tour.specs.Search.{tour_on, outcome_on}
use Rattle.tour.specs.Tour.{Left, left, room_check, tour_check, tour_check_within, toured, toured_unless, tour_of, tour_within}
use Rattle.tour.proofs.DoorLaws.{rooms_fine}
use Rattle.tour_laws.proofs.TourLaws.{tour_long}
use Rattle.list.specs.Lines.{tour_lines, refusal_line, list_of}

-- rooms of the largest size suffice for every accepted card
same_check : (s : List ℕ) → tour_check s contour_limit entry_limit ≡ check_of s
unfolding tour_check_within first_refusal
same_check s = go (check_of s) refl
  where
    go : (a : Check) → check_of s ≡ a → or_else a (or_else (room_check s contour_limit entry_limit) (Ok tt)) ≡ a
    go (Err r) e = refl
    go (Ok _) e =
        let f = few_candidates s e in
        let m : count_on s * count_on s ≤ entry_limit = mul-le-mul {n₂ = candidate_limit} {m₂ = candidate_limit} f f in
        rw (sym (rooms_fine s contour_limit entry_limit (contours_of s) (count_on s) refl refl
        (accepted s e).few_contours m))

module _ (s room : List ℕ) (table : List Float) where
  told-refused : (c : Check) (r : Refusal) (after : List ℕ) (rest : List Float)
      → left (Err r) after rest ≡ toured_unless c (toured s room table) room table → c ≡ Err r
  told-refused (Ok _) r after rest e =
      let f : Err r ≡ Ok (outcome_on s) = ap (λ (l : Left). l.answer) e in
      let z : ◌≡◌ {A = ℕ} 0 1 = cc in
      absurd (omega arith)
  told-refused (Err q) r after rest e =
      let f : Err r ≡ Err q = ap (λ (l : Left). l.answer) e in
      cc

  told_done : (c : Check) (o : Outcome) (after : List ℕ) (rest : List Float)
      → left (Ok o) after rest ≡ toured_unless c (toured s room table) room table
      → (c ≡ Ok tt) × (o ≡ outcome_on s) × (after ≡ placed (tour_on s) room)
  told_done (Ok _) o after rest e =
      let f : Ok o ≡ Ok (outcome_on s) = ap (λ (l : Left). l.answer) e in
      (refl, cc, ap (λ (l : Left). l.room) e)
  told_done (Err q) o after rest e =
      let f : Ok o ≡ Err q = ap (λ (l : Left). l.answer) e in
      let z : ◌≡◌ {A = ℕ} 0 1 = cc in
      absurd (omega arith)

  module _ (seats : length room ≡ contour_limit) (entries : length table ≡ entry_limit) (told : Answer Outcome) (after : List ℕ)
      (rest : List Float) (is : left told after rest ≡ tour_of s room table) where
    as_checked : tour_of s room table ≡ toured_unless (check_of s) (toured s room table) room table
    unfolding tour_within
    as_checked = rw (seats, entries, same_check s)

    pub refused-listed : (r : Refusal) → told ≡ Err r → refusal_line r ≡ list_of s
    unfolding list_of
    refused-listed r e =
        rw (told-refused (check_of s) r after rest (ap (λ (t : Answer Outcome). left t after rest) (sym e) ∙ is ∙ as_checked))

    module _ (o : Outcome) (e : told ≡ Ok o) where
      all : (check_of s ≡ Ok tt) × (o ≡ outcome_on s) × (after ≡ placed (tour_on s) room)
      all = told_done (check_of s) o after rest (ap (λ (t : Answer Outcome). left t after rest) (sym e) ∙ is ∙ as_checked)

      pub done_fine : check_of s ≡ Ok tt
      done_fine = all.0

      module _ (n : ℕ) (k : n ≡ contours_of s) where
        front : take n after ≡ tour_on s
        front = ap (take n) all.2
            ∙ take_at (tour_on s) (drop (length (tour_on s)) room) n (tour_long s all.0 ∙ sym k)

        pub tour_whole : n ≡ length (take n after)
        tour_whole = k ∙ sym (ap length front ∙ tour_long s all.0)

        pub tour_within_lem : n ≤ length after
        tour_within_lem = let w = tour_whole in omega (arith, length-take n after)

        pub done_listed : tour_lines s (take n after) o ≡ list_of s
        unfolding list_of
        done_listed = rw (all.0, front, all.1)
