-- The starred table holds: each row is computed. Assumes nothing.
use Rattle.std.specs.Prelude.{Err, Ok}
use mathlib.Core.Path.{◌≡◌, refl, sym, ap, ◌∙◌}
use mathlib.Core.Bool.{false}
use mathlib.Core.List.{List, []}
use Prim.Native.Nat.{ℕ, ◌*◌, ◌≤◌}
use Prim.Native.String.{String}
use lib.Ieee.{Float, of_bits, of_fields, odd, size, span, climb, round, units}
use lib.Count.{count_trailing_zeros}
use lib.ListN.{length, get_or}
use Rattle.answer.specs.declared.Refusal.{Refusal}
use Rattle.answer.specs.Answer.{Check}
use Rattle.answer.specs.declared.CutDirection.{CutDirection}
use Rattle.answer.specs.Stage.{first_refusal}
use Rattle.answer.specs.Lowest.{lowest, lowest_from}
use Rattle.root.specs.Whole.{digits, whole_root, halves}
use Rattle.root.specs.Root.{root_finite, root_of}
use Rattle.root.proofs.Starred.{starred_roots}
use Rattle.points.specs.Points.{points}
use Rattle.points.specs.Bad.{bad_number, bad_point, bad_at, first_bad}
use Rattle.points.specs.Square.{square}
use Rattle.cost.proofs.Starred.{closest_of_square}
use Rattle.candidates.specs.Direction.{direction_of}
use Rattle.candidates.specs.Generate.{blank, candidates_of, filled}
use Rattle.candidates.specs.Question.{contour_check, one_contour, offered_of}
use Rattle.candidates.proofs.Starred.{two_of_square, second_of_four}
use Rattle.fields.specs.Layout.{contours_of}
use Rattle.card.specs.Verdict.{check_of}
use Rattle.card_laws.specs.Card.{Card}
use Rattle.card_laws.specs.Write.{written}
use Rattle.card_laws.specs.Examples.{as_job41, job41, self_pair, waiting}
use Rattle.card_laws.proofs.Starred.{examples}
use Rattle.instance.specs.Search.{count_on}
use Rattle.tour.specs.Tour.{toured, toured_unless, tour_of}
use Rattle.tour.proofs.DoorLaws.{rooms_fine, tour_fine}
use Rattle.tour_laws.proofs.Computes.{tour_computes}
use Rattle.text.specs.Text.{bytes, decimal_in, decimal_of, hex_of}
use Rattle.list.specs.Lines.{head_line, way_word, name_words, place_line, stop_line, stop_lines, outcome_lines, tour_lines}
use Rattle.list.specs.Lines.{list_of}
use Rattle.demands.specs.Doors.{refused_line}
use Rattle.demands.specs.Starred.{OfRoots, OfSquare, GoesBack, OfNothing, OfCycles, OfJob41, Claim}
use Rattle.demands.proofs.Doors.{passed_on}

-- what the list of a card is computed through
unfoldable pub list_computes : Unit {0}
unfolding tour_computes list_of tour_lines head_line stop_lines stop_line place_line name_words way_word outcome_lines decimal_of
    decimal_in hex_of
list_computes = tt

-- ---- roots and the square

of_roots : OfRoots
unfolding root_of root_finite whole_root digits halves of_bits of_fields odd size span climb round units count_trailing_zeros
of_roots = record {
  root_four = record { asked = refl; within = starred_roots.0 };
  root_quarter = record { asked = refl; within = starred_roots.1 };
  root-above-one = record { asked = refl; within = starred_roots.2 };
  root_below_one = record { asked = refl; within = starred_roots.3 };
  root_smallest = record { asked = refl; within = starred_roots.4 };
}

-- nothing is wrong with the square, two or four candidates wanted
square_fine : (one_contour square 2 ≡ Ok tt) × (one_contour square 4 ≡ Ok tt)
unfolding one_contour contour_check first_refusal first_bad lowest lowest_from bad_at bad_point bad_number points
    of_bits of_fields odd size span climb round units count_trailing_zeros
square_fine = (refl, refl)

-- four candidates, the second as it is in the room that they are handed out in
four_of_square : (way : CutDirection) → let all = candidates_of false way (points square) 4 in
    (length all ≡ 4) × (get_or (filled all).items 1 blank ≡ get_or all 1 blank)
unfolding tour_computes points filled
four_of_square way = (refl, refl)

of_square : OfSquare
unfolding offered_of filled
of_square = record {
  two_candidates = λ kind exterior interior. rw (square_fine.0, two_of_square _);
  second_of_four = λ kind exterior interior.
      let way = direction_of kind exterior interior in (
        filled (candidates_of false way (points square) 4),
        rw square_fine.1,
        (four_of_square way).0,
        (four_of_square way).1 ∙ second_of_four way,
      );
  closest = closest_of_square;
}

-- ---- cards

-- where a card is fine and the rooms are large enough, they hold what the tour's definition says
in_rooms : (s room : List ℕ) (table : List Float) → check_of s ≡ Ok tt → contours_of s ≤ length room
    → count_on s * count_on s ≤ length table → tour_of s room table ≡ toured s room table
in_rooms s room table fine seats entries =
    sym (tour_fine s room table (check_of s) refl (toured s room table) fine
    (ap (λ (c : Check). toured_unless c (toured s room table) room table)
    (rooms_fine s (length room) (length table) (contours_of s) (count_on s) refl refl seats entries)))

-- what goes back goes back from every door
back : (c : Card) (r : Refusal) (list : String) → check_of (written c) ≡ Err r
    → refused_line r ≡ bytes list → GoesBack c r list
back c r list e line =
    let on = passed_on (written c) r e in
    record { checked = e; toured = on.tour; printed = on.write_list_lem ∙ line }

of_nothing : OfNothing
unfolding list_computes
of_nothing = record {
  checked = examples.empty;
  toured = λ room table seats entries. in_rooms (written (as_job41 [] [])) room table examples.empty seats entries;
  printed = refl;
}

of_cycles : OfCycles
unfolding decimal_of decimal_in
of_cycles = record {
  self_pair_lem = back self_pair _ _ examples.on_itself refl;
  waiting_only = back waiting _ _ examples.on_a_cycle refl;
}

of_job41 : OfJob41
unfolding list_computes
of_job41 = record {
  checked = examples.job41_fine;
  toured = λ room table seats entries. in_rooms (written job41) room table examples.job41_fine seats entries;
  printed = refl;
}

pub claim : Claim
claim = record {
  roots = of_roots;
  of_square = of_square;
  of_nothing = of_nothing;
  of_cycles = of_cycles;
  of_job41 = of_job41;
}
