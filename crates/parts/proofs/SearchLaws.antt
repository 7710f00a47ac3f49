-- What is prepared and searched on twins, the tour and the list. Assumes nothing.
use Rattle.std.specs.Prelude.{Err, None, Ok, Some}
use mathlib.Core.Path.{◌≡◌, refl, ◌∙◌}
use mathlib.Core.Bool.{cond, ◌||◌}
use mathlib.Core.List.{List, [], ◌∷◌, ◌++◌}
use Prim.Native.Nat.{ℕ, zero, suc, ◌+◌, ◌*◌, ◌-◌, ◌≤◌, min}
use native.Mathlib.Omega.{arith}
use lib.Dec.{ltb, eqb}
use lib.Ieee.{Float}
use lib.ListN.{length, drop, get_or, replicate}
use Rattle.answer.specs.Answer.{Check, Found}
use Rattle.answer.specs.Lowest.{refuse_if}
use Rattle.answer.specs.Room.{placed, padded}
use Rattle.answer.specs.Stage.{first_refusal}
use Rattle.candidates.specs.Direction.{direction_of}
use Rattle.candidates.specs.Generate.{blank, candidates_of}
use Rattle.closure.specs.Limits.{contour_limit, pair_limit}
use Rattle.fields.specs.Limits.{candidate_limit, vertex_limit}
use Rattle.fields.specs.Layout.{contours_of, vertex_count_of, home_offset, vertex_offset}
use Rattle.fields.specs.Values.{as_type, as_preference}
use Rattle.card.specs.Names.{named_as, known_before, named_of, named_within}
use Rattle.table.specs.Distances.{homed, homes_of, distances_of}
use Rattle.improve.specs.Code.{chart_of}
use Rattle.instance.specs.Gather.{vertices_of, outline_of, way_of, offers_of, gathered, owners, firsts, room_for}
use Rattle.instance.specs.Room.{held_at, instance_of}
use Rattle.instance.specs.Search.{home_on, candidates_on, owners_on, firsts_on, table_on, chart_on}
use Rattle.instance.specs.Prepared.{no_distances, prepared_of}
use Rattle.solve.specs.Solve.{end_in, outcome_in}
use Rattle.tour.specs.Search.{end_on, end_within, outcome_on}
use Rattle.tour.specs.Tour.{left, room_check, tour_check, tour_check_within, toured_unless, tour_of, tour_within}
use Rattle.text.specs.Text.{bytes, decimal_of}
use Rattle.list.specs.Lines.{head_line, way_word, name_words, place_line, stop_line, stop_lines, outcome_lines, tour_lines}
use Rattle.list.specs.Lines.{list_unless, list_of}
use Rattle.parts.specs.Twins.{Twins}
use Rattle.parts.proofs.ReadLaws.{point, same_job, same_contours, same_pairs, same_per_contour, same_passes}
use Rattle.parts.proofs.ReadLaws.{same_limit, at_home, same_exterior, same_interior, same_grid, same_id}
use Rattle.parts.proofs.ReadLaws.{same_tag, same_count, same_type, at-vertex}
use Rattle.parts.proofs.VerdictLaws.{same_name_fault, same_seats, same_pairs-on, same_verdict}

module _ (s t : List ℕ) (w : Twins s t) where
  abbrev n_same : contours_of s ≡ contours_of t
  n_same = same_contours s t w

  -- ---- the candidates

  same_vertices : (k j : ℕ) → j ≤ vertex_limit → vertices_of s k j ≡ vertices_of t k j
  unfolding vertices_of
  same_vertices k zero h = refl
  same_vertices k (suc j) h =
      λ i. same_vertices k j (omega arith) i ++ (point s t (vertex_offset k j) (at-vertex s t w k j h) i ∷ [])

  same_outline : (k : ℕ) → outline_of s k ≡ outline_of t k
  unfolding outline_of
  same_outline k =
      same_vertices k (min (vertex_count_of s k) vertex_limit) (omega arith)
      ∙ (λ i. vertices_of t k (min (same_count s t w k i) vertex_limit))

  same_way : (k : ℕ) → way_of s k ≡ way_of t k
  same_way k = λ i. direction_of (as_type (same_type s t w k i)) (as_preference (same_exterior s t w i))
      (as_preference (same_interior s t w i))

  same_offers : (k : ℕ) → offers_of s k ≡ offers_of t k
  unfolding offers_of
  same_offers k = λ i. candidates_of (eqb (same_grid s t w i) 1) (same_way k i) (same_outline k i)
      (same_per_contour s t w i)

  same_gathered : (k : ℕ) → gathered s k ≡ gathered t k
  unfolding gathered
  same_gathered zero = refl
  same_gathered (suc k) = λ i. same_gathered k i ++ same_offers k i

  same_owners : (k : ℕ) → owners s k ≡ owners t k
  unfolding owners
  same_owners zero = refl
  same_owners (suc k) = λ i. same_owners k i ++ replicate (length (same_offers k i)) k

  same_firsts : (k : ℕ) → firsts s k ≡ firsts t k
  unfolding firsts
  same_firsts zero = refl
  same_firsts (suc k) = λ i. same_firsts k i ++ (length (same_gathered (suc k) i) ∷ [])

  same_home : home_on s ≡ home_on t
  same_home = point s t home_offset (at_home s t w)

  -- ---- what the doors read

  same_instance : instance_of s ≡ instance_of t
  unfolding instance_of held_at
  same_instance = λ i.
      let k = cond (room_for (n_same i) (same_per_contour s t w i)) (n_same i) 0 in
      record {
        items = padded candidate_limit blank (same_gathered k i);
        owner = padded candidate_limit 0 (same_owners k i);
        first = padded (contour_limit + 1) 0 (same_firsts k i);
        contours = k;
        count = length (same_gathered k i);
      }

  same_known : (f : Found) → known_before s f ≡ known_before t f
  same_known (Some q) = same_seats s t w q
  same_known None = same_pairs-on s t w

  same_named : named_of s ≡ named_of t
  unfolding named_within
  same_named = λ i.
      let many = ltb contour_limit (n_same i) || ltb pair_limit (same_pairs s t w i) in
      let stop = cond many (Some 0) (same_name_fault s t w i) in
      named_as stop (same_known stop i)

  pub same_prepared : prepared_of s ≡ prepared_of t
  unfolding prepared_of
  same_prepared = λ i. record {
    all = same_instance i;
    homes = homed (same_instance i).items (same_instance i).count (same_home i) no_distances;
    pairs = (same_named i).positions;
    seats = (same_named i).count;
  }

  -- ---- the search

  pub same_candidates : candidates_on s ≡ candidates_on t
  same_candidates = λ i. same_gathered (n_same i) i

  pub same_owners-on : owners_on s ≡ owners_on t
  same_owners-on = λ i. same_owners (n_same i) i

  pub same_firsts-on : firsts_on s ≡ firsts_on t
  same_firsts-on = λ i. same_firsts (n_same i) i

  same_table : table_on s ≡ table_on t
  same_table = λ i. distances_of (same_candidates i) (same_owners-on i)

  pub same_chart : chart_on s ≡ chart_on t
  unfolding chart_on
  same_chart = λ i. chart_of (homes_of (same_candidates i) (same_home i)) (same_table i) (length (same_candidates i))
      (same_owners-on i) (same_firsts-on i) (same_pairs-on s t w i)

  pub same_end : end_on s ≡ end_on t
  unfolding end_within
  same_end = λ i. end_in (same_chart i) (n_same i) (same_passes s t w i) (same_limit s t w i)

  pub same_outcome : outcome_on s ≡ outcome_on t
  same_outcome = λ i. outcome_in (same_chart i) (same_end i)

  same_check : (entries distances : ℕ) → tour_check s entries distances ≡ tour_check t entries distances
  unfolding tour_check_within room_check
  same_check entries distances = λ i.
      let c = length (same_candidates i) in
      first_refusal (same_verdict s t w i ∷ first_refusal (refuse_if (ltb entries (n_same i)) 13 (n_same i)
      ∷ refuse_if (ltb distances (c * c)) 13 (c * c) ∷ []) ∷ [])

  pub same_tour : (room : List ℕ) (table : List Float) → tour_of s room table ≡ tour_of t room table
  unfolding tour_within
  same_tour room table = λ i.
      let c = length (same_candidates i) in
      toured_unless (same_check (length room) (length table) i)
      (left (Ok (same_outcome i)) (placed (same_end i).tour room) (same_table i ++ drop (c * c) table))
      room table

  -- ---- the list

  same_stop : (a : ℕ) → stop_line s a ≡ stop_line t a
  unfolding stop_line place_line name_words
  same_stop a = λ i.
      let k = get_or (same_owners-on i) a 0 in
      decimal_of (same_id s t w k i) ++ (bytes " " ++ decimal_of (same_tag s t w k i))
      ++ (bytes " " ++ decimal_of (a - get_or (same_firsts-on i) k 0)) ++ way_word (same_way k i)

  same_stops : (tour : List ℕ) → stop_lines s tour ≡ stop_lines t tour
  unfolding stop_lines
  same_stops [] = refl
  same_stops (a ∷ tour) = λ i. same_stop a i ++ same_stops tour i

  same_lines : (c : Check) → list_unless c s ≡ list_unless c t
  unfolding tour_lines head_line
  same_lines (Err r) = refl
  same_lines (Ok _) = λ i.
      bytes "JOB " ++ decimal_of (same_job s t w i) ++ (bytes " CONTOURS " ++ decimal_of (n_same i)) ++ bytes "\n"
      ++ same_stops (same_end i).tour i ++ outcome_lines (same_outcome i)

  pub same_list : list_of s ≡ list_of t
  unfolding list_of
  same_list = λ i. same_lines (same_verdict s t w i) i
