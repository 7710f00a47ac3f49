-- A card whose blocks say what those of a crowded one say is fine, lies on the grid and is answered with a tour.
-- Assumes nothing.
use Rattle.std.specs.Prelude.{None, Ok}
use mathlib.Core.Path.{◌≡◌, refl, sym, ap, ◌∙◌}
use mathlib.Core.Bool.{Bool, false, true≢false}
use mathlib.Core.List.{List, [], ◌∷◌, map, map-append}
use Prim.Native.Nat.{ℕ, zero, suc, ◌+◌, ◌*◌, ◌-◌, ◌%◌, ◌<◌, ◌≤◌, min}
use native.Mathlib.Numerals.{add-one}
use native.Mathlib.Omega.{arith}
use borrow.Author.Tests.{le-ltb, le-leb, eq-eqb, ne_eqb}
use lib.Dec.{T, eqb, eqb-suc-zero}
use lib.Ieee.{Float}
use lib.ListN.{length, get_or, replicate, length-map, length-replicate, replicate-append-replicate, get_or-replicate}
use lib.ListN.{get_or-map}
use Rattle.answer.specs.declared.Point.{Point}
use Rattle.answer.specs.Lowest.{lowest}
use Rattle.answer.proofs.LowestLaws.{Nowhere, absent_is}
use Rattle.block.specs.Field.{u64_at, f64_at}
use Rattle.block.specs.Block.{block_bytes}
use Rattle.points.specs.Points.{point}
use Rattle.points.specs.Numbers.{zero64}
use Rattle.candidates.specs.Generate.{candidates_from, candidates_of}
use Rattle.closure.specs.Limits.{contour_limit}
use Rattle.closure.specs.Pairs.{paired, some_of}
use Rattle.closure.specs.Cycle.{linked, Reaches, step, onward}
use Rattle.closure.proofs.PathLaws.{absent_exactly, pair_linked}
use Rattle.exact.specs.Grid.{grid_point}
use Rattle.fields.specs.Limits.{card_bytes}
use Rattle.fields.specs.Layout.{blocks_of, version_of, contours_of, pairs_of, per_contour_of, home_offset, id_of}
use Rattle.fields.specs.Values.{point_at}
use Rattle.card.specs.Stages.{bad_check, bad_start, bad_contour, bad_spare, far_vertex, far_place, seek_of, repeats}
use Rattle.card.specs.Stages.{length_fault_within, length_fault, check_fault, start_fault, head_fault, count_fault}
use Rattle.card.specs.Stages.{contour_fault, spare_fault, far_fault, repeat_fault, name_fault, tag_fault}
use Rattle.card.specs.Names.{seats_of, pairs_on}
use Rattle.card.specs.Verdict.{cycle_fault_within, cycle_fault, check_within, check_of}
use Rattle.card_laws.proofs.JoinedLaws.{no_parts, unruled}
use Rattle.card_laws.proofs.Starred.{verdict_computes}
use Rattle.table.specs.Distances.{absent, pierced}
use Rattle.instance.specs.Gather.{vertices_of, outline_of, offers_of, gathered}
use Rattle.instance.specs.Search.{home_on, count_on}
use Rattle.tour.specs.Search.{outcome_on}
use Rattle.tour.specs.Tour.{Left, toured, tour_of}
use Rattle.tour.proofs.DoorLaws.{tour_fine, rooms_passed}
use Rattle.demands.specs.Demand3.{stop_on, OnGrid}
use Rattle.larger.proofs.Blocks.{Says}

-- what the head says
pub record Head (s : List ℕ) (n : ℕ) : Type 0 where
  pub version : version_of s ≡ 1
  pub contours : contours_of s ≡ n
  pub pairs : pairs_of s ≡ 0
  pub per_contour_lem : per_contour_of s ≡ 1
  pub x_is : u64_at s home_offset ≡ 0
  pub y_is : u64_at s (home_offset + 8) ≡ 0
  pub check : bad_check s 0 ≡ false
  pub start : bad_start s 0 ≡ false
  pub spare : bad_spare s 0 ≡ false
  pub fields : head_fault s ≡ None

-- what all blocks say
pub record Known (s : List ℕ) (n : ℕ) : Type 0 where
  pub few : n ≤ contour_limit
  pub long : length s ≡ block_bytes * suc n
  pub head : Head s n
  pub says : (k : ℕ) → k < n → Says s k

-- where nothing is paired nothing leads on
no_way : (n : ℕ) {i j : ℕ} → Reaches (linked n []) i j → ⊥
unfolding paired some_of
no_way n (step {i} {j} e) = true≢false (sym (pair_linked n [] i j e))
no_way n (onward {i} {m} e r) = true≢false (sym (pair_linked n [] i m e))

-- where home and all vertices are
abbrev corner : Point
corner = point zero64 zero64

corner_on : T (grid_point corner)
unfolding verdict_computes grid_point
corner_on = tt

module _ (s : List ℕ) (n : ℕ) (known : Known s n) where
  open known use {long, head, says}

  blocks : blocks_of s ≡ suc n
  blocks = omega arith

  -- a fault that neither the head nor a contour's block has, no block has
  no_block : (test : ℕ → Bool) → test 0 ≡ false → ((k : ℕ) → k < n → test (suc k) ≡ false) → Nowhere test (suc n)
  no_block test first later zero h = first
  no_block test first later (suc k) h = later k (omega arith)

  -- ---- the stages, one by one

  length_fine : length_fault s ≡ None
  unfolding length_fault_within
  length_fine =
      let whole : block_bytes * suc n % block_bytes ≡ 0 = omega arith in
      let short = le-ltb card_bytes (block_bytes * suc n) (omega arith) in
      rw (long, ne_eqb (block_bytes * suc n) 0 (λ e. omega arith), whole, short)

  checks_fine : check_fault s ≡ None
  unfolding check_fault
  checks_fine = rw blocks (absent_is _ _ (no_block (bad_check s) head.check (λ k h. rw (says k h).check_is)))

  starts_due : Nowhere (bad_start s) (suc n)
  starts_due =
      no_block (bad_start s) head.start
      (λ k h. rw (head.version, head.contours, eqb-suc-zero k, le-leb (suc k) n h, (says k h).start_is))

  start_fine : start_fault s 1 ≡ None
  unfolding start_fault
  start_fine = absent_is (bad_start s) 1 (λ b h. starts_due b (omega arith))

  starts_fine : start_fault s (blocks_of s) ≡ None
  unfolding start_fault
  starts_fine = rw blocks (absent_is (bad_start s) (suc n) starts_due)

  count_fine : count_fault s ≡ None
  unfolding count_fault
  count_fine = rw (blocks, head.contours, head.pairs, eq-eqb (suc n) (1 + n + 0) (omega arith))

  contours_fine : contour_fault s ≡ None
  unfolding contour_fault
  contours_fine =
      rw head.contours
      (absent_is (bad_contour s) n (λ k h. rw ((says k h).count_is, (says k h).type_is, (says k h).filler_is)))

  spare_zero : (k : ℕ) → k < n → bad_spare s (suc k) ≡ false
  spare_zero k h =
      let e : suc k - 1 ≡ k = omega arith in
      rw (head.contours, head.version, eqb-suc-zero k, le-leb (suc k) n h, e)
      (rw ((says k h).count_is, (says k h).spare_is))

  spare_fine : spare_fault s ≡ None
  unfolding spare_fault
  spare_fine = rw blocks (absent_is _ _ (no_block (bad_spare s) head.spare spare_zero))

  far_fine : far_fault s ≡ None
  unfolding far_fault far_vertex lowest
  far_fine =
      rw (head.contours, add-one)
      (absent_is _ _ (no_block (far_place s) (rw (head.x_is, head.y_is))
      (λ k h. rw ((says k h).count_is, (says k h).x_is, (says k h).y_is))))

  none-repeats : (k : ℕ) → k < n → repeats s k ≡ false
  unfolding seek_of
  none-repeats k h =
      rw (absent_is (λ i. eqb (id_of s i) (id_of s k)) k
      (λ i g. ne_eqb (id_of s i) (id_of s k) (λ e. omega (arith, (says k h).id_is, (says i (omega arith)).id_is))))

  ids_fine : repeat_fault s ≡ None
  unfolding repeat_fault
  ids_fine = rw head.contours (absent_is (repeats s) n none-repeats)

  names_fine : name_fault s ≡ None
  unfolding name_fault lowest
  names_fine = rw head.pairs

  tags_fine : tag_fault s ≡ None
  unfolding tag_fault lowest
  tags_fine = rw head.pairs

  no_pairs : pairs_on s ≡ []
  unfolding seats_of
  no_pairs = (unruled s).as_written (λ k h. no_parts s head.version k) ∙ ap (seats_of s) head.pairs

  cycle_fine : cycle_fault s ≡ None
  unfolding cycle_fault_within
  cycle_fine =
      let seen = min (contours_of s) contour_limit in rw no_pairs ((absent_exactly seen []).1 (λ i h. no_way seen))

  -- the card is accepted
  pub fine : check_of s ≡ Ok tt
  unfolding check_within
  fine =
      rw (length_fine, checks_fine, start_fine, head.fields, count_fine, starts_fine, contours_fine, spare_fine)
      (rw (far_fine, ids_fine, names_fine, tags_fine, cycle_fine))

  -- ---- the candidates: one a contour, at the corner

  offered : (k : ℕ) → k < n → map pierced (offers_of s k) ≡ corner ∷ []
  unfolding offers_of outline_of vertices_of candidates_of candidates_from point_at f64_at
  offered k h = rw ((says k h).count_is, head.per_contour_lem, (says k h).x_is, (says k h).y_is)

  all_offered : (k : ℕ) → k ≤ n → map pierced (gathered s k) ≡ replicate k corner
  unfolding gathered
  all_offered zero h = refl
  all_offered (suc k) h =
      rw (map-append pierced (gathered s k) (offers_of s k), all_offered k (omega arith), offered k (omega arith))
      (replicate-append-replicate k 1 corner ∙ ap (λ (m : ℕ). replicate m corner) (add-one k))

  counted : count_on s ≡ n
  counted =
      rw head.contours
      (sym (length-map (gathered s n) pierced) ∙ ap length (all_offered n (omega arith)) ∙ length-replicate n corner)

  home_is : home_on s ≡ corner
  unfolding point_at f64_at
  home_is = rw (head.x_is, head.y_is)

  stop_is : (a : ℕ) → a < count_on s → stop_on s a ≡ corner
  stop_is a h =
      rw head.contours
      (sym (get_or-map pierced (gathered s n) a absent)
      ∙ ap (λ (l : List Point). get_or l a (pierced absent)) (all_offered n (omega arith))
      ∙ get_or-replicate n a corner (pierced absent) (omega (arith, counted)))

  -- home and all candidates lie on the grid
  pub on-grid : OnGrid s
  on-grid = record { home = rw home_is corner_on; candidate = λ a h. rw (stop_is a h) corner_on }

  -- in rooms that are large enough the answer is a tour, which need not be computed
  pub answered : (room : List ℕ) (table : List Float) → n ≤ length room → n * n ≤ length table
      → (tour_of s room table).answer ≡ Ok (outcome_on s)
  answered room table h g =
      ap (λ (l : Left). l.answer)
      (sym (tour_fine s room table (Ok tt) (sym fine) (toured s room table) refl
      (rooms_passed s room table n n (sym head.contours) (sym counted) (toured s room table) h g refl)))
