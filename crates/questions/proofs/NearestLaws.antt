-- The start that no pair binds, as it is handed out. Assumes nothing.
use Rattle.std.specs.Prelude.{Err, Ok}
use mathlib.Core.Path.{◌≡◌, sym, ap, ◌∙◌}
use mathlib.Core.List.{List, [], ◌++◌}
use Prim.Native.Nat.{ℕ, ◌+◌, ◌≤◌}
use lib.ListN.{length, take, drop}
use Rattle.std.proofs.lemmas.List.{drop-replicate}
use lib.Seq.{length-take-le}
use lib.Ieee.{Float}
use Rattle.answer.specs.Answer.{Check}
use Rattle.answer.specs.declared.Refusal.{Refusal}
use Rattle.closure.specs.Limits.{contour_limit}
use Rattle.card.specs.Verdict.{check_of}
use Rattle.table.specs.Distances.{distances_of}
use Rattle.start.specs.Nearest.{nearest}
use Rattle.start.specs.Code.{ground_of, Written}
use Rattle.answer.specs.declared.Listed.{Listed}
use Rattle.answer.specs.Room.{placed, padded, listed}
use Rattle.answer.proofs.RoomLaws.{room_back}
use Rattle.instance.specs.declared.Prepared.{Prepared}
use Rattle.instance.specs.Prepared.{PreparedOn, chart_in}
use Rattle.instance.proofs.PreparedLaws.{chart_on_lem}
use Rattle.questions.specs.Nearest.{nearest_in, nearest_on, no_stops, nearest_of}

-- a part for n stops is lent
pub stops_lent : (n : ℕ) → n ≤ contour_limit → n ≡ length (take n no_stops)
stops_lent n h = sym (length-take-le n no_stops h)

-- the stops written to it, on the whole room
pub nearest_is : (p : Prepared) (home table : List Float) (many : ℕ) → let t = p.all.count in
    let n = p.all.contours in
    home ≡ take t p.homes → table ≡ distances_of (take t p.all.items) (take t p.all.owner) → many ≡ t
    → n ≤ contour_limit → (part : List ℕ) (count : ℕ)
    → Written (nearest (ground_of home table many (take (n + 1) p.all.first) [])
    (length (take n no_stops))) (take n no_stops) count part
    → length part ≡ length (take n no_stops)
    → record { items = part ++ drop n no_stops; count = count } ≡ listed contour_limit 0 (nearest_in (chart_in p) n)
unfolding chart_in
nearest_is p home table many h d m few part count w k =
    let n = p.all.contours in
    let start = nearest_in (chart_in p) n in
    let same : nearest (ground_of home table many (take (n + 1) p.all.first) [])
    (length (take n no_stops)) ≡ start =
    rw (h, d, m, ← stops_lent n few) in
    let held : part ≡ placed start (take n no_stops) = w.held ∙ ap (λ (l : List ℕ). placed l (take n no_stops)) same in
    let items : part ++ drop n no_stops ≡ padded contour_limit 0 start =
    room_back start no_stops part n held k
    ∙ ap (λ (rest : List ℕ). start ++ rest) (drop-replicate (length start) contour_limit 0) in
    let counted : count ≡ length start = w.counted ∙ ap length same in
    rw (items, counted)

module _ (s : List ℕ) (a : Check) (is : a ≡ check_of s) where
  pub stops-refused : (r : Refusal) → a ≡ Err r → Err r ≡ nearest_of s
  unfolding nearest_of
  stops-refused r e = rw (← is, e)

  pub stops_fine : (l : Listed ℕ contour_limit) (p : Prepared) → a ≡ Ok tt → PreparedOn s p
      → l ≡ listed contour_limit 0 (nearest_in (chart_in p) p.all.contours) → Ok l ≡ nearest_of s
  unfolding nearest_of nearest_on
  stops_fine l p e h f = ap Ok f ∙ rw (chart_on_lem s p h, h.held.contours, ← is, e)
