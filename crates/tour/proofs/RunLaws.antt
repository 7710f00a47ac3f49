-- The search on an accepted card that was prepared: each part that is lent is what the definition reads. Assumes
-- nothing.
use mathlib.Core.Path.{◌≡◌, sym, ap, subst, ◌∙◌}
use mathlib.Core.List.{List}
use Prim.Native.Nat.{ℕ, ◌+◌, ◌*◌}
use lib.ListN.{length, take}
use lib.Ieee.{Float}
use Rattle.fields.specs.Layout.{contours_of, passes_of, move_limit_of}
use Rattle.table.specs.Distances.{tabled, distances_of}
use Rattle.improve.specs.Code.{chart_of}
use Rattle.improve.specs.Search.{Chart}
use Rattle.instance.specs.declared.Prepared.{Prepared}
use Rattle.instance.specs.Search.{count_on, table_on, chart_on}
use Rattle.instance.specs.Prepared.{PreparedOn, chart_in}
use Rattle.instance.proofs.PreparedLaws.{table_fills, chart_on_lem}
use Rattle.solve.specs.declared.Outcome.{Outcome}
use Rattle.solve.specs.Solve.{end_in, Solved}
use Rattle.tour.specs.Search.{end_on, end_within}

module _ (s : List ℕ) (p : Prepared) (h : PreparedOn s p) (room table : List Float)
    (size : length room ≡ count_on s * count_on s)
    (e : table ≡ tabled p.all.items p.all.count (take p.all.count p.all.owner) room) where
  -- the distances fill their room
  filled : table ≡ distances_of (take p.all.count p.all.items) (take p.all.count p.all.owner)
  filled =
      let all = h.held in
      table_fills p.all.items p.all.count all.few all.items.whole _ room table e
      (ap (λ (t : ℕ). t * t) all.count ∙ sym size)

  pub table_on_lem : table ≡ table_on s
  table_on_lem = filled ∙ rw (h.held.items.front, h.held.owner.front)

  abbrev lent : Chart
  lent =
      let t = p.all.count in
      chart_of (take t p.homes) table t (take t p.all.owner) (take (p.all.contours + 1) p.all.first)
      (take p.seats p.pairs)

  lent_is : lent ≡ chart_on s
  unfolding chart_in
  lent_is = rw filled (chart_on_lem s p h)

  pub solved_on : (n most limit : ℕ) (tour after : List ℕ) (r : Outcome) → n ≡ contours_of s → most ≡ passes_of s
      → limit ≡ move_limit_of s
      → Solved lent (end_in lent n most limit) tour r after → Solved (chart_on s) (end_on s) tour r after
  unfolding end_within
  solved_on n most limit tour after r en em el w =
      subst (λ (chart : Chart). Solved chart (end_in chart (contours_of s) (passes_of s) (move_limit_of s)) tour r after)
      lent_is (rw (en, em, el) at w)
