-- The claims hold: a walk in file order gives what `card` reads. Assumes nothing.
use mathlib.Core.Path.{◌≡◌, refl, sym, ap, ◌∙◌}
use mathlib.Core.List.{List, [], ◌++◌}
use Prim.Native.Nat.{ℕ, ◌+◌, ◌*◌, min}
use native.Mathlib.Nat.{add-zero}
use native.Mathlib.Omega.{arith}
use lib.ListN.{length}
use Rattle.block.specs.Field.{f64_at}
use Rattle.fields.specs.Layout.{payload, head_size, grid_offset, vertex_offset, part_offset, copy_offset, pair_offset}
use Rattle.fields.specs.Values.{point_at}
use Rattle.reader.specs.declared.Width.{Width}
use Rattle.reader.specs.declared.Width.TheVariants.{One, Two, Four, Eight}
use Rattle.reader.specs.Walk.{walk, eights}
use Rattle.reader.specs.OnCard.{head_of, head_widths, head_list, grid_widths, contour_widths, pair_read, pair_widths}
use Rattle.reader.specs.Claims.{HeadInOrder, GridInOrder, ContourInOrder, GroupInOrder, PairInOrder, PointOfBits}
use Rattle.reader.proofs.WalkLaws.{walk_cut, walk-on, walk_last}
use Rattle.reader.proofs.CardLaws.{vertices-walked}

-- the fields that both versions have, and what is walked behind them
head_then : (s : List ℕ) (ws : List Width)
    → walk s (payload 0) (head_widths ++ ws) ≡ head_list (head_of s) ++ walk s (payload 0 + head_size) ws
unfolding head_of
head_then s ws =
    let p = payload 0 in
    rw (
      walk-on s p 0 Four _,
      walk-on s p 4 Two _,
      walk-on s p 6 Two _,
      walk-on s p 8 Two _,
      walk-on s p 10 Two _,
      walk-on s p 12 Four _,
      walk-on s p 16 Eight _,
      walk-on s p 24 Eight _,
      walk-on s p 32 One _,
      walk-on s p 33 One _,
    )

pub head_in_order : HeadInOrder
unfolding walk
head_in_order s = head_then s []

pub grid_in_order : GridInOrder
grid_in_order s has = rw (has, head_then s grid_widths, walk_last s (payload 0 + grid_offset) One)

pub contour_in_order : ContourInOrder
contour_in_order s k v =
    let p = payload (k + 1) in
    let after : p + 12 ≡ vertex_offset k 0 = omega arith in
    ap (λ (x : ℕ). walk s x (contour_widths v)) (sym (add-zero p))
    ∙ rw (
      walk-on s p 0 Four _,
      walk-on s p 4 Four _,
      walk-on s p 8 Two _,
      walk-on s p 10 One _,
      walk-on s p 11 One _,
      ← walk_cut s (p + 12) (eights (2 * v)),
      vertices-walked s k 0 v (min (p + 12) (length s)) (omega arith),
    )

pub group_in_order : GroupInOrder
group_in_order s k has =
    let p = payload (k + 1) in
    rw (has, walk-on s p part_offset Four _, walk_last s (p + copy_offset) Four)

pub pair_in_order : PairInOrder
unfolding pair_read
pair_in_order s q =
    let p = pair_offset s q in
    ap (λ (x : ℕ). walk s x pair_widths) (sym (add-zero p))
    ∙ rw (walk-on s p 0 Four _, walk-on s p 4 Four _, walk-on s p 8 Four _, walk_last s (p + 12) Four)

pub point_of_bits : PointOfBits
unfolding point_at f64_at
point_of_bits s at = refl
