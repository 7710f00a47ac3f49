-- Places of coordinates: home, then each contour one place further on; a vertex read at a place cut off at the card's
-- end. Assumes nothing.
use Rattle.std.specs.Prelude.{is_some}
use mathlib.Core.Path.{◌≡◌, refl, sym, ap, ◌∙◌}
use mathlib.Core.Bool.{Bool}
use mathlib.Core.List.{List}
use Prim.Native.Nat.{ℕ, zero, suc, ◌+◌, ◌-◌, min}
use native.Mathlib.Nat.{add_assoc}
use native.Mathlib.Omega.{arith}
use lib.ListN.{length}
use Rattle.answer.specs.Answer.{Found}
use Rattle.block.specs.Field.{u64_at}
use Rattle.block.proofs.Readings.{cut_u64}
use Rattle.card.specs.Stages.{far_point, far_vertex, far_place}

pub at_contour : (s : List ℕ) (place : ℕ) (f : Found) → (place ≡ 0 → ⊥) → f ≡ far_vertex s (place - 1)
    → is_some f ≡ far_place s place
at_contour s zero f later e = absurd (later refl)
at_contour s (suc k) f later e =
    let n : suc k - 1 ≡ k = omega arith in
    ap is_some (e ∙ ap (far_vertex s) n)

-- the point that was looked at is the vertex
pub vertex_looked_at : (s : List ℕ) (a at i : ℕ) (r : Bool) → at ≡ min a (length s) → r ≡ far_point s (at + i)
    → far_point s (a + i) ≡ r
vertex_looked_at s a at i r cut e =
    let x : u64_at s (min a (length s) + i) ≡ u64_at s (a + i) = cut_u64 s a i in
    let y : u64_at s (min a (length s) + i + 8) ≡ u64_at s (a + i + 8) =
    rw (add_assoc (min a (length s)) i 8, add_assoc a i 8) (cut_u64 s a (i + 8)) in
    rw (← x, ← y, ← cut) (sym e)
