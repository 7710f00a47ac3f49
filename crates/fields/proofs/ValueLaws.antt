-- A point that was read at a place cut off at the card's end. Assumes nothing.
use mathlib.Core.Path.{◌≡◌}
use mathlib.Core.List.{List}
use Prim.Native.Nat.{ℕ, ◌+◌, min}
use lib.Ieee.{Float}
use lib.ListN.{length}
use Rattle.answer.specs.declared.Point.{Point}
use Rattle.block.specs.Field.{f64_at}
use Rattle.block.proofs.Readings.{f64_of, f64_on}
use Rattle.fields.specs.Values.{point_at}

pub point_is : (s : List ℕ) (a at : ℕ) (x y : Float) → at ≡ min a (length s) → x ≡ f64_at s at → y ≡ f64_at s (at + 8)
    → ◌≡◌ {A = Point} (record { x = x; y = y }) (point_at s a)
unfolding point_at
point_is s a at x y cut e f = rw (f64_of s a at cut x e, f64_on s a at cut 8 y f)
