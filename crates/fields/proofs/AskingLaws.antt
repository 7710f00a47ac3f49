-- When a card asks for the grid: by the version and by the byte. Assumes nothing.
use mathlib.Core.Path.{◌≡◌, refl}
use mathlib.Core.Bool.{Bool, true, false, cond}
use mathlib.Core.Logic.{◌↔◌}
use mathlib.Core.List.{List}
use Prim.Native.Nat.{ℕ, ◌+◌}
use native.Mathlib.Omega.{arith}
use borrow.Author.Tests.{eqb-true, ne_eqb}
use lib.Dec.{eqb}
use Rattle.block.specs.Field.{byte_at}
use Rattle.fields.specs.Layout.{payload, version_of, grid_offset, grid_of, asks_grid}

by_both : (v b : ℕ) (two : Bool) → eqb v 2 ≡ two → eqb (cond two b 0) 1 ≡ true → (v ≡ 2) × (b ≡ 1)
by_both v b true e h = (eqb-true v 2 e, eqb-true b 1 h)
by_both v b false e h = absurd (let none = eqb-true 0 1 h in omega arith)

-- it does by a 1 in version 2, and not otherwise
pub asks_by : (s : List ℕ) → (asks_grid s ≡ true) ↔ ((version_of s ≡ 2) × (byte_at s (payload 0 + grid_offset) ≡ 1))
asks_by s = (by_both (version_of s) (byte_at s (payload 0 + grid_offset)) _ refl, λ h. rw (h.0, h.1))

-- a byte of 0 is read as 0 in either version, and so is any byte of another version than 2
pub grid_of_zero : (s : List ℕ) → byte_at s (payload 0 + grid_offset) ≡ 0 → grid_of s ≡ 0
grid_of_zero s none = either (eqb (version_of s) 2)
  where
    either : (two : Bool) → cond two (byte_at s (payload 0 + grid_offset)) 0 ≡ 0
    either true = none
    either false = refl

pub grid_of_another : (s : List ℕ) → (version_of s ≡ 2 → ⊥) → grid_of s ≡ 0
grid_of_another s other = rw (ne_eqb (version_of s) 2 other)
