-- The move in words: no grid point is nearer than the one told, of two as near it is the one farther from zero, and a
-- zero is +0. Assumes nothing.
use Rattle.std.specs.Prelude.{◌≡◌, ℕ, ◌+◌, ◌-◌, ◌*◌, ◌≤◌, Bool, false, cond, T, ℤ, Float}
use Rattle.std.specs.Bool.{beq}
use Rattle.std.specs.Float.{nan, inf, fin, binary64}
use Rattle.std.specs.Float.Ieee.{up, down, fits}
use Rattle.std.specs.Float.Ieee.Exact.{HasValue}
use Rattle.grid.specs.Move.{per_mm, moved}

-- the difference of two sizes
abbrev pub gap : ℕ → ℕ → ℕ
gap a b = (a - b) + (b - a)

-- how far a number of size a / c is from the grid point of n units, a minus sign where true stands, in parts of
-- 1 / (1024 * c) mm: on the same side of zero the difference of their sizes, else the sum
abbrev pub away : Bool → ℕ → ℕ → Bool → ℕ → ℕ
away s a c t n = cond (beq s t) (gap (a * per_mm) (n * c)) (a * per_mm + n * c)

-- r is the grid point that the number ±a / c is moved to
pub record NearestOnGrid (s : Bool) (a c : ℕ) (r : Float) : Type 0 where
  pub sign : Bool
  pub units : ℕ
  pub on-grid : HasValue r sign units per_mm
  pub held : T (fits binary64 r)
  pub no_nearer : (t : Bool) (n : ℕ) → away s a c sign units ≤ away s a c t n
  pub farther_of_two : (t : Bool) (n : ℕ) → away s a c t n ≡ away s a c sign units → n ≤ units
  pub no_minus_zero : units ≡ 0 → sign ≡ false

-- every finite number of binary64 is moved so
abbrev pub Moves : (Float → Float) → Type 0
Moves move = (s : Bool) (m : ℕ) (e : ℤ) → T (fits binary64 (fin s m e))
    → NearestOnGrid s (m * up e) (down e) (move (fin s m e))

-- what is no number, and the infinities, are not
pub record Stays (move : Float → Float) : Type 0 where
  pub no_number : move nan ≡ nan
  pub infinite : (s : Bool) → move (inf s) ≡ inf s

-- a move to the grid
abbrev pub GridMove : (Float → Float) → Type 0
GridMove move = Moves move × Stays move

-- `moved` is one, and no other function moves a number of binary64 otherwise
abbrev pub Only : Type 0
Only = (move : Float → Float) → GridMove move → (x : Float) → T (fits binary64 x) → move x ≡ moved x

abbrev pub Claim : Type 0
Claim = GridMove moved × Only
