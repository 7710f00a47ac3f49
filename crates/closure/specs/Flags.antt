-- One flag for each ordered pair of positions: a row a contour, and in each row a flag a contour. Assumes nothing.
use Rattle.std.specs.Prelude.{Bool, false, ◌&&◌, ◌||◌, ◌≡◌, List, [], ℕ, ◌<◌, length, get_or}
use Rattle.closure.specs.Pairs.{Pair, some_of, is_pair}
use Rattle.closure.specs.Limits.{contour_limit}

-- the flag of i and j: the one of j in i's row
abbrev pub flag : List (List Bool) → ℕ → ℕ → Bool
flag f i j = get_or (get_or f i []) j false

-- a table of flags is whole: it has a row for each contour, and each row a flag for each contour
pub record Whole (f : List (List Bool)) : Type 0 where
  pub rows : length f ≡ contour_limit
  pub row : (i : ℕ) → i < contour_limit → length (get_or f i []) ≡ contour_limit

-- row i of g is row i of f with row k of f added where i leads to k; the other rows are f's
pub record RowJoined (n k i : ℕ) (f g : List (List Bool)) : Type 0 where
  pub whole : Whole g
  pub row : (j : ℕ) → j < n → flag g i j ≡ (flag f i j || (flag f i k && flag f k j))
  pub rest : (r j : ℕ) → r < n → j < n → (r ≡ i → ⊥) → flag g r j ≡ flag f r j

-- every row is joined so
pub record RowsJoined (n k : ℕ) (f g : List (List Bool)) : Type 0 where
  pub whole : Whole g
  pub rows : (i j : ℕ) → i < n → j < n → flag g i j ≡ (flag f i j || (flag f i k && flag f k j))

-- a whole table whose flags below n say what the test says
pub record Says (n : ℕ) (test : ℕ → ℕ → Bool) (f : List (List Bool)) : Type 0 where
  pub whole : Whole f
  pub told : (i j : ℕ) → i < n → j < n → flag f i j ≡ test i j

-- the flags of the pairs whose two positions are below n are added, and no others
pub record Noted (n : ℕ) (ps : List Pair) (f g : List (List Bool)) : Type 0 where
  pub whole : Whole g
  pub told : (i j : ℕ) → i < n → j < n → flag g i j ≡ (flag f i j || some_of (is_pair i j) ps)
