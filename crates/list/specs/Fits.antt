-- How long a list can be. Assumes nothing.
use Rattle.std.specs.Prelude.{◌≡◌, List, ℕ, ◌+◌, ◌*◌, ◌≤◌, ◌<◌, min, length, get_or, take}
use Rattle.closure.specs.Limits.{contour_limit}
use Rattle.text.specs.Page.{over}
use Rattle.list.specs.Lines.{list_of}

-- every number of a list is a byte's, as those of a slice of bytes are
abbrev pub OfBytes : List ℕ → Type 0
OfBytes s = (i : ℕ) → get_or s i 0 < 256

-- the most bytes that the first line has, a stop's line, and the two last lines
abbrev pub head_longest : ℕ
head_longest = 27

abbrev pub stop_longest : ℕ
stop_longest = 29

abbrev pub outcome_longest : ℕ
outcome_longest = 50

-- the page on which a list is written
abbrev pub longest : ℕ
longest = head_longest + stop_longest * contour_limit + outcome_longest

-- no list is longer than that page
abbrev pub Fits : Type 0
Fits = (s : List ℕ) → OfBytes s → length (list_of s) ≤ longest

-- so on a page of that length or more, what `write_list` counts is the whole list
abbrev pub Whole : Type 0
Whole = (s held : List ℕ) → OfBytes s → longest ≤ length held
    → take (min (length (list_of s)) (length held)) (over (list_of s) held) ≡ list_of s
