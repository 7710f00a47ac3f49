-- A page with its slice, and the page that the definitions speak of. Assumes nothing.
use Rattle.std.specs.Prelude.{◌≡◌, List, ℕ}
use Rattle.text.specs.Page.{Page, paged, put}
use Rattle.text.specs.declared.Page.{Page as Lent}

-- what stands on it, and where it goes on
abbrev pub laid : Lent → Page
laid p = paged p.at p.bytes.now

-- the same page, so written
abbrev pub left : Lent → Page → Lent
left p q = record { bytes = record p.bytes { now = q.held }; at = q.at }

-- q is p with a text put on it
abbrev pub Puts : List ℕ → Lent → Lent → Type 0
Puts text p q = q ≡ left p (put text (laid p))
