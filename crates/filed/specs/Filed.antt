-- Cards already filed keep their bytes and tours: what the limits from before request 2026-04 accept is accepted today,
-- and candidates, pairs, start, tour, moves, length and table are the same. Assumes nothing.
use Rattle.std.specs.Prelude.{◌≡◌, List, ℕ, Float, take, Ok}
use Rattle.card.specs.declared.Named.{Named}
use Rattle.card.specs.Limits.{Limits, before}
use Rattle.card.specs.Names.{named_within, named_of}
use Rattle.card.specs.Verdict.{check_within, check_of}
use Rattle.instance.specs.Gather.{gathered, held_within}
use Rattle.instance.specs.Search.{candidates_on}
use Rattle.tour.specs.Search.{start_within, start_on}
use Rattle.tour.specs.Tour.{tour_within, tour_of}

-- the same pairs, stopped at the same place; the rooms that they stand in may differ in size
pub record SamePairs (a b : Named) : Type 0 where
  pub stopped : a.stopped ≡ b.stopped
  pub count : a.count ≡ b.count
  pub positions : take a.count a.positions ≡ take b.count b.positions

-- a card is fine today, and all that a search reads of it and answers, whatever rooms are lent, is as within these
-- limits
pub record Kept (l : Limits) (s : List ℕ) : Type 0 where
  pub fine : check_of s ≡ Ok tt
  pub candidates : gathered s (held_within l.contours s) ≡ candidates_on s
  pub pairs : SamePairs (named_within l s) (named_of s)
  pub start : start_within l s ≡ start_on s
  pub tour : (room : List ℕ) (table : List Float) → tour_within l s room table ≡ tour_of s room table

abbrev pub Claim : Type 0
Claim = (s : List ℕ) → check_within before s ≡ Ok tt → Kept before s
