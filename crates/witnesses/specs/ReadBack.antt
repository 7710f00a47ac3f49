-- The cards worked out here and in `card_laws` are what their bytes say: written and read back, each is itself. Assumes
-- nothing.
use Rattle.std.specs.Prelude.{◌≡◌, true, false, [], ◌∷◌}
use Rattle.card_laws.specs.Card.{Card, card_of}
use Rattle.card_laws.specs.Write.{written}
use Rattle.card_laws.specs.Examples.{as_job41, waits, job41, self_pair, waiting}
use Rattle.witnesses.specs.Examples.{limited}
use Rattle.witnesses.specs.Taken.{aligned, bound}
use Rattle.witnesses.specs.Slit.{slit}
use Rattle.witnesses.specs.Gridded.{thirds, ties}

abbrev pub ReadBack : Card → Type 0
ReadBack c = card_of (written c) ≡ c

pub record AllReadBack : Type 0 where
  pub of_empty : ReadBack (as_job41 [] [])
  pub of_lone_pair : ReadBack (as_job41 [] (waits 1 2 ∷ []))
  pub of_job41 : ReadBack job41
  pub of_self_pair : ReadBack self_pair
  pub of_waiting : ReadBack waiting
  pub of_limited : ReadBack limited
  pub of_aligned : ReadBack (aligned 0)
  pub of_capped : ReadBack (aligned 5)
  pub of_bound : ReadBack bound
  pub of_slit : ReadBack slit
  pub of_thirds : ReadBack (thirds true)
  pub of_not_asking : ReadBack (thirds false)
  pub of_ties : ReadBack (ties 4 true)
  pub of_ties-not_asking : ReadBack (ties 4 false)
  pub of_eighths : ReadBack (ties 8 true)

abbrev pub Claim : Type 0
Claim = AllReadBack
