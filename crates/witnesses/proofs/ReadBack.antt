-- Each card written and read back, computed. Assumes nothing.
use mathlib.Core.Path.{refl}
use mathlib.Core.Bool.{true, false}
use mathlib.Core.List.{[], ◌∷◌}
use Rattle.card_laws.specs.Card.{tabulated}
use Rattle.card_laws.specs.Examples.{as_job41, waits, job41, self_pair, waiting}
use Rattle.tour_laws.proofs.Computes.{tour_computes}
use Rattle.witnesses.specs.Examples.{limited}
use Rattle.witnesses.specs.Taken.{aligned, bound}
use Rattle.witnesses.specs.Slit.{slit}
use Rattle.witnesses.specs.Gridded.{thirds, ties}
use Rattle.witnesses.specs.ReadBack.{ReadBack, Claim}

of_empty : ReadBack (as_job41 [] [])
unfolding tour_computes tabulated
of_empty = refl

of_lone_pair : ReadBack (as_job41 [] (waits 1 2 ∷ []))
unfolding tour_computes tabulated
of_lone_pair = refl

of_job41 : ReadBack job41
unfolding tour_computes tabulated
of_job41 = refl

of_self_pair : ReadBack self_pair
unfolding tour_computes tabulated
of_self_pair = refl

of_waiting : ReadBack waiting
unfolding tour_computes tabulated
of_waiting = refl

of_limited : ReadBack limited
unfolding tour_computes tabulated
of_limited = refl

of_aligned : ReadBack (aligned 0)
unfolding tour_computes tabulated
of_aligned = refl

of_capped : ReadBack (aligned 5)
unfolding tour_computes tabulated
of_capped = refl

of_bound : ReadBack bound
unfolding tour_computes tabulated
of_bound = refl

of_slit : ReadBack slit
unfolding tour_computes tabulated
of_slit = refl

of_thirds : ReadBack (thirds true)
unfolding tour_computes tabulated
of_thirds = refl

of_not_asking : ReadBack (thirds false)
unfolding tour_computes tabulated
of_not_asking = refl

of_ties : ReadBack (ties 4 true)
unfolding tour_computes tabulated
of_ties = refl

of_ties-not_asking : ReadBack (ties 4 false)
unfolding tour_computes tabulated
of_ties-not_asking = refl

of_eighths : ReadBack (ties 8 true)
unfolding tour_computes tabulated
of_eighths = refl

pub claim : Claim
claim = record {
  of_empty = of_empty;
  of_lone_pair = of_lone_pair;
  of_job41 = of_job41;
  of_self_pair = of_self_pair;
  of_waiting = of_waiting;
  of_limited = of_limited;
  of_aligned = of_aligned;
  of_capped = of_capped;
  of_bound = of_bound;
  of_slit = of_slit;
  of_thirds = of_thirds;
  of_not_asking = of_not_asking;
  of_ties = of_ties;
  of_ties-not_asking = of_ties-not_asking;
  of_eighths = of_eighths;
}
