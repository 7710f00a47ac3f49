-- `candidates::spot_at` meets its contract. The loop's invariant: looking on from edge i finds what looking from the
-- start finds. Assumes nothing.
use Rattle.candidates.proofs.AlongLaws.{Sought}
use Rattle.candidates.proofs.spot_at.Given as goal

abbrev pub invariant-loop-i : goal.invariant-loop-i
invariant-loop-i l = Sought l.numbers l.d l.before l.i
