-- `list::put_stops` meets its contract. The loop's invariant: the lines of the stops passed have been put. Assumes
-- nothing.
use lib.ListN.{take}
use Rattle.text.specs.OnPage.{Puts}
use Rattle.list.specs.Lines.{stop_lines}
use Rattle.list.proofs.put_stops.Given as goal

abbrev pub invariant-loop-stop : goal.invariant-loop-stop
invariant-loop-stop l = Puts (stop_lines l.card (take l.stop-index l.tour)) l.initial.page l.page
