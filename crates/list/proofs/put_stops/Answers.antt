-- `list::put_stops` meets its contract. The loop's invariant: the lines of the stops passed have been put. Assumes
-- nothing.
use mathlib.Core.Path.{refl, ap, ◌∙◌}
use Rattle.questions.specs.Index.{place_in}
use Rattle.text.specs.Page.{put}
use Rattle.list.specs.Lines.{stop_lines}
use Rattle.list.proofs.LineLaws.{stop_more, all_stops}
use Rattle.list.proofs.put_stops.Goals as goal

pub loop-stop-init : goal.loop-stop-init
unfolding put stop_lines
loop-stop-init c = refl

pub loop-stop-preserved : goal.loop-stop-preserved
loop-stop-preserved c =
    stop_more _ c.requires.card_value _ c.requires.all_value _ _ _ _ _ _ c.loop-stop-test.true
    (c.locate.ensures ∙ ap (place_in c.args.all) c.from.ensures) c.loop-stop.invariant c.put_place.ensures

pub returns : goal.returns
returns c = all_stops _ _ _ _ _ c.loop-stop.invariant c.loop-stop-test.false
