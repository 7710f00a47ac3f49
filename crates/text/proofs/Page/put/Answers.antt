-- `text::Page::put` meets its contract. The loop's invariant: the bytes passed have been put. Assumes nothing.
use mathlib.Core.Path.{refl}
use lib.Seq.{take_all}
use Rattle.text.specs.Page.{put}
use Rattle.text.proofs.PageLaws.{byte_on, put_as}
use Rattle.text.proofs.Page.put.Goals as goal

pub loop-b-init : goal.loop-b-init
unfolding put
loop-b-init c = refl

pub loop-b-preserved : goal.loop-b-preserved
loop-b-preserved c = byte_on _ _ _ _ _ _ c.loop-b-test.true c.loop-b.invariant refl c.put_byte.ensures

pub returns : goal.returns
returns c = put_as _ _ _ _ c.loop-b.invariant (take_all _ _ c.loop-b-test.false)
