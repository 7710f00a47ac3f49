-- `text::Page::put` meets its contract. The loop's invariant: the bytes passed have been put. Assumes nothing.
use lib.ListN.{take}
use Rattle.text.specs.OnPage.{Puts}
use Rattle.text.proofs.Page.put.Given as goal

abbrev pub invariant-loop-b : goal.invariant-loop-b
invariant-loop-b l = Puts (take l.b-index l.text) l.initial.self l.self
