-- `bridge::marks_of` meets its contract. The loop's invariant: the sum is mark k, and the marks up to it stand in their
-- room. Assumes nothing.
use Rattle.bridge.proofs.MarkLaws.{Marked}
use Rattle.bridge.proofs.marks_of.Given as goal

abbrev pub invariant-loop-k : goal.invariant-loop-k
invariant-loop-k l = Marked l.numbers l.sum l.marks l.k
