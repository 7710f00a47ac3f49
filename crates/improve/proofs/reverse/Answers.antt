-- `improve::reverse` meets its contract: the part between is the other way round. Assumes nothing.
use mathlib.Core.Path.{◌≡◌}
use Prim.Native.Nat.{◌+◌, ◌-◌}
use native.Mathlib.Omega.{arith}
use lib.ListN.{take, drop}
use Rattle.std.proofs.lemmas.List.{drop-take, drop-drop}
use Rattle.improve.specs.Search.{slice}
use Rattle.improve.proofs.reverse.Goals as goal

pub returns : goal.returns
unfolding slice
returns c =
    let tour = c.args.tour.now in
    let from = c.args.from in
    let to = c.args.to in
    let whole : from + (to - from) ≡ to = omega arith in
    let part : drop from (take to tour) ≡ take (to - from) (drop from tour) =
    rw whole at (drop-take from (to - from) tour) in
    let rest : drop (to - from) (drop from tour) ≡ drop to tour =
    rw whole at (drop-drop (to - from) from tour) in
    rw (c.reverse.ensures.after, part, rest)
