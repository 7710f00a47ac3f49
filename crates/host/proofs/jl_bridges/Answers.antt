-- `host::jl_bridges` meets its contract: there are no more bridges than the room takes. Assumes nothing.
use mathlib.Core.Path.{sym, ◌∙◌}
use Rattle.bridge.proofs.AnswerLaws.{count_fits, items_fill}
use Rattle.host.proofs.jl_bridges.Goals as goal

pub write_bridges-requires : goal.write_bridges-requires
write_bridges-requires c =
    let e = sym c.bridges_at.ensures ∙ c.in-Ok.is in
    (count_fits _ _ _ _ e, items_fill _ _ _ _ e)
