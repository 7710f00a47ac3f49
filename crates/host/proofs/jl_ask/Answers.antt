-- `host::jl_ask` meets its contract: the table is the library's own. Assumes nothing.
use Rattle.host.proofs.FeedLaws.{asked_small, asked_refused, asked_done}
use Rattle.host.proofs.jl_ask.Goals as goal

pub number_of-requires : goal.number_of-requires
number_of-requires c =
    let s = c.state_of-asked.ensures in
    asked_small _ _ _ _ _ _ _ _ s.value c.ask-answer.ensures s.kept_bound

pub returns-in-Err : goal.returns-in-Err
returns-in-Err c =
    let s = c.state_of-asked.ensures in
    asked_refused _ _ _ _ _ _ _ _ s.value c.ask-answer.ensures _ _ _ _ _
    c.number_of.ensures c.in-Err.is c.told.ensures

pub returns-in-Ok : goal.returns-in-Ok
returns-in-Ok c =
    let s = c.state_of-asked.ensures in
    asked_done _ _ _ _ _ _ _ _ s.value c.ask-answer.ensures _ _ _ _ _
    c.number_of.ensures c.in-Ok.is c.bits_of.ensures
