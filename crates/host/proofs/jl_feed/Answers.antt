-- `host::jl_feed` meets its contract: the state's number is never too large. Assumes nothing.
use Rattle.host.proofs.FeedLaws.{fed_small}
use Rattle.host.proofs.jl_feed.Goals as goal

pub number_of-requires : goal.number_of-requires
number_of-requires c =
    let s = c.state_of-feed.ensures in
    fed_small _ _ _ _ _ _ _ s.value c.add-kept.ensures s.kept_bound
