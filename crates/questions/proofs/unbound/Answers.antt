-- `questions::unbound` meets its contract: each part that is lent is what the chart holds. Assumes nothing.
use Rattle.questions.proofs.NearestLaws.{stops_lent, nearest_is}
use Rattle.questions.proofs.unbound.Goals as goal

pub slice_bounds-solve_nn-end-2 : goal.slice_bounds-solve_nn-end-2
slice_bounds-solve_nn-end-2 c =
    stops_lent _ c.requires.on.held.few_contours

pub returns : goal.returns
returns c =
    let d = c.distances_of-distances.ensures in
    let nn = c.solve_nn-count in
    nearest_is c.args.p _ _ _ d.home_is d.table_is d.count_is c.requires.on.held.few_contours _ _ nn.ensures nn.auto.tour
