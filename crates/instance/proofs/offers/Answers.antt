-- `instance::offers` meets its contract. Assumes nothing.
use Rattle.instance.proofs.GatherLaws.{outline_few, offers_are}
use Rattle.instance.proofs.offers.Goals as goal

pub shared_ref_as_front-candidates_of : goal.shared_ref_as_front-candidates_of
shared_ref_as_front-candidates_of c = outline_few _ _ _ c.outline_of-o.ensures

pub returns : goal.returns
returns c = offers_are _ _ c.outline_of-o.result _ _ _ _ _ _
    c.outline_of-o.ensures
    c.contour_type.ensures c.exterior.ensures
    c.interior.ensures c.per_contour.ensures c.asks_grid.ensures
    c.candidates_of.ensures
