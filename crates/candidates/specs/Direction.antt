-- Which way round a contour is cut. Assumes nothing.
use Rattle.answer.specs.declared.ContourType.{ContourType}
use Rattle.answer.specs.declared.ContourType.TheVariants.{Exterior, Interior}
use Rattle.answer.specs.declared.CutDirection.{CutDirection}
use Rattle.answer.specs.declared.CutDirection.TheVariants as cut
use Rattle.answer.specs.declared.CutDirectionPreference.{CutDirectionPreference}
use Rattle.answer.specs.declared.CutDirectionPreference.TheVariants as asked

-- the preference for outlines, or the one for holes
abbrev pub preferred : ContourType → CutDirectionPreference → CutDirectionPreference → CutDirectionPreference
preferred Exterior exterior interior = exterior
preferred Interior exterior interior = interior

-- as asked for; Auto cuts outlines counter-clockwise and holes clockwise
abbrev pub as_asked : ContourType → CutDirectionPreference → CutDirection
as_asked kind asked.Ccw = cut.Ccw
as_asked kind asked.Cw = cut.Cw
as_asked Exterior asked.Auto = cut.Ccw
as_asked Interior asked.Auto = cut.Cw

-- which way round a contour is cut: by the preference for its kind
abbrev pub direction_of : ContourType → CutDirectionPreference → CutDirectionPreference → CutDirection
direction_of kind exterior interior = as_asked kind (preferred kind exterior interior)
