-- `start::reach` meets its contract. Assumes nothing.
use Rattle.start.proofs.StepLaws.{reach-home, reach-on}
use Rattle.start.proofs.reach.Goals as goal

pub returns-in-Some : goal.returns-in-Some
returns-in-Some c g w tells = reach-on _ _ g w tells _ _ _ c.in-Some.is c.distance_at.ensures

pub returns-in-None : goal.returns-in-None
returns-in-None c g w tells = reach-home _ _ g w tells _ _ c.in-None.is c.home_at.ensures
