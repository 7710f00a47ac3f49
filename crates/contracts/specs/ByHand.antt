-- What a contract comes to by its clauses as they are written, in every model of the logic, with no reading of them:
-- said of the functions that take or make a reader, which once were proved by hand, without a reading. Assumes nothing.
use Rattle.std.specs.Prelude.{◌≡◌}
use seplogic.Ra.Ura.{Ura}
use base.Logic.{SProp, ent, sep, emp}
use prog.Memory.{Memory}
use prog.Routine.{Routine}
use types.Logic.{Logic}
use contract.Monad.{Fun, fact}
use denote.Triple.Clauses.{Ended, Clauses, ClausesAt, at_exit}
use borrow.Fn.World.{World}
use Rattle.contracts.specs.Contract.{Lives, Handed, Back, Definition, Holds}

module _ (T : Ended) where
  -- the clauses, in any model
  abbrev pub AsWritten : Type 2
  AsWritten = (M : Type 1) (𝓤 : Ura M) (𝓛 : Logic 𝓤) → (Memory → SProp 𝓤) → (Routine → Fun 𝓤) → Clauses 𝓤 T

  module _ (c : AsWritten) (w : World) (κs : Lives T) (a : Handed T κs) where
    abbrev pub clauses : ClausesAt w.𝓤 T κs
    clauses = c w.M w.𝓤 w.𝓛 w.𝓜.mem w.𝓡.returns κs a

    -- what came back is as the contract says
    abbrev pub Ensured : clauses.ghost → Back T κs a → SProp w.𝓤
    Ensured g x = clauses.ensures g x.0 (at_exit T κs a x.1)

  pub record SaysByHand (c : AsWritten) (D : Definition T) : Type 2 where
    pub asks_nothing : (w : World) (κs : Lives T) (a : Handed T κs) (g : (clauses c w κs a).ghost)
        → ent w.𝓤 (emp w.𝓤) ((clauses c w κs a).requires g)
    pub one_answer : (w : World) (κs : Lives T) (a : Handed T κs) (g : (clauses c w κs a).ghost) (x y : Back T κs a)
        → ent w.𝓤 (sep w.𝓤 (Ensured c w κs a g x) (Ensured c w κs a g y)) (fact w.𝓤 (x ≡ y))
    pub says : (w : World) (κs : Lives T) (a : Handed T κs) (g : (clauses c w κs a).ghost) (x : Back T κs a)
        → ent w.𝓤 (Ensured c w κs a g x) (fact w.𝓤 (Holds T D κs a x))
    pub says_all : (w : World) (κs : Lives T) (a : Handed T κs) (g : (clauses c w κs a).ghost) (x : Back T κs a)
        → ent w.𝓤 (fact w.𝓤 (Holds T D κs a x)) (Ensured c w κs a g x)
