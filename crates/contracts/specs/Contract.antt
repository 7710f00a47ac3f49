-- What a contract comes to: it asks nothing of a caller, leaves one answer, and says a definition. The statements take
-- the contract itself, as the prover reads it in the source, and no copy: `ended`, its signature, from the contracts of
-- its crate; `Reads.Asked`, what a caller must show, and `Reads.Learnt`, what a caller learns, from the crate's proofs.
-- So a contract that says less or asks more has no proof here.
-- In the files beside this one each callable function has an entry: its name, or that with _lem, or behind its type's, as
-- contour_type_from; its contract; and its definition, a claim of the lifetimes (no definition reads them: _), the
-- arguments, the result, and what each lent value is left as (').
-- gate/contracts.sh sees to it that none is missing. Assumes nothing.
use Rattle.std.specs.Prelude.{◌≡◌, ◌↔◌, List, [], ◌∷◌, ℕ}
use contract.Lifetimes.{Lfts}
use denote.Exit.{Exit, unchanged, leaves, Last}
use denote.RattleType.{RattleType, Denots}
use denote.Signature.{Slot, types_at}
use denote.Triple.End.{Kepts, Fins}
use denote.Triple.Entry.{Args, Res}
use denote.Triple.Clauses.{Ended, Lasts, AtExit, at_exit}

-- a function of arguments, taken one after another
abbrev pub Taking : (Ts : List RattleType) → (Denots Ts → Type 1) → Type 1
Taking [] R = R tt
Taking (T ∷ Ts) R = (x : T.Denot) → Taking Ts (λ a. R (x, a))

-- its value at all of them
abbrev pub applied : (Ts : List RattleType) (R : Denots Ts → Type 1) → Taking Ts R → (a : Denots Ts) → R a
applied [] R f a = f
applied (T ∷ Ts) R f a = applied Ts (λ b. R (a.0, b)) (f a.0) a.1

-- what takes the value that an argument is left with; one that stays as it was passed has none to take
abbrev pub Leaving : {D : Type 0} → Exit D → D → Type 1 → Type 1
Leaving unchanged x R = R
Leaving (leaves L l S s r₀) x R = L x → R

abbrev pub applied_to : {D : Type 0} (e : Exit D) (x : D) (R : Type 1) → Leaving e x R → Last e x → R
applied_to unchanged x R f w = f
applied_to (leaves L l S s r₀) x R f w = f w

-- a claim of all the values that arguments are left with, and what it comes to at some
module _ {n : ℕ} (κs : Lfts n) where
  abbrev pub LeavingAll : (ss : List (Slot n)) → Kepts ss → Denots (types_at ss κs) → Type 1
  LeavingAll [] ks a = Type 0
  LeavingAll (s ∷ ss) ks a = Leaving ((s.row κs).exit ks.0) a.0 (LeavingAll ss ks.1 a.1)

  abbrev pub left_all : (ss : List (Slot n)) (ks : Kepts ss) (a : Denots (types_at ss κs)) → LeavingAll ss ks a
      → Fins κs ss ks a → Type 0
  left_all [] ks a f ws = f
  left_all (s ∷ ss) ks a f ws = let rest = LeavingAll ss ks.1 a.1 in
      left_all ss ks.1 a.1 (applied_to ((s.row κs).exit ks.0) a.0 rest f ws.0) ws.1

module _ (T : Ended) where
  -- lifetimes for a call
  abbrev pub Lives : Type 0
  Lives = Lfts T.signature.lifetimes

  -- what a call is given, and what it gives back: the result, and every lent value at exit
  abbrev pub Handed : Lives → Type 0
  Handed κs = Args T.signature κs

  abbrev pub Back : (κs : Lives) → Handed κs → Type 0
  Back κs a = Res T.signature κs × Lasts T κs a

  -- what is asked of a caller, and what a caller learns
  abbrev pub Asks : Type 1
  Asks = (κs : Lives) → Handed κs → Type 0

  abbrev pub Tells : Type 1
  Tells = (κs : Lives) → Handed κs → Res T.signature κs → AtExit T κs → Type 0

  -- what came back is as a caller learns it
  abbrev pub Meets : Tells → (κs : Lives) (a : Handed κs) → Back κs a → Type 0
  Meets Learnt κs a x = Learnt κs a x.0 (at_exit T κs a x.1)

  -- a claim of the arguments, the result and the lent values at exit, in this order
  abbrev pub Claims : (κs : Lives) → Handed κs → Type 1
  Claims κs a = Res T.signature κs → LeavingAll κs T.signature.params T.kept a

  abbrev pub Definition : Type 1
  Definition = (κs : Lives) → Taking (types_at T.signature.params κs) (Claims κs)

  -- the claim, of what was given and what came back
  abbrev pub Holds : Definition → (κs : Lives) (a : Handed κs) → Back κs a → Type 0
  Holds D κs a x =
      left_all κs T.signature.params T.kept a
      (applied (types_at T.signature.params κs) (Claims κs) (D κs) a x.0) x.1

  pub record Says (Asked : Asks) (Learnt : Tells) (D : Definition) : Type 0 where
    -- every call is allowed
    pub asks_nothing : (κs : Lives) (a : Handed κs) → Asked κs a
    -- no two answers meet the contract
    pub one_answer : (κs : Lives) (a : Handed κs) (x y : Back κs a) → Meets Learnt κs a x → Meets Learnt κs a y → x ≡ y
    -- one does exactly where it is the definition's
    pub says : (κs : Lives) (a : Handed κs) (x : Back κs a) → Meets Learnt κs a x ↔ Holds D κs a x
