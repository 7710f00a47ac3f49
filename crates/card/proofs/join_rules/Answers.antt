-- `card::join_rules` meets its contract. Assumes nothing.
use mathlib.Core.Path.{sym, ap, ◌∙◌}
use native.Mathlib.Omega.{arith}
use lib.ListN.{length}
use Rattle.answer.specs.Room.{padded}
use Rattle.card.specs.declared.Named.{Named}
use Rattle.card.specs.Names.{seat_limit}
use Rattle.card.proofs.RuleLaws.{joined-none, joined_room, joined_same, joined_places, joined_count}
use Rattle.card.proofs.RuleLaws.{found_enclosing}
use Rattle.card.proofs.join_rules.Goals as goal

pub loop-k-init : goal.loop-k-init
loop-k-init c =
    let none = sym (joined-none c.args.card.now) in (
      ap (λ (n : Named). n.positions) c.requires.are ∙ ap (padded seat_limit 0) none,
      ap (λ (n : Named). n.count) c.requires.are ∙ ap length none,
    )

pub loop-k-preserved-in_default : goal.loop-k-preserved-in_default
loop-k-preserved-in_default c =
    let i = c.loop-k.invariant in
    let same = joined_same c.args.card.now _ _ c.enclosing_of.ensures c.in_default.is in
    (i.0 ∙ ap (padded seat_limit 0) same, i.1 ∙ ap length same)

-- there is room for one more pair
pub bounds-positions-count : goal.bounds-positions-count
bounds-positions-count c = omega (arith, joined_room)

pub overflow_cast-positions-in-loop-k : goal.overflow_cast-positions-in-loop-k
overflow_cast-positions-in-loop-k c =
    omega (
      arith,
      c.requires.few_contours,
      (found_enclosing c.args.card.now _ _ (sym c.enclosing_of.ensures ∙ c.in-Some.is)).1.within,
    )

pub overflow_add-positions : goal.overflow_add-positions
overflow_add-positions c = omega (arith, joined_room)

pub bounds-positions-count-in-loop-k : goal.bounds-positions-count-in-loop-k
bounds-positions-count-in-loop-k c = omega (arith, joined_room)

pub overflow_add-count : goal.overflow_add-count
overflow_add-count c = omega (arith, joined_room)

pub loop-k-preserved : goal.loop-k-preserved
loop-k-preserved c =
    let s = c.args.card.now in
    let i = c.loop-k.invariant in (
      joined_places s _ _ _ _ _ c.enclosing_of.ensures c.in-Some.is i.0 i.1 (omega (arith, joined_room)),
      joined_count s _ _ _ _ _ c.enclosing_of.ensures c.in-Some.is i.0 i.1,
    )
