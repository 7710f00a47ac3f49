-- `card::enclosing_of` meets its contract. Assumes nothing.
use Rattle.std.proofs.Common.{rules}
use Rattle.answer.proofs.SearchLaws.{found_by}
use mathlib.Core.Path.{sym, ◌∙◌}
use Rattle.card.specs.Rules.{encloses}
use Rattle.card.proofs.RuleLaws.{no_hole, hole_before}
use Rattle.card.proofs.enclosing_of.Goals as goal

pub returns-then-not-is_hole : goal.returns-then-not-is_hole
returns-then-not-is_hole c = let a = c.args in
    no_hole a.card.now a.k (sym c.is_hole.ensures ∙ c.if-not-is_hole.true)

pub returns : goal.returns
returns c =
    let s = c.args.card.now in
    hole_before s c.args.k _ (sym c.is_hole.ensures ∙ c.if-not-is_hole.false)
    (rw (← c.contours.ensures) (found_by (encloses c.args.card.now c.args.k) _ _ _ _ c.find.ensures.ran
    (λ k q e. search rules) (λ k q e. search rules)))
