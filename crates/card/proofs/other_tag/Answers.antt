-- `card::other_tag` meets its contract. Assumes nothing.
use mathlib.Core.Path.{refl, sym, ◌∙◌}
use native.Mathlib.Omega.{arith}
use borrow.Author.Tests.{ne_eqb, eq-eqb}
use Rattle.card.proofs.NameLaws.{tags_compared, seats_handed}
use Rattle.card.proofs.other_tag.Goals as goal

pub overflow_mul-before : goal.overflow_mul-before
overflow_mul-before c = let l = seats_handed c.args.card.now _ _ c.requires.seats_value in omega (arith, l, c)

pub bounds-seats-q : goal.bounds-seats-q
bounds-seats-q c = let l = seats_handed c.args.card.now _ _ c.requires.seats_value in omega (arith, l, c)

pub overflow_mul-after : goal.overflow_mul-after
overflow_mul-after c = let l = seats_handed c.args.card.now _ _ c.requires.seats_value in omega (arith, l, c)

pub overflow_add-after : goal.overflow_add-after
overflow_add-after c = let l = seats_handed c.args.card.now _ _ c.requires.seats_value in omega (arith, l, c)

pub bounds-seats-q-2 : goal.bounds-seats-q-2
bounds-seats-q-2 c = let l = seats_handed c.args.card.now _ _ c.requires.seats_value in omega (arith, l, c)

pub returns-then-tag-before_tag : goal.returns-then-tag-before_tag
returns-then-tag-before_tag c =
    let differ = ne_eqb c.tag.result c.before_tag.result c.if-tag-before_tag.true in
    sym (tags_compared c.args.card.now _ _ _ _ _ _ _ _ _ c.requires.seats_value c.requires.q_bound refl refl
    c.tag.ensures c.before_tag.ensures refl refl ∙ rw differ)

pub returns-else-tag-before_tag : goal.returns-else-tag-before_tag
returns-else-tag-before_tag c =
    let same = eq-eqb c.tag.result c.before_tag.result c.if-tag-before_tag.false in
    sym (tags_compared c.args.card.now _ _ _ _ _ _ _ _ _ c.requires.seats_value c.requires.q_bound refl refl
    c.tag.ensures c.before_tag.ensures c.tag-else-tag-before_tag.ensures c.after_tag.ensures ∙ rw same)
