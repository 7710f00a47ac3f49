-- `reader::coordinates` meets its contract: what stands in the array and what is still walked are the whole walk.
-- Assumes nothing.
use mathlib.Core.Path.{◌≡◌, ap, ◌∙◌}
use Prim.Native.Nat.{ℕ, ◌-◌}
use native.Mathlib.Omega.{arith}
use lib.ListN.{length-set}
use Rattle.std.proofs.lemmas.List.{length-take-le}
use Rattle.reader.specs.declared.Width.TheVariants.{Eight}
use Rattle.reader.specs.declared.Field.{Field}
use Rattle.reader.specs.declared.Reader.{Reader}
use Rattle.reader.specs.Fields.{field_at}
use Rattle.reader.specs.Walk.{walk, eights}
use Rattle.reader.proofs.WalkLaws.{none_yet, one_more, all_read}
use Rattle.reader.proofs.coordinates.Goals as goal

pub loop-x-init : goal.loop-x-init
loop-x-init c =
    let a = c.args in (
      ap (λ (r : Reader). r.src.now) c.moved-r.ensures ∙ ap (λ (r : Reader). r.src.now) c.new.ensures,
      ap (λ (r : Reader). walk a.card.now r.at (eights (a.count - 0))) c.moved-r.ensures
          ∙ none_yet a.card.now a.at a.count,
      length-take-le _ _ c.requires,
    )

pub loop-x-preserved : goal.loop-x-preserved
loop-x-preserved c =
    let i = c.loop-x.invariant in
    let f : Field = record { value = c.next.result; after = c.next.new.self.at } in
    let e : f ≡ field_at c.args.card.now c.loop-x.r.at Eight = rw (c.next.ensures.0, c.next.ensures.1, i.0) in (
      ap (λ (r : Reader). r.src.now) c.next.ensures.1 ∙ i.0,
      one_more _ _ _ _ _ f _ (omega arith) i.2 e i.1,
      omega (arith, length-set {A = ℕ}),
    )

pub returns : goal.returns
returns c = let i = c.loop-x.invariant in
    all_read _ _ _ _ _ _ (omega arith) i.2 i.1
