-- `instance::joined` meets its contract. Assumes nothing.
use Rattle.instance.proofs.GatherLaws.{items_copied, owner_filled, all_copied}
use Rattle.instance.proofs.joined.Goals as goal

pub returns : goal.returns
returns c =
    all_copied _ _ _ c.requires _ _ (items_copied _ _ _ c.requires _ c.copy_from_slice.ensures.after)
    (owner_filled _ _ _ c.requires _ (c.fill.ensures.after (λ y h. h)))
