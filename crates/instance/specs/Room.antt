-- The candidates as the code holds them: lists in rooms of fixed size, what is not used blank. Assumes nothing.
use Rattle.std.specs.Prelude.{◌≡◌, List, [], ◌∷◌, ℕ, ◌+◌, ◌*◌, ◌<◌, ◌≤◌, length, replicate, set, Float}
use Rattle.std.proofs.Math.Seq.{paste}
use Rattle.answer.specs.declared.Point.{Point}
use Rattle.answer.specs.declared.Listed.{Listed}
use Rattle.answer.specs.Room.{padded, listed}
use Rattle.points.specs.Numbers.{zero64}
use Rattle.candidates.specs.Generate.{blank, Candidates}
use Rattle.closure.specs.Limits.{contour_limit}
use Rattle.fields.specs.Limits.{candidate_limit, vertex_limit, per_contour_limit}
use Rattle.instance.specs.declared.Instance.{Instance}
use Rattle.instance.specs.Gather.{gathered, owners, firsts, held_of}

-- points as numbers, two each
unfoldable pub flat : List Point → List Float
flat [] = []
flat (p ∷ more) = p.x ∷ p.y ∷ flat more

-- a contour's numbers in their room
abbrev pub Outline : Type 0
Outline = Listed Float (2 * vertex_limit)

unfoldable pub outlined : List Point → Outline
outlined ps = listed (2 * vertex_limit) zero64 (flat ps)

-- the first k contours' candidates in their rooms
unfoldable pub held_at : List ℕ → ℕ → Instance
unfolding gathered owners firsts
held_at s k = record {
  items = padded candidate_limit blank (gathered s k);
  owner = padded candidate_limit 0 (owners s k);
  first = padded (contour_limit + 1) 0 (firsts s k);
  contours = k;
  count = length (gathered s k);
}

-- all that is held of a card
unfoldable pub instance_of : List ℕ → Instance
unfolding held_at
instance_of s = held_at s (held_of s)

-- one contour more, number k, with these candidates
unfoldable pub joined : Instance → Candidates → ℕ → Instance
joined held found k = record {
  items = paste held.items held.count found.items found.count;
  owner = paste held.owner held.count (replicate found.count k) found.count;
  first = set held.first (k + 1) (held.count + found.count);
  contours = k + 1;
  count = held.count + found.count;
}

-- there is room for these candidates of contour k
pub record Roomy (held : Instance) (found : Candidates) (k : ℕ) : Type 0 where
  pub below : k < contour_limit
  pub few : found.count ≤ per_contour_limit
  pub whole : length found.items ≡ per_contour_limit
  pub room : held.count + found.count ≤ candidate_limit
  pub items_whole : length held.items ≡ candidate_limit
  pub owner_whole : length held.owner ≡ candidate_limit
