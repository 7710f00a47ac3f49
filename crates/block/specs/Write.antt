-- A block's bytes, from what it says: the other way round than reading. Assumes nothing.
use Rattle.std.specs.Prelude.{List, [], ◌∷◌, ◌++◌, ℕ, zero, suc, ◌-◌, ◌/◌, ◌%◌, length, replicate}
use Rattle.block.specs.Block.{payload_bytes, weigh}

-- a number in so many bytes, the lowest first
unfoldable pub bytes : ℕ → ℕ → List ℕ
bytes zero x = []
bytes (suc k) x = x % 256 ∷ bytes k (x / 256)

-- a block: its kind, the version, its number and four zeros, the payload filled up with zeros, the check
unfoldable pub block_of : ℕ → ℕ → ℕ → List ℕ → List ℕ
unfolding bytes weigh
block_of kind version number payload =
    let body = kind ∷ version ∷ bytes 2 number ++ bytes 4 0 ++ payload ++ replicate (payload_bytes - length payload) 0 in
    body ++ bytes 4 (weigh 1 body)
