-- A block of 512 bytes: how it starts, its check, and bytes that are all zero. `at` is where the block begins. Assumes
-- nothing.
use Rattle.std.specs.Prelude.{◌≡◌, Bool, true, ◌&&◌, List, [], ◌∷◌, ℕ, suc, ◌+◌, ◌*◌, take, drop, eqb}
use Rattle.block.specs.Field.{byte_at, u16_at, u32_at}

-- how many bytes a block has, how many of them the check covers, and where it stands
abbrev pub block_bytes : ℕ
block_bytes = 512

abbrev pub check_offset : ℕ
check_offset = 508

-- bytes of a block's payload
abbrev pub payload_bytes : ℕ
payload_bytes = 500

-- the first byte times w, the next times w + 1, and so on
unfoldable pub weigh : ℕ → List ℕ → ℕ
weigh w [] = 0
weigh w (x ∷ rest) = w * x + weigh (suc w) rest

-- the check of the block: byte p counts p + 1 times
unfoldable pub check_at : List ℕ → ℕ → ℕ
unfolding weigh
check_at s at = weigh 1 (take check_offset (drop at s))

-- the check is the one written behind the bytes that it covers
unfoldable pub checked : List ℕ → ℕ → Bool
unfolding check_at u32_at
checked s at = eqb (check_at s at) (u32_at s (at + check_offset))

-- the block starts as is due: its kind, the version, its number, four zeros
unfoldable pub starts : List ℕ → ℕ → ℕ → ℕ → ℕ → Bool
unfolding u16_at u32_at
starts s at kind version number =
    eqb (byte_at s at) kind && (eqb (byte_at s (at + 1)) version &&
    (eqb (u16_at s (at + 2)) number && eqb (u32_at s (at + 4)) 0))

-- the same in words: the first eight bytes are as due
pub record Due (s : List ℕ) (at kind version number : ℕ) : Type 0 where
  pub kind_is : byte_at s at ≡ kind
  pub version_is : byte_at s (at + 1) ≡ version
  pub number_is : u16_at s (at + 2) ≡ number
  pub zeros_are : u32_at s (at + 4) ≡ 0

-- every byte is 0
unfoldable pub all_zero : List ℕ → Bool
all_zero [] = true
all_zero (x ∷ rest) = eqb x 0 && all_zero rest

-- the count bytes from an offset on are all 0
unfoldable pub zeros_at : List ℕ → ℕ → ℕ → Bool
unfolding all_zero
zeros_at s at count = all_zero (take count (drop at s))
