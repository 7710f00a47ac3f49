-- Words and numbers as bytes. Assumes nothing.
use Rattle.std.specs.Prelude.{cond, List, [], ◌∷◌, ◌++◌, ℕ, zero, suc, ◌/◌, ◌%◌, ltb}
use Prim.Native.Char.{code}
use Prim.Native.String.{String}
use Prim.Native.String as string
use Rattle.io.specs.Digits.{hex_digit_ascii, last_digits}

-- the codes of a text's characters
abbrev pub bytes : String → List ℕ
bytes string.[] = []
bytes (string.◌∷◌ c more) = code c ∷ bytes more

-- the last digits of a number, at most so many: those above the last one, if there are any, then the last one
unfoldable pub decimal_in : ℕ → ℕ → List ℕ
decimal_in zero n = []
decimal_in (suc most) n =
    let more = decimal_in most (n / 10) in cond (ltb n 10) [] more ++ (hex_digit_ascii (n % 10) ∷ [])

-- a number in decimal; none of 64 bits has more than 20 digits
unfoldable pub decimal_of : ℕ → List ℕ
unfolding decimal_in
decimal_of n = decimal_in 20 n

-- a number of 64 bits in hexadecimal, all 16 digits
unfoldable pub hex_of : ℕ → List ℕ
hex_of n = last_digits 16 16 n
