-- What a cutting sequence costs: its rapid moves, and a weight for each pierce. Assumes nothing.
use Rattle.std.specs.Prelude.{ℕ, Bool, true, ◌&&◌, [], ◌∷◌, pos, nat_lt, Float}
use Rattle.std.specs.Float.{nan, inf, fin, binary64}
use Rattle.std.specs.Float.Ieee.{add, mul, of_int}
use Rattle.answer.specs.Answer.{Answer, Check, unless}
use Rattle.answer.specs.Stage.{first_refusal}
use Rattle.answer.specs.Lowest.{refuse_if}

-- the most pierces that are counted
abbrev pub most_pierces : ℕ
most_pierces = 1000

-- not finite, or below zero; -0 is not
unfoldable pub no_amount : Float → Bool
no_amount nan = true
no_amount (inf s) = true
no_amount (fin s m e) = s && nat_lt 0 m

-- refused with 14, first cause first: the total at 1, the weight at 2, the count at 3
unfoldable pub amounts : Float → ℕ → Float → Check
amounts total count weight =
    first_refusal (refuse_if (no_amount total) 14 1 ∷ refuse_if (no_amount weight) 14 2
    ∷ refuse_if (nat_lt most_pierces count) 14 3 ∷ [])

-- the product rounded, then the sum
unfoldable pub sequence_cost_of : Float → ℕ → Float → Answer Float
sequence_cost_of total count weight =
    unless (amounts total count weight) (add binary64 total (mul binary64 weight (of_int binary64 (pos count))))
