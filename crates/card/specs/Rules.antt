-- Pairs by rule: the holes of a part before its outline, without being told. Assumes nothing.
use Rattle.std.specs.Prelude.{Bool, not, cond, ◌&&◌, List, [], ◌∷◌, ◌++◌, ℕ, zero, suc, eqb, None, Some}
use Rattle.answer.specs.Answer.{Found}
use Rattle.answer.specs.Lowest.{lowest}
use Rattle.fields.specs.Layout.{contours_of, type_of, part_of, copy_of}

-- contour k is an interior of a part
abbrev pub is_hole : List ℕ → ℕ → Bool
is_hole s k = eqb (type_of s k) 1 && not (eqb (part_of s k) 0)

-- contour j is an exterior with contour k's part and copy
abbrev pub encloses : List ℕ → ℕ → ℕ → Bool
encloses s k j = eqb (type_of s j) 0 && (eqb (part_of s j) (part_of s k) && eqb (copy_of s j) (copy_of s k))

-- what contour k goes before by rule: a hole before the first such exterior in file order
unfoldable pub enclosing_of : List ℕ → ℕ → Found
unfolding lowest
enclosing_of s k = cond (is_hole s k) (lowest (encloses s k) (contours_of s)) None

-- a contour and what it goes before; nothing where there is none
abbrev pub rule_pair : ℕ → Found → List ℕ
rule_pair k (Some j) = k ∷ j ∷ []
rule_pair k None = []

-- the pairs by rule of the first so many contours, as positions, before and after in turn
unfoldable pub rules_of : List ℕ → ℕ → List ℕ
rules_of s zero = []
rules_of s (suc k) = rules_of s k ++ rule_pair k (enclosing_of s k)
