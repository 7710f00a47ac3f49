-- The length of a route: as it is computed, and the interval in which the exact one lies. Assumes nothing.
use Rattle.std.specs.Prelude.{List, [], ◌∷◌, ℕ, ◌+◌, ◌*◌, ◌^◌, pos, length, false, Float}
use Rattle.std.specs.Float.{fin, binary64}
use Rattle.std.specs.Float.Ieee.{add}
use Rattle.answer.specs.declared.Point.{Point}
use Rattle.root.specs.Whole.{whole_root}

-- ---- legs

-- something of each leg of a route that starts at home and goes on from stop to stop
unfoldable pub along_route : {A : Type 0} → (Point → Point → A) → Point → List Point → List A
along_route leg home [] = []
along_route leg home (stop ∷ more) = leg home stop ∷ along_route leg stop more

-- ---- as computed

-- the sum so far, and the legs to come, from left to right
unfoldable pub summed : Float → List Float → Float
summed sofar [] = sofar
summed sofar (leg ∷ more) = summed (add binary64 sofar leg) more

-- the sum starts with the first leg; of no legs it is +0
unfoldable pub total : List Float → Float
unfolding summed
total [] = fin false 0 (pos 0)
total (leg ∷ more) = summed leg more

-- ---- exactly

-- R: the exact length of a leg of squared length S, in steps of 2^-40 mm, lies from this number to the next
unfoldable pub leg_root : ℕ → ℕ
unfolding whole_root
leg_root S = whole_root (S * 2 ^ 60)

-- so the exact length of a route lies from the sum of the R
unfoldable pub lower_end : List ℕ → ℕ
unfolding leg_root
lower_end [] = 0
lower_end (S ∷ more) = leg_root S + lower_end more

-- to that sum plus the number of legs
unfoldable pub upper_end : List ℕ → ℕ
unfolding lower_end
upper_end legs = lower_end legs + length legs

-- one step of 2^-40 mm, in steps of 2^-1074 mm
abbrev pub step40 : ℕ
step40 = 2 ^ 1034
