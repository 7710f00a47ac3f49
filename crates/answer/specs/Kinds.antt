-- What a byte of a card stands for: a contour's type, a direction asked for. Assumes nothing.
use Rattle.std.specs.Prelude.{cond, ℕ, eqb}
use Rattle.answer.specs.declared.ContourType.{ContourType}
use Rattle.answer.specs.declared.ContourType.TheVariants.{Exterior, Interior}
use Rattle.answer.specs.declared.CutDirectionPreference.{CutDirectionPreference}
use Rattle.answer.specs.declared.CutDirectionPreference.TheVariants.{Ccw, Cw, Auto}

-- 0 is an exterior, 1 an interior; no other byte passes the check
unfoldable pub as_type : ℕ → ContourType
as_type b = cond (eqb b 0) Exterior Interior

-- 0 is Ccw, 1 is Cw, 2 is Auto; no other byte passes the check
unfoldable pub as_preference : ℕ → CutDirectionPreference
as_preference b = cond (eqb b 0) Ccw (cond (eqb b 1) Cw Auto)
