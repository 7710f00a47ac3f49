-- The numbers that the table of refusals has for what can be wrong. Assumes nothing.
use Rattle.std.specs.Prelude.{ℕ}
use Rattle.answer.specs.declared.Fault.{Fault}
use Rattle.answer.specs.declared.Fault.TheVariants as fault

-- the table's number
abbrev pub number_of : Fault → ℕ
number_of fault.Length = 1
number_of fault.Check = 2
number_of fault.Start = 3
number_of fault.Field = 4
number_of fault.Blocks = 5
number_of fault.Contour = 6
number_of fault.Spare = 7
number_of fault.Coordinate = 8
number_of fault.RepeatedId = 9
number_of fault.UnknownId = 10
number_of fault.OtherTag = 11
number_of fault.Cycle = 12
number_of fault.Room = 13
number_of fault.Amount = 14
number_of fault.Order = 15
number_of fault.Ended = 17
number_of fault.Way = 18
