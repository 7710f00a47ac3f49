-- `questions::distances_of` meets its contract: the distances stand at the front of the room. Assumes nothing.
use Rattle.questions.proofs.OrderLaws.{entries_front}
use Rattle.questions.proofs.distances_of.Goals as goal

pub returns-clause-table_is : goal.returns-clause-table_is
returns-clause-table_is c = (entries_front _ c.requires _ _ c.told-table c.fill_table.ensures).front
