-- Rows have eight cells, as they are read.
use Rattle.machine.proofs.Rows.{rows}
use Rattle.machine.proofs.laws.rows_are_eight.Goals as goal

pub returns : goal.returns
returns c = rows
