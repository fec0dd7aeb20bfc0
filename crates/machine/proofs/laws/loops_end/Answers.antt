-- Loops end, since threads go upward and no binding is due in the tick that makes it.
use Rattle.machine.proofs.Wholes.{loops}
use Rattle.machine.proofs.laws.loops_end.Goals as goal

pub returns : goal.returns
returns c = loops
