-- Work is bounded, since every waiting binding holds a task and no task is held twice.
use Rattle.machine.proofs.Wholes.{work}
use Rattle.machine.proofs.laws.work_is_bounded.Goals as goal

pub returns : goal.returns
returns c = work
