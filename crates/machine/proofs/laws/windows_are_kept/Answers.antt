-- Windows are kept, since by the earliest deadline the work owed stays covered.
use Rattle.machine.proofs.Wholes.{windows}
use Rattle.machine.proofs.laws.windows_are_kept.Goals as goal

pub returns : goal.returns
returns c = windows
