-- Driver ports agree, since two runs of one program stay alike.
use Rattle.machine.proofs.Twins.{agree}
use Rattle.machine.proofs.laws.driver_ports_agree.Goals as goal

pub returns : goal.returns
returns c = agree
