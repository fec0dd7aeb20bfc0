-- Nothing grows, by an invariant that every call keeps.
use Rattle.machine.proofs.Growth.{grows}
use Rattle.machine.proofs.laws.nothing_grows.Goals as goal

pub returns : goal.returns
returns c = grows
