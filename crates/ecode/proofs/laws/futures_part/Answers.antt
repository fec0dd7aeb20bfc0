use Rattle.ecode.proofs.Partings.{parting}
use Rattle.ecode.proofs.laws.futures_part.Goals as goal

pub returns : goal.returns
returns c = parting
