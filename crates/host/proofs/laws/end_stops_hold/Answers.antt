use Rattle.host.proofs.Holding.{end_stops_hold}
use Rattle.host.proofs.laws.end_stops_hold.Goals as goal

pub returns : goal.returns
returns c = end_stops_hold
