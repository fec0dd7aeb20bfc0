use Rattle.std.proofs.Common.{◌<◌, length, arith}
use Rattle.host.proofs.Keeping.{kept_push}
use Rattle.host.proofs.stop.StopTable.admit.Goals as goal

pub returns-then-admits : goal.returns-then-admits
returns-then-admits c =
    let table = c.args.self.now in
    let lt : table.count < length table.stops = omega arith in
    let room : table.count < 4 = omega arith in
    kept_push c.args.sheet.now table.stops table.count c.args.name lt room c.if-admits.ensures
