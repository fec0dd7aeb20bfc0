-- One member less.
use Rattle.std.proofs.Common.{◌<◌, rules}
use Rattle.parts.proofs.Bits.{has_without}
use Rattle.parts.proofs.Tables.{cleared}
use Rattle.parts.proofs.data.TaskTable.clear.Goals as goal

pub returns : goal.returns
returns c ports =
    let f = c.args.self.now in
    let byte : f.pending < 256 = search rules in
    cleared ports f c.args.t _ (λ k. has_without f.pending c.args.t k byte c.requires)
