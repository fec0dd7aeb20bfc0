-- One member more.
use Rattle.std.proofs.Common.{rules, arith}
use Rattle.parts.proofs.Bits.{has_with}
use Rattle.parts.proofs.Tables.{released}
use Rattle.parts.proofs.data.TaskTable.release.Goals as goal

pub returns : goal.returns
returns g c =
    let f = c.args.self.now in
    let t = c.args.t in
    released c.args.ports f t _ _ _ (omega arith) (λ k. has_with f.pending t k c.requires.low) (search rules)
