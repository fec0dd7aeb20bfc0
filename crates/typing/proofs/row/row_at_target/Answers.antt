use Rattle.std.proofs.Common.{rules}
use Rattle.typing.proofs.row.row_at_target.Goals as goal

pub returns : goal.returns
returns c t h = let k = c.changed.ensures t h in search rules
