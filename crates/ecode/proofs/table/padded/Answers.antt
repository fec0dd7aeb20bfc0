use Rattle.std.proofs.Common.{◌++◌, length, ap₂}
use Rattle.std.proofs.lemmas.List.{drop-replicate}
use Rattle.ecode.proofs.table.padded.Goals as goal

pub returns : goal.returns
returns g c = ap₂ (λ front rest. front ++ rest) c.copy_from_slice.ensures.after (drop-replicate (length c.args.items.now) g.row.N c.args.filler)
