use Rattle.std.proofs.Common.{◌+◌, ◌^◌, rules}
use Rattle.ecode.specs.Sheets.{driver}
use Rattle.wide.proofs.Made.{made_by}
use Rattle.wide.proofs.sheet.copying_drivers.Goals as goal

pub returns : goal.returns
returns g c =
    made_by _ _ (λ d. driver (2 ^ d) (2 ^ (16 + d))) g.row.N (λ k y q h call. search rules) c.from_fn.result c.from_fn.ensures.items
