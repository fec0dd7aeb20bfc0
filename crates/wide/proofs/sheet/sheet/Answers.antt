use Rattle.std.proofs.Common.{refl}
use Rattle.ecode.proofs.Wired.{same_sheet, tables_keep}
use Rattle.ecode.specs.Sheets.{driver}
use Rattle.wide.proofs.Made.{padded_with}
use Rattle.wide.specs.Wide.{wide_sheet}
use Rattle.wide.proofs.sheet.sheet.Goals as goal

pub invariant_of-result : goal.invariant_of-result
invariant_of-result c = tables_keep wide_sheet c.padded.ensures (padded_with 32 (driver 0 0) c.padded-2.ensures c.copying_drivers.ensures) c.tasks_reading.ensures c.padded-3.ensures

pub returns : goal.returns
returns c = same_sheet _ wide_sheet refl c.padded.ensures refl (padded_with 32 (driver 0 0) c.padded-2.ensures c.copying_drivers.ensures) refl c.tasks_reading.ensures refl c.padded-3.ensures
