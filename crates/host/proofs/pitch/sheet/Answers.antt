use Rattle.std.proofs.Common.{refl}
use Rattle.ecode.proofs.Wired.{same_sheet, tables_keep}
use Rattle.host.specs.Pitch.{pitch_sheet}
use Rattle.host.proofs.pitch.sheet.Goals as goal

pub invariant_of-result : goal.invariant_of-result
invariant_of-result c = tables_keep pitch_sheet c.padded.ensures c.padded-2.ensures c.padded-3.ensures c.padded-4.ensures

pub returns : goal.returns
returns c = same_sheet _ pitch_sheet refl c.padded.ensures refl c.padded-2.ensures refl c.padded-3.ensures refl c.padded-4.ensures
