use Rattle.ecode.proofs.Wired.{sheet_rules}
use Rattle.ecode.proofs.laws.sheet_keeps_rules.Goals as goal

pub returns : goal.returns
returns c = sheet_rules c.args.sheet.now
