use Rattle.std.proofs.Common.{◌≡◌, ℕ, ◌<◌, ◌&&◌, ltb, get_or}
use Rattle.ecode.specs.Wiring.{has}
use Rattle.ecode.specs.Sheets.{shares}
use Rattle.parts.proofs.wiring.sharing_table.Given as goal

abbrev pub invariant-loop-d : goal.invariant-loop-d
invariant-loop-d l = (d t : ℕ) → d < l.d → has (get_or l.shared-items d 0) t ≡ (ltb t l.sheet.tasks && shares l.sheet d t)
