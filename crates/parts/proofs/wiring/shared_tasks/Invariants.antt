use Rattle.std.proofs.Common.{◌≡◌, ℕ, ◌&&◌, ltb}
use Rattle.ecode.specs.Wiring.{has}
use Rattle.ecode.specs.Sheets.{shares}
use Rattle.parts.proofs.wiring.shared_tasks.Given as goal

abbrev pub invariant-loop-t : goal.invariant-loop-t
invariant-loop-t l = (t : ℕ) → has l.set t ≡ (ltb t l.t && shares l.sheet l.d t)
