use Rattle.std.proofs.Common.{◌≡◌, ℕ, ◌<◌, ◌≤◌, get_or}
use Rattle.ecode.specs.declared.code.Cell.TheVariants.{NotHeld}
use Rattle.typing.proofs.row.changed.Given as goal

abbrev pub invariant-loop-t : goal.invariant-loop-t
invariant-loop-t g l =
    ((k : ℕ) → k < l.t → goal.F-post g l.change k (get_or l.initial.cells k NotHeld) (get_or l.cells k NotHeld))
    × ((k : ℕ) → l.t ≤ k → get_or l.cells k NotHeld ≡ get_or l.initial.cells k NotHeld)
