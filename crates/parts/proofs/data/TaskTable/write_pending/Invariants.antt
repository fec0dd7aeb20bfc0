use Rattle.std.proofs.Common.{◌≡◌, ℕ, ◌<◌, ◌≤◌, length, get_or}
use Rattle.policy.specs.Choice.{nobody}
use Rattle.parts.proofs.data.TaskTable.write_pending.Given as goal

abbrev pub invariant-loop-i : goal.invariant-loop-i
invariant-loop-i l = (length l.bytes ≡ 8) × ((k : ℕ) → k < l.i → get_or l.bytes k 0 ≡ (get_or l.pending-items k nobody).task)
    × ((k : ℕ) → l.i ≤ k → k < 8 → get_or l.bytes k 0 ≡ 255)
