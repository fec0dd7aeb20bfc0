-- The first place whose wait is 0 is that of the first binding that is due.
use Rattle.std.proofs.Common.{◌≡◌, ℕ, ◌<◌, length, get_or, refl, rules, arith}
use Rattle.parts.specs.Shown.{queued}
use Rattle.parts.proofs.Queues.{none, due_none, due_taken}
use Rattle.parts.proofs.data.Queue.take_due.Goals as goal

pub returns-in_err-first : goal.returns-in_err-first
returns-in_err-first c =
    let q = queued c.args.self.now in
    let waits : (k : ℕ) → k < length q → (get_or q k none).wait ≡ 0 → ⊥ = search rules in
    rw c.from_residual.ensures (due_none q waits, refl)

pub returns : goal.returns
returns c =
    let q = c.args.self.now in
    let i = c.in_ok-first.first in
    due_taken q.items c.copy_within.new.self i q.len (search rules) (omega arith) (search rules) (search rules) c.copy_within.ensures.after
