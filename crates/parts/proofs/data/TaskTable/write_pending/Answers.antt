-- Byte by byte: the numbers first, and 255 in what is left.
use Rattle.std.proofs.Common.{◌≤◌, length, map, ap, ◌∙◌, arith}
use Rattle.policy.specs.declared.pending.PendingTask.{PendingTask}
use Rattle.parts.specs.Shown.{written}
use Rattle.parts.proofs.Tables.{written_is}
use Rattle.parts.proofs.data.TaskTable.write_pending.Goals as goal

pub returns : goal.returns
returns c ports =
    let items = c.deref-pending-items.result.now in
    let all : length items ≤ c.loop-i.i = c.loop-i-test.false in
    written_is items c.loop-i.bytes (omega arith) c.loop-i.invariant.0 (λ k l. c.loop-i.invariant.1 k (omega arith)) (λ k l h. c.loop-i.invariant.2 k (omega arith) h)
    ∙ ap (λ l. written (map (λ (e : PendingTask). e.task) l)) (c.deref-pending-items.ensures.0 ∙ c.list-list.ensures ports)
