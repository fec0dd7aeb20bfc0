use Rattle.std.proofs.Common.{◌≡◌, ℕ, ◌≤◌, length, drop}
use Rattle.machine.specs.Choices.{pending_tasks}
use Rattle.parts.specs.Shown.{jobs}
use Rattle.parts.proofs.data.TaskTable.list.Given as goal

abbrev pub invariant-loop-task : goal.invariant-loop-task
invariant-loop-task l =
    (goal.iterator-loop-task).can_next l.task-iterator
    × (goal.iterator-loop-task).is_finite l.task-iterator
    × (length l.list.items ≤ l.task-iterator.a.start)
    × (l.task-iterator.a.start ≤ l.tasks)
    × (l.task-iterator.a.end ≡ l.tasks)
    × (l.task-iterator.b.rest.now ≡ drop l.task-iterator.a.start l.self.slots)
    × ((ports : ℕ) → l.list.items ≡ pending_tasks l.task-iterator.a.start (jobs ports l.self))
