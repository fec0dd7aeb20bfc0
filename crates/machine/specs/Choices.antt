-- What a policy is told at a tick. What it may choose then, marked earliest or not, is the policy's `Choice`.
--   pending_tasks    the pending tasks with their ticks left, by rising number
use Rattle.std.specs.Prelude.{ℕ, zero, suc, List, [], ◌∷◌, ◌++◌, Some, None, Option}
use Rattle.policy.specs.declared.pending.PendingTask.{PendingTask}
use Rattle.machine.specs.State.{Job, Table}

-- the entry of task t, if it is pending
abbrev pub entry_of : ℕ → Option Job → List PendingTask
entry_of t None = []
entry_of t (Some k) = record { task = t; left = k.left } ∷ []

-- the entries of the tasks below n
abbrev pub pending_tasks : ℕ → Table → List PendingTask
pending_tasks zero f = []
pending_tasks (suc n) f = pending_tasks n f ++ entry_of n (f n)
