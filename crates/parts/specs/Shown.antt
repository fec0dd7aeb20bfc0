-- What the parts of a run stand for in the state of the reference runner.
--   queued     the bindings that wait
--   jobs       the pending tasks, on a host with so many ports
--   Takes      the first due binding is taken out of a queue
--   written    task numbers as end writes them
use Rattle.std.specs.Prelude.{◌≡◌, ℕ, ◌-◌, ◌<◌, true, cond, List, [], ◌++◌, length, get_or, take, replicate, Some, None, Option, slice_index_or}
use Rattle.ecode.specs.Wiring.{has}
use Rattle.machine.specs.declared.binding.Binding.{Binding}
use Rattle.machine.specs.State.{Job, Table}
use Rattle.machine.specs.Runner.{first_due}
use Rattle.parts.specs.declared.data.Queue.{Queue}
use Rattle.parts.specs.declared.data.Slot.{Slot}
use Rattle.parts.specs.declared.data.TaskTable.{TaskTable}

-- the bindings that a queue holds
abbrev pub queued : Queue → List Binding
queued q = take q.len q.items

-- what stands past the end of the slots
abbrev pub no_slot : Slot
no_slot = record { left = 0; used = 0; taken = [] }

-- a slot with one tick less left
abbrev pub one_less : Slot → Slot
one_less s = record { left = s.left - 1; used = s.used; taken = s.taken }

-- the job in a slot, on a host with so many ports
abbrev pub job : ℕ → Slot → Job
job ports s = record { left = s.left; used = s.used; taken = take ports s.taken }

-- the jobs of the pending tasks
abbrev pub jobs : ℕ → TaskTable → Table
jobs ports f t = cond (has f.pending t) (Some (job ports (slice_index_or f.slots t no_slot))) None

-- the first due binding is taken out, and its address answered; where none is due the queue stays
abbrev pub Takes : List Binding → Option ℕ → List Binding → Type 0
Takes q None q' = (first_due q ≡ None) × (q' ≡ q)
Takes q (Some a) q' = first_due q ≡ Some (record { address = a; others = q' })

-- the running task, if there is one, is pending and has a slot that can be charged
abbrev pub Chargeable : TaskTable → Option ℕ → Type 0
Chargeable f None = Unit {0}
Chargeable f (Some t) = (t < 8) × (has f.pending t ≡ true) × ((get_or f.slots t no_slot).used < 255)

-- task numbers in eight bytes, 255 in the rest
abbrev pub written : List ℕ → List ℕ
written numbers = numbers ++ replicate (8 - length numbers) 255
