-- THE REFERENCE RUNNER: what a tick and the end of a task make of the state of a run. It computes on closed terms.
--   touched           the lowest pending task that an instruction would touch
--   ports_after, queue_after, pending_after, next_after    what an instruction does, part by part
--   performed         one instruction, run or stopped with 15
--   thread            instructions from an address to a return or a stop
--   first_due         the first binding in queue order whose wait is 0
--   threads           due bindings one after the other, until none is due or the run stops
--   charged, exhausted     step 1 of a tick: a slot for the running task, and whether its budget is used up
--   opening           step 2: one tick less for all, the readings put
--   closing           step 4: the choice becomes the running task
--   tick              the whole of a tick
--   done              the running task ends
-- Loops are by a number of turns that is always enough: a thread only goes to higher addresses, and a binding made in a tick
-- waits for a later one.
use Rattle.std.specs.Prelude.{ℕ, zero, suc, ◌+◌, ◌-◌, Bool, false, cond, ◌&&◌, List, [], ◌∷◌, ◌++◌, map, length, take, ℤ, Some, None, Option, ◌==◌, nat_le}
use Rattle.ecode.specs.declared.port.PortKind.{PortKind}
use Rattle.ecode.specs.declared.port.PortKind.TheVariants.{Sensor, Driver, Task}
use Rattle.ecode.specs.declared.sheet.Sheet.{Sheet}
use Rattle.ecode.specs.declared.code.Instruction.{Instruction}
use Rattle.ecode.specs.declared.code.Instruction.TheVariants.{Call, Release, Future, If, Jump, Return}
use Rattle.ecode.specs.Wiring.{has}
use Rattle.ecode.specs.Sheets.{shares, owns_of}
use Rattle.ecode.specs.Verdict.{Contents}
use Rattle.host.specs.Meaning.{Meaning, reading}
use Rattle.machine.specs.declared.binding.Binding.{Binding}
use Rattle.machine.specs.declared.stop.Stop.{Stop}
use Rattle.machine.specs.declared.stop.Stop.TheVariants.{BudgetUsedUp, Touched}
use Rattle.machine.specs.State.{Ports, size, instruction_at, budget, Job, Table, is_pending, Event, State}

-- f, but v at i
abbrev pub changed : {A : Type 0} → (ℕ → A) → ℕ → A → ℕ → A
changed f i v t = cond (t == i) v (f t)

-- the first of two, if there is one
abbrev pub or_else : Option ℕ → Option ℕ → Option ℕ
or_else None o = o
or_else (Some x) o = Some x

-- the lowest number below n that passes
abbrev pub lowest : ℕ → (ℕ → Bool) → Option ℕ
lowest zero f = None
lowest (suc n) f = or_else (lowest n f) (cond (f n) (Some n) None)

-- a call touches the pending tasks that its driver shares with, a release the task that it names if that is pending; of these
-- the lowest number
abbrev pub touched : Sheet → Table → Instruction → Option ℕ
touched s f (Call d) = lowest s.tasks (λ t. shares s d t && is_pending f t)
touched s f (Release t w) = cond (is_pending f t) (Some t) None
touched s f (Future x a k) = None
touched s f (If q a) = None
touched s f (Jump a) = None
touched s f Return = None

-- call drives
abbrev pub ports_after : Meaning → Instruction → Ports → Ports
ports_after m (Call d) v = m.drive d v
ports_after m (Release t w) v = v
ports_after m (Future x a k) v = v
ports_after m (If q a) v = v
ports_after m (Jump a) v = v
ports_after m Return v = v

-- future appends a binding
abbrev pub queue_after : Instruction → List Binding → List Binding
queue_after (Call d) q = q
queue_after (Release t w) q = q
queue_after (Future x a k) q = q ++ (record { wait = x; at = a } ∷ [])
queue_after (If c a) q = q
queue_after (Jump a) q = q
queue_after Return q = q

-- release makes the task pending, with its window left, no slot used and a copy of the ports
abbrev pub pending_after : Instruction → Ports → Table → Table
pending_after (Call d) v f = f
pending_after (Release t w) v f = changed f t (Some (record { left = w; used = 0; taken = v }))
pending_after (Future x a k) v f = f
pending_after (If q a) v f = f
pending_after (Jump a) v f = f
pending_after Return v f = f

-- the address where the thread goes on, none after a return; if goes to its address when the condition says yes
abbrev pub next_after : Meaning → Instruction → ℕ → Ports → Option ℕ
next_after m (Call d) a v = Some (a + 1)
next_after m (Release t w) a v = Some (a + 1)
next_after m (Future x y k) a v = Some (a + 1)
next_after m (If q y) a v = Some (cond (m.test q v) y (a + 1))
next_after m (Jump y) a v = Some y
next_after m Return a v = None

-- what the log keeps of the instruction i at address a, with the queue after it and the table before it
abbrev pub event : ℕ → Instruction → List Binding → Table → Event
event a i q f = record { at = a; instruction = i; waiting = length q; pending = is_pending f }

-- a state, and the address where the thread goes on in it
pub record Turn : Type 0 where
  pub state : State
  pub next : Option ℕ

-- the instruction i at address a: it is run where it touches nothing; where it touches a task, the run stops with 15 and the
-- instruction leaves all else as it was. It stands in the log either way
abbrev pub performed : Meaning → Instruction → ℕ → Option ℕ → State → Turn
performed m i a None s = record {
  state = record {
    ports = ports_after m i s.ports;
    queue = queue_after i s.queue;
    pending = pending_after i s.ports s.pending;
    running = s.running;
    stop = s.stop;
    log = event a i (queue_after i s.queue) s.pending ∷ s.log;
  };
  next = next_after m i a s.ports;
}
performed m i a (Some t) s = record {
  state = record {
    ports = s.ports;
    queue = s.queue;
    pending = s.pending;
    running = s.running;
    stop = Some (Touched t a);
    log = event a i s.queue s.pending ∷ s.log;
  };
  next = None;
}

-- the instruction at address a
abbrev pub step : Meaning → Contents → ℕ → State → Turn
step m p a s = performed m (instruction_at p a) a (touched m.sheet s.pending (instruction_at p a)) s

-- goes on at the address, if there is one
abbrev pub onward : (ℕ → State → State) → State → Option ℕ → State
onward f s None = s
onward f s (Some a) = f a s

-- from the address a to a return or a stop, at most so many instructions
abbrev pub thread : Meaning → Contents → ℕ → ℕ → State → State
thread m p zero a s = s
thread m p (suc turns) a s = onward (thread m p turns) (step m p a s).state (step m p a s).next

-- a binding that is due: its address, and the queue without it
pub record Due : Type 0 where
  pub address : ℕ
  pub others : List Binding

-- the same with another binding before it in the queue
abbrev pub behind : Binding → Option Due → Option Due
behind b None = None
behind b (Some d) = Some (record { address = d.address; others = b ∷ d.others })

-- the first in queue order whose wait is 0
abbrev pub first_due : List Binding → Option Due
first_due [] = None
first_due (b ∷ q) = cond (b.wait == 0) (Some (record { address = b.at; others = q })) (behind b (first_due q))

-- the same state with another queue
abbrev pub with_queue : State → List Binding → State
with_queue s q = record { ports = s.ports; queue = q; pending = s.pending; running = s.running; stop = s.stop; log = s.log }

-- the thread of a due binding, taken out of the queue, and then what follows
abbrev pub threads_on : (State → State) → Meaning → Contents → State → Option Due → State
threads_on follows m p s None = s
threads_on follows m p s (Some d) = follows (thread m p (size p) d.address (with_queue s d.others))

-- nothing once the run has stopped
abbrev pub unless_stopped : {A : Type 0} → Option Stop → Option A → Option A
unless_stopped None x = x
unless_stopped (Some s) x = None

-- step 3: due bindings one after the other, at most so many
abbrev pub threads : Meaning → Contents → ℕ → State → State
threads m p zero s = s
threads m p (suc turns) s = threads_on (threads m p turns) m p s (unless_stopped s.stop (first_due s.queue))

-- one more slot used
abbrev pub one_more_used : Option Job → Option Job
one_more_used None = None
one_more_used (Some k) = Some (record { left = k.left; used = k.used + 1; taken = k.taken })

-- step 1: the slots used of the running task rise by 1
abbrev pub charged : Table → Option ℕ → Table
charged f None = f
charged f (Some i) = changed f i (one_more_used (f i))

-- the slots used have reached the budget b
abbrev pub spent : ℕ → Option Job → Bool
spent b None = false
spent b (Some k) = nat_le b k.used

-- the running task, if its budget is used up
abbrev pub exhausted : (ℕ → ℕ) → Table → Option ℕ → Option ℕ
exhausted budgets f None = None
exhausted budgets f (Some i) = cond (spent (budgets i) (f i)) (Some i) None

-- one tick less left
abbrev pub one_less_left : Option Job → Option Job
one_less_left None = None
one_less_left (Some k) = Some (record { left = k.left - 1; used = k.used; taken = k.taken })

-- one tick less to wait
abbrev pub one_less_wait : Binding → Binding
one_less_wait b = record { wait = b.wait - 1; at = b.at }

-- the kinds of the ports that a sheet has
abbrev pub kinds_of : Sheet → List PortKind
kinds_of s = take s.ports s.kinds

-- the readings put on the sensor ports, in port order
abbrev pub put_readings : List PortKind → Ports → List ℤ → Ports
put_readings [] v r = v
put_readings (k ∷ ks) [] r = []
put_readings (Sensor ∷ ks) (x ∷ v) [] = x ∷ v
put_readings (Sensor ∷ ks) (x ∷ v) (y ∷ r) = y ∷ put_readings ks v r
put_readings (Driver ∷ ks) (x ∷ v) r = x ∷ put_readings ks v r
put_readings (Task ∷ ks) (x ∷ v) r = x ∷ put_readings ks v r

-- step 2, with the table after step 1: every pending task has one tick less left, the readings are put, every wait falls by 1
abbrev pub opening : Meaning → List ℤ → State → Table → State
opening m readings s f = record {
  ports = put_readings (kinds_of m.sheet) s.ports readings;
  queue = map one_less_wait s.queue;
  pending = λ t. one_less_left (f t);
  running = s.running;
  stop = None;
  log = [];
}

-- the choice runs; where the tick stopped, the policy is not asked and the running task stays
abbrev pub runs : Option Stop → Option ℕ → Option ℕ → Option ℕ
runs None old choice = choice
runs (Some x) old choice = old

-- step 4
abbrev pub closing : State → Option ℕ → State
closing s choice = record { ports = s.ports; queue = s.queue; pending = s.pending; running = runs s.stop s.running choice; stop = s.stop; log = s.log }

-- a tick after step 1, which left the table f: where a budget is used up the run stops with 14, all else being as it was
abbrev pub tick_on : Meaning → Contents → List ℤ → Option ℕ → State → Table → Option ℕ → State
tick_on m p readings choice s f (Some i) = record {
  ports = s.ports;
  queue = s.queue;
  pending = f;
  running = s.running;
  stop = Some (BudgetUsedUp i);
  log = [];
}
tick_on m p readings choice s f None = closing (threads m p (length s.queue) (opening m readings s f)) choice

-- a tick with one reading for each sensor port, and what the policy chooses if it is asked
abbrev pub tick : Meaning → Contents → List ℤ → Option ℕ → State → State
tick m p readings choice s =
    tick_on m p readings choice s (charged s.pending s.running)
    (exhausted (budget p) (charged s.pending s.running) s.running)

-- the ports v from port i on, with those of the set own as they are in w
abbrev pub put_own : ℕ → ℕ → Ports → Ports → Ports
put_own own i [] w = []
put_own own i (x ∷ v) w = cond (has own i) (reading w i) x ∷ put_own own (i + 1) v w

-- the end of a pending task: its own ports become what its function gives on the ports taken, it is no longer pending, and
-- nothing runs until the next tick
abbrev pub finish : Meaning → ℕ → Option Job → State → State
finish m t None s = s
finish m t (Some k) s = record {
  ports = put_own (owns_of m.sheet t) 0 s.ports (m.work t k.taken);
  queue = s.queue;
  pending = changed s.pending t None;
  running = None;
  stop = s.stop;
  log = s.log;
}

-- done for task t
abbrev pub done : Meaning → ℕ → State → State
done m t s = finish m t (s.pending t) s
