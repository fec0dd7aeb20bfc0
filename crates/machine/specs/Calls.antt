-- The calls on a run: what each answers and leaves, and what lists of calls come to.
--   RunCall        tick, done, and the questions for the state and for a port
--   counts         a tick carries one reading for each sensor port; another is refused with 12
--   leaves         the state that a call leaves: a refused call, and a question, leaves it as it was
--   tick_answer, done_answer, state_answer, port_answer    what each call answers; answer is any of them
--   after          the state that a list of calls leaves; answers what they answer
--   ticks_of       the logs of the ticks that count, the first tick first
--   AsChosen       every choice in a list of calls is right by some rule; ByPolicy by what a policy may choose, marked or not
--   Written        what end writes: the numbers of the pending tasks, each once in any order; GivenBack all that end does
use Rattle.std.specs.Prelude.{◌≡◌, ℕ, ◌+◌, ◌-◌, Bool, true, false, cond, List, [], ◌∷◌, ◌++◌, map, length, replicate, ℤ, Some, None, Ok, Err, Option, Result, ◌==◌, nat_lt}
use Rattle.std.specs.List.Sorted.{IsPermutation}
use Rattle.ecode.specs.declared.port.PortKind.{PortKind}
use Rattle.ecode.specs.declared.port.PortKind.TheVariants.{Sensor, Driver, Task}
use Rattle.ecode.specs.Verdict.{Contents}
use Rattle.host.specs.Meaning.{Meaning, reading}
use Rattle.policy.specs.declared.pending.PendingTask.{PendingTask}
use Rattle.policy.specs.Choice.{Choice}
use Rattle.machine.specs.declared.answer.Ticked.{Ticked}
use Rattle.machine.specs.declared.answer.Answer.{Answer}
use Rattle.machine.specs.declared.answer.Answer.TheVariants.{Ran, Ended, StoppedBy, Value}
use Rattle.machine.specs.declared.fault.RunFault.{RunFault}
use Rattle.machine.specs.declared.fault.RunFault.TheVariants.{Readings, NotRunning, BudgetUsedUp, Touched, AfterStop, NoPort}
use Rattle.machine.specs.declared.stop.Stop.{Stop}
use Rattle.machine.specs.declared.stop.Stop.TheVariants as stop
use Rattle.machine.specs.Refusals.{stop_task}
use Rattle.machine.specs.State.{Ports, Table, Event, State}
use Rattle.machine.specs.Runner.{kinds_of, tick, done}
use Rattle.machine.specs.Choices.{pending_tasks}

-- a tick comes with its readings, and with what the policy chooses if it is asked; done names a task, the last a port
pub data RunCall : Type 0 where
  Tick : List ℤ → Option ℕ → RunCall
  Done : ℕ → RunCall
  AskState : RunCall
  AskPort : ℕ → RunCall

-- how many readings a port takes at a tick
abbrev pub readings_for : PortKind → ℕ
readings_for Sensor = 1
readings_for Driver = 0
readings_for Task = 0

-- how many readings a tick takes
abbrev pub sensor_count : List PortKind → ℕ
sensor_count [] = 0
sensor_count (k ∷ ks) = readings_for k + sensor_count ks

-- there are as many readings as sensor ports
abbrev pub counts : Meaning → List ℤ → Bool
counts m readings = length readings == sensor_count (kinds_of m.sheet)

-- task t is the running one
abbrev pub is_running : Option ℕ → ℕ → Bool
is_running None t = false
is_running (Some i) t = i == t

-- the first where the run has not stopped, else the second
abbrev pub if_going : {A : Type 0} → Option Stop → A → A → A
if_going None x y = x
if_going (Some stop) x y = y

-- after a stop tick and done are refused, with 16 before any other refusal
abbrev pub leaves : Meaning → Contents → RunCall → State → State
leaves m p (Tick readings choice) s = if_going s.stop (cond (counts m readings) (tick m p readings choice s) s) s
leaves m p (Done t) s = if_going s.stop (cond (is_running s.running t) (done m t s) s) s
leaves m p AskState s = s
leaves m p (AskPort x) s = s

-- the refusal of a tick that stopped
abbrev pub fault_of : Stop → RunFault
fault_of (stop.BudgetUsedUp task) = BudgetUsedUp task
fault_of (stop.Touched task address) = Touched task

-- a tick that stopped answers its stop, another the number of instructions that it ran and the running task
abbrev pub ran_or_stopped : Option Stop → ℕ → Option ℕ → Result Ticked RunFault
ran_or_stopped None n running = Ok (record { instructions = n; running = running })
ran_or_stopped (Some x) n running = Err (fault_of x)

-- tick and done after a stop: 16, with the stop's task
abbrev pub unless_over : {A : Type 0} → Option Stop → Result A RunFault → Result A RunFault
unless_over None answer = answer
unless_over (Some x) answer = Err (AfterStop (stop_task x))

-- the answer of a tick that goes from s to s'
abbrev pub tick_answer : Meaning → List ℤ → State → State → Result Ticked RunFault
tick_answer m readings s s' =
    unless_over s.stop
    (cond (counts m readings) (ran_or_stopped s'.stop (length s'.log) s'.running) (Err (Readings (length readings))))

-- done answers nothing, or that the task is not running
abbrev pub done_answer : ℕ → State → Result (Unit {0}) RunFault
done_answer t s = unless_over s.stop (cond (is_running s.running t) (Ok tt) (Err (NotRunning t)))

-- no stop, or the stop with its number, task and address
abbrev pub state_answer : State → Option Stop
state_answer s = s.stop

-- the value of a port of the sheet
abbrev pub port_answer : Meaning → ℕ → State → Result ℤ RunFault
port_answer m x s = cond (nat_lt x m.sheet.ports) (Ok (reading s.ports x)) (Err (NoPort x))

-- the answer that a result makes, and a refusal as it is
abbrev pub answered : {A : Type 0} → (A → Answer) → Result A RunFault → Result Answer RunFault
answered kind (Ok x) = Ok (kind x)
answered kind (Err fault) = Err fault

-- the answer of a call made in the state s
abbrev pub answer : Meaning → Contents → RunCall → State → Result Answer RunFault
answer m p (Tick readings choice) s = answered Ran (tick_answer m readings s (leaves m p (Tick readings choice) s))
answer m p (Done t) s = answered (λ _. Ended) (done_answer t s)
answer m p AskState s = Ok (StoppedBy (state_answer s))
answer m p (AskPort x) s = answered Value (port_answer m x s)

-- one call after the other
abbrev pub after : Meaning → Contents → List RunCall → State → State
after m p [] s = s
after m p (c ∷ calls) s = after m p calls (leaves m p c s)

-- the answer of each call, in the state that those before it leave
abbrev pub answers : Meaning → Contents → List RunCall → State → List (Result Answer RunFault)
answers m p [] s = []
answers m p (c ∷ calls) s = answer m p c s ∷ answers m p calls (leaves m p c s)

-- the log of a call that leaves s', if it is a tick that counts, and the logs that follow; a tick that stops the run counts, one
-- that is refused does not
abbrev pub logged : Meaning → RunCall → Option Stop → State → List (List Event) → List (List Event)
logged m (Tick readings choice) stop s' later = if_going stop (cond (counts m readings) (s'.log ∷ later) later) later
logged m (Done t) stop s' later = later
logged m AskState stop s' later = later
logged m (AskPort x) stop s' later = later

-- the logs of all ticks that count
abbrev pub ticks_of : Meaning → Contents → List RunCall → State → List (List Event)
ticks_of m p [] s = []
ticks_of m p (c ∷ calls) s = logged m c s.stop (leaves m p c s) (ticks_of m p calls (leaves m p c s))

-- the policy is asked at the end of a tick that counts and did not stop: it is told the pending tasks and answers the choice
abbrev pub Asked : (List PendingTask → Option ℕ → Type 0) → Meaning → RunCall → State → Type 0
Asked Right m (Tick readings choice) s' = counts m readings ≡ true → s'.stop ≡ None → Right (pending_tasks m.sheet.tasks s'.pending) choice
Asked Right m (Done t) s' = Unit {0}
Asked Right m AskState s' = Unit {0}
Asked Right m (AskPort x) s' = Unit {0}

-- every choice of the list is right by the rule
abbrev pub AsChosen : (List PendingTask → Option ℕ → Type 0) → Meaning → Contents → List RunCall → State → Type 0
AsChosen Right m p [] s = Unit {0}
AsChosen Right m p (c ∷ calls) s = Asked Right m c (leaves m p c s) × AsChosen Right m p calls (leaves m p c s)

-- every choice is one that a policy may make: none where nothing is pending, else a pending task, and with the mark one that has
-- the fewest ticks left
abbrev pub ByPolicy : Bool → Meaning → Contents → List RunCall → State → Type 0
ByPolicy mark m p calls s = AsChosen (Choice mark) m p calls s

-- the numbers of the pending tasks among n
abbrev pub pending_numbers : ℕ → Table → List ℕ
pending_numbers n f = map (λ e. e.task) (pending_tasks n f)

-- what end writes into 8 bytes: those numbers, each once in any order, and 255 in the rest
pub record Written (n : ℕ) (f : Table) (bytes : List ℕ) : Type 0 where
  pub numbers : List ℕ
  pub any_order : IsPermutation (pending_numbers n f) numbers
  pub rest : bytes ≡ numbers ++ replicate (8 - length numbers) 255

-- what end does in the state s of a run over m: the bench comes back with the host that it had, its ports as they are, and the
-- program that ran, and the pending tasks are written
pub record GivenBack (m : Meaning) (p : Contents) (s : State) (m' : Meaning) (v : Ports) (p' : Contents) (bytes : List ℕ) : Type 0 where
  pub host : m' ≡ m
  pub ports : v ≡ s.ports
  pub program : p' ≡ p
  pub pending : Written m.sheet.tasks s.pending bytes
