-- The state of a run: all that the reference runner keeps from one call to the next.
--   Ports        the values of the ports, port 0 first
--   size         N, the number of instructions of a program; instruction_at the one at an address; budget a task's
--   Job          a pending task: ticks left, slots used, and the ports as they were taken at its release
--   Table        the pending tasks by their numbers
--   Event        an instruction that was run, as the log of a tick has it
--   State        ports, queue, pending tasks, running task, stop, and the log of the last tick
--   fresh        the state in which a run begins
--   bare         the same state without the log of its last tick
use Rattle.std.specs.Prelude.{ℕ, Bool, List, [], ◌∷◌, length, ℤ, is_some, None, Option, slice_index, slice_index_or}
use Rattle.ecode.specs.declared.code.Instruction.{Instruction}
use Rattle.ecode.specs.Typing.{blank}
use Rattle.ecode.specs.Verdict.{Contents}
use Rattle.machine.specs.declared.binding.Binding.{Binding}
use Rattle.machine.specs.declared.stop.Stop.{Stop}

-- a value for each port
abbrev pub Ports : Type 0
Ports = List ℤ

-- N, the number of instructions
abbrev pub size : Contents → ℕ
size p = length p.lines

-- what stands at address a; a return where the program has ended
abbrev pub instruction_at : Contents → ℕ → Instruction
instruction_at p a = (slice_index_or p.lines a blank).instruction

-- the slots that task t may use
abbrev pub budget : Contents → ℕ → ℕ
budget p t = slice_index p.budgets t

-- a pending task
pub record Job : Type 0 where
  pub left : ℕ
  pub used : ℕ
  pub taken : Ports

-- the job of each task that is pending
abbrev pub Table : Type 0
Table = ℕ → Option Job

-- task t is pending
abbrev pub is_pending : Table → ℕ → Bool
is_pending f t = is_some (f t)

-- an instruction run: its address, which it is, how many bindings wait after it, and which tasks were pending at it
pub record Event : Type 0 where
  pub at : ℕ
  pub instruction : Instruction
  pub waiting : ℕ
  pub pending : ℕ → Bool

-- the queue is in the order in which bindings were made, the log of the last tick has its newest event first
pub record State : Type 0 where
  pub ports : Ports
  pub queue : List Binding
  pub pending : Table
  pub running : Option ℕ
  pub stop : Option Stop
  pub log : List Event

-- the host's ports, one binding that has the entry due at the first tick, and nothing pending
abbrev pub fresh : Contents → Ports → State
fresh p v = record {
  ports = v;
  queue = record { wait = 1; at = p.entry } ∷ [];
  pending = λ t. None;
  running = None;
  stop = None;
  log = [];
}

-- the same state without the log of its last tick
abbrev pub bare : State → State
bare s = record { ports = s.ports; queue = s.queue; pending = s.pending; running = s.running; stop = s.stop; log = [] }
