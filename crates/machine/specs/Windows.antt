-- The law that windows are kept: a task that is released has its whole window to end, and is read at the window's end.
--   shares_by        an instruction is the call of a driver that shares with a task; some_shares, one of a log is
--   UnderBudgets     every pending task has used fewer slots than its budget
--   NoneUsedUp       so it is after every call of a list: no tick has raised a task's slots used to its budget
--   WindowKept       one release: the first call that shares with the task comes in the tick at the end of the window, and finds
--                    the task not pending
--   WindowsKept      the same of every release in the ticks of a run
--   WindowsAreKept   so it is in every run with a policy that goes by the earliest deadline
use Rattle.std.specs.Prelude.{◌≡◌, ℕ, ◌+◌, ◌<◌, ◌≤◌, Bool, true, false, ◌||◌, List, [], ◌∷◌, ◌++◌, length, Some, None, slice_index_or}
use Rattle.std.specs.List.{AllByRecursion}
use Rattle.ecode.specs.declared.sheet.Sheet.{Sheet}
use Rattle.ecode.specs.declared.code.Instruction.{Instruction}
use Rattle.ecode.specs.declared.code.Instruction.TheVariants.{Call, Release, Future, If, Jump, Return}
use Rattle.ecode.specs.Sheets.{shares}
use Rattle.ecode.specs.Verdict.{Contents}
use Rattle.host.specs.Meaning.{Meaning}
use Rattle.machine.specs.State.{Ports, budget, Job, Event, State, fresh}
use Rattle.machine.specs.Calls.{RunCall, leaves, after, ticks_of, ByPolicy}
use Rattle.machine.specs.Begins.{Begins}

-- the instruction calls a driver that shares with task t
abbrev pub shares_by : Sheet → Instruction → ℕ → Bool
shares_by s (Call d) t = shares s d t
shares_by s (Release u w) t = false
shares_by s (Future x a k) t = false
shares_by s (If q a) t = false
shares_by s (Jump a) t = false
shares_by s Return t = false

-- some instruction of the log does
abbrev pub some_shares : Sheet → ℕ → List Event → Bool
some_shares s t [] = false
some_shares s t (e ∷ log) = shares_by s e.instruction t || some_shares s t log

-- no budget is used up in the state s
abbrev pub UnderBudgets : Meaning → Contents → State → Type 0
UnderBudgets m p s = (t : ℕ) (k : Job) → t < m.sheet.tasks → s.pending t ≡ Some k → k.used < budget p t

-- nor at the begin, nor after any of the calls
abbrev pub NoneUsedUp : Meaning → Contents → List RunCall → State → Type 0
NoneUsedUp m p [] s = UnderBudgets m p s
NoneUsedUp m p (c ∷ calls) s = UnderBudgets m p s × NoneUsedUp m p calls (leaves m p c s)

-- a release of task t with the window w in tick i, after which the events `since` came in the same tick
pub record WindowKept (s : Sheet) (ticks : List (List Event)) (i : ℕ) (since : List Event) (t w : ℕ) : Type 0 where
  -- no call shares with the task in the rest of its tick, nor in the later ticks before the w-th
  pub rest_of_tick : some_shares s t since ≡ false
  pub before : (k : ℕ) → 1 ≤ k → k < w → i + k < length ticks → some_shares s t (slice_index_or ticks (i + k) []) ≡ false
  -- in the w-th later tick, if there are so many, a call does
  pub at_end : i + w < length ticks → some_shares s t (slice_index_or ticks (i + w) []) ≡ true
  -- and it finds the task not pending
  pub ended : i + w < length ticks → AllByRecursion (λ e. shares_by s e.instruction t ≡ true → e.pending t ≡ false) (slice_index_or ticks (i + w) [])

-- a log has its newest event first, so that what came after an event stands before it
abbrev pub WindowsKept : Sheet → List (List Event) → Type 0
WindowsKept s ticks = (i t w : ℕ) (since earlier : List Event) (e : Event) → i < length ticks
    → slice_index_or ticks i [] ≡ since ++ (e ∷ earlier) → e.instruction ≡ Release t w
    → WindowKept s ticks i since t w

-- While every choice is the earliest deadline's and no tick has raised a task's slots used to its budget, no tick stops the run, and
-- as far as the list of calls reaches every window is kept
abbrev pub WindowsAreKept : Type 0
WindowsAreKept = (m : Meaning) (p : Contents) (v : Ports) (calls : List RunCall) → Begins m p v
    → ByPolicy true m p calls (fresh p v) → NoneUsedUp m p calls (fresh p v)
    → ((after m p calls (fresh p v)).stop ≡ None) × WindowsKept m.sheet (ticks_of m p calls (fresh p v))
