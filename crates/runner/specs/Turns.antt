-- What one instruction asks and tells, in the words of the code.
--   Room       a future finds room in the queue
--   next_of    where a thread goes on
--   Tells      a stop is told, and is one for a touch
--   Upward     a thread goes to a higher address, and stays in the program
--   Inside     the bindings' addresses lie in the program; Roomy, no more than eight of them ever wait
use Rattle.std.specs.Prelude.{◌≡◌, ℕ, ◌<◌, ◌≤◌, List, Some, None, Option}
use Rattle.ecode.specs.declared.code.Instruction.{Instruction}
use Rattle.ecode.specs.declared.code.Instruction.TheVariants.{Call, Release, Future, If, Jump, Return}
use Rattle.std.specs.List.{AllByRecursion}
use Rattle.machine.specs.declared.binding.Binding.{Binding}
use Rattle.machine.specs.declared.stop.Stop.{Stop}
use Rattle.machine.specs.Refusals.{stop_number}
use Rattle.machine.specs.State.{Event}
use Rattle.runner.specs.declared.progress.Flow.{Flow}
use Rattle.runner.specs.declared.progress.Flow.TheVariants.{To, Returned, Stopped}

-- with n bindings in the queue of eight there is room for what the instruction appends
abbrev pub Room : ℕ → Instruction → Type 0
Room n (Call d) = Unit {0}
Room n (Release t w) = Unit {0}
Room n (Future x y k) = n < 8
Room n (If q y) = Unit {0}
Room n (Jump y) = Unit {0}
Room n Return = Unit {0}

-- the address where the thread goes on, if it does
abbrev pub next_of : Flow → Option ℕ
next_of (To a) = Some a
next_of Returned = None
next_of Stopped = None

-- a stop with the number 15
abbrev pub Touch : Option Stop → Type 0
Touch None = ⊥
Touch (Some x) = stop_number x ≡ 15

-- the run has stopped exactly where the flow says so
abbrev pub Tells : Flow → Option Stop → Option Stop → Type 0
Tells (To a) old new = new ≡ old
Tells Returned old new = new ≡ old
Tells Stopped old new = Touch new

-- no lower address, and none past the program
abbrev pub Upward : ℕ → ℕ → Flow → Type 0
Upward n a (To b) = (a < b) × (b < n)
Upward n a Returned = Unit {0}
Upward n a Stopped = Unit {0}

-- no stop but for a touch
abbrev pub OnlyTouch : Option Stop → Type 0
OnlyTouch None = Unit {0}
OnlyTouch (Some x) = stop_number x ≡ 15

-- the bindings' addresses lie in a program of n instructions
abbrev pub Inside : ℕ → List Binding → Type 0
Inside n q = AllByRecursion (λ b. b.at < n) q

-- no more than eight bindings wait after any instruction
abbrev pub Roomy : List Event → Type 0
Roomy log = AllByRecursion (λ e. e.waiting ≤ 8) log
