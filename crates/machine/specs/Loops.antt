-- The law that the loops of the runner come to their own end, and not to the end of the turns that they are given.
--   LoopsEnd    a thread has turns enough for any return or stop, and after a tick no binding is due
use Rattle.std.specs.Prelude.{◌≡◌, ℕ, ◌+◌, ◌<◌, ◌≤◌, List, None}
use Rattle.std.specs.List.{AllByRecursion}
use Rattle.ecode.specs.Verdict.{Contents}
use Rattle.host.specs.Meaning.{Meaning}
use Rattle.machine.specs.State.{Ports, size, State, fresh}
use Rattle.machine.specs.Runner.{thread}
use Rattle.machine.specs.Calls.{RunCall, after}
use Rattle.machine.specs.Begins.{Begins}

-- given more turns than the program has instructions, a thread does nothing more; and between the calls of a run that has not
-- stopped every binding waits for a later tick
pub record Finished (m : Meaning) (p : Contents) (v : Ports) : Type 0 where
  pub thread_ends : (a more : ℕ) (s : State) → a < size p → thread m p (size p + more) a s ≡ thread m p (size p) a s
  pub none_due : (calls : List RunCall) → (after m p calls (fresh p v)).stop ≡ None → AllByRecursion (λ b. 1 ≤ b.wait) (after m p calls (fresh p v)).queue

-- wherever a run may begin
abbrev pub LoopsEnd : Type 0
LoopsEnd = (m : Meaning) (p : Contents) (v : Ports) → Begins m p v → Finished m p v
