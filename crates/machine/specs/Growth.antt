-- The law that nothing in a run grows, however long it runs.
--   WithinBounds    every number in a state is within bounds that the program and the sheet alone give
--   NothingGrows    so it is in every state that a run comes to
use Rattle.std.specs.Prelude.{◌≡◌, ℕ, ◌*◌, ◌<◌, ◌≤◌, ◌⊎◌, Bool, true, List, length, Some}
use Rattle.std.specs.List.{AllByRecursion}
use Rattle.ecode.specs.Verdict.{Contents}
use Rattle.host.specs.Meaning.{Meaning}
use Rattle.machine.specs.declared.stop.Stop.{Stop}
use Rattle.machine.specs.Refusals.{stop_number, stop_task, stop_address}
use Rattle.machine.specs.State.{Ports, size, Job, is_pending, State, fresh}
use Rattle.machine.specs.Calls.{RunCall, after, ByPolicy}
use Rattle.machine.specs.Begins.{Begins}

-- what the ports hold is the host's
pub record WithinBounds (m : Meaning) (p : Contents) (s : State) : Type 0 where
  -- as many port values as the sheet has ports
  pub ports : length s.ports ≡ m.sheet.ports
  -- at most as many bindings as tasks; a wait is at most 240 ticks, an address is one of the program's
  pub bindings : length s.queue ≤ m.sheet.tasks
  pub waits : AllByRecursion (λ b. b.wait ≤ 240) s.queue
  pub addresses : AllByRecursion (λ b. b.at < size p) s.queue
  -- only tasks of the sheet are pending, with at most 240 ticks left and 240 slots used
  pub tasks : (t : ℕ) (k : Job) → s.pending t ≡ Some k → t < m.sheet.tasks
  pub left : (t : ℕ) (k : Job) → s.pending t ≡ Some k → k.left ≤ 240
  pub used : (t : ℕ) (k : Job) → s.pending t ≡ Some k → k.used ≤ 240
  pub taken : (t : ℕ) (k : Job) → s.pending t ≡ Some k → length k.taken ≡ m.sheet.ports
  -- only a pending task runs
  pub running : (i : ℕ) → s.running ≡ Some i → is_pending s.pending i ≡ true
  -- a stop has the number 14 or 15, and names a task of the sheet and an address of the program
  pub stop : (x : Stop) → s.stop ≡ Some x → ((stop_number x ≡ 14) ⊎ (stop_number x ≡ 15)) × (stop_task x < m.sheet.tasks) × (stop_address x < size p)
  -- the log of the last tick has at most as many events as tasks times the length of the program
  pub log : length s.log ≤ m.sheet.tasks * size p
  pub events : AllByRecursion (λ e. (e.at < size p) × (e.waiting ≤ m.sheet.tasks)) s.log

-- for every list of calls with choices that a policy may make, marked or not
abbrev pub NothingGrows : Type 0
NothingGrows = (mark : Bool) (m : Meaning) (p : Contents) (v : Ports) (calls : List RunCall) → Begins m p v
    → ByPolicy mark m p calls (fresh p v)
    → WithinBounds m p (after m p calls (fresh p v))
