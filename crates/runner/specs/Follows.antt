-- What a call on a run does, by the reference runner.
--   choice_in      the choice that the policy made in a tick: it shows in the answer
--   Follows        a call took the run from one state to the next as the reference runner goes
--   Untouched      a refusal with 12, 13 or 16 left the run as it was
--   Unasked        a tick that was refused or stopped did not ask the policy
use Rattle.std.specs.Prelude.{◌≡◌, ℕ, Bool, None, Ok, Err, Option, Result}
use Rattle.host.specs.Meaning.{Meaning}
use Rattle.policy.specs.Choice.{Choice}
use Rattle.machine.specs.declared.answer.Ticked.{Ticked}
use Rattle.machine.specs.declared.fault.RunFault.{RunFault}
use Rattle.machine.specs.declared.fault.RunFault.TheVariants.{Readings, NotRunning, BudgetUsedUp, Touched, AfterStop, NoPort}
use Rattle.machine.specs.State.{Ports, bare}
use Rattle.machine.specs.Calls.{RunCall, leaves, Asked}
use Rattle.runner.specs.declared.run.Run.{Run}
use Rattle.runner.specs.Sound.{loaded, shown, SameBench, SoundRun}

-- the running task that the tick answers; a tick that was refused or stopped asked for no choice
abbrev pub choice_in : Result Ticked RunFault → Option ℕ
choice_in (Ok t) = t.running
choice_in (Err fault) = None

-- the state that the run shows then is the reference runner's, its log aside; host, program and mark stay; where the call asked the
-- policy, its choice is one that it may make; and the run is sound again
pub record Follows {H P : Type 0} (meaning : H → Meaning) (ports : H → Ports) (mark : P → Bool) (call : RunCall) (before then : Run H P) : Type 0 where
  pub state : shown ports then ≡ bare (leaves (meaning before.bench.host) (loaded before.bench) call (shown ports before))
  pub bench : SameBench meaning before.bench then.bench
  pub mark_stays : mark then.policy ≡ mark before.policy
  pub chosen : Asked (Choice (mark before.policy)) (meaning before.bench.host) call (leaves (meaning before.bench.host) (loaded before.bench) call (shown ports before))
  pub sound : SoundRun meaning ports mark then

-- what a fault leaves of the run: nothing is changed, or the run has stopped
abbrev pub Leaves : {A : Type 0} → A → A → RunFault → Type 0
Leaves before then (Readings given) = then ≡ before
Leaves before then (NotRunning task) = then ≡ before
Leaves before then (BudgetUsedUp task) = Unit {0}
Leaves before then (Touched task) = Unit {0}
Leaves before then (AfterStop task) = then ≡ before
Leaves before then (NoPort port) = then ≡ before

abbrev pub Untouched : {A R : Type 0} → A → A → Result R RunFault → Type 0
Untouched before then (Ok x) = Unit {0}
Untouched before then (Err fault) = Leaves before then fault

-- only a tick that goes well asks the policy, so only then may its memory change
abbrev pub Unasked : {P : Type 0} → P → P → Result Ticked RunFault → Type 0
Unasked before then (Ok t) = Unit {0}
Unasked before then (Err fault) = then ≡ before
