-- THE PROMISE of a whole run, which the contract of `Bench::play` carries: for every host, every policy, every program that was
-- accepted, and every list of calls, taken or refused.
--   AgreesWith         another run on a like host has the same driver ports
--   PlaysAsPromised    all that is promised of a run and of the bench that comes back
use Rattle.std.specs.Prelude.{◌≡◌, ℕ, Bool, true, List, ◌++◌, length, take, drop, None, Result}
use Rattle.ecode.specs.declared.port.PortKind.TheVariants.{Driver}
use Rattle.ecode.specs.Sheets.{Port, kind}
use Rattle.ecode.specs.Verdict.{Contents}
use Rattle.host.specs.Meaning.{Meaning, reading}
use Rattle.machine.specs.declared.answer.Answer.{Answer}
use Rattle.machine.specs.declared.fault.RunFault.{RunFault}
use Rattle.machine.specs.State.{Ports, fresh}
use Rattle.machine.specs.Calls.{RunCall, after, answers, ticks_of, ByPolicy, GivenBack}
use Rattle.machine.specs.Windows.{NoneUsedUp, WindowsKept}
use Rattle.machine.specs.Work.{WorkWithin}
use Rattle.machine.specs.Agreement.{readings_of, LikeHosts}
use Rattle.machine.specs.Growth.{WithinBounds}
use Rattle.runner.specs.declared.call.Call.{Call}
use Rattle.runner.specs.Record.{record_of}

-- the run of the program p on the host m that began with the ports v and came by these calls to where it is: any other run of p, on a
-- like host, whose ticks carried the same readings has the same value at every driver port, if neither has stopped. Nothing is
-- said of when tasks ended in either, nor of what its policy chose
abbrev pub AgreesWith : Meaning → Contents → Ports → List RunCall → Type 0
AgreesWith m p v made = (m' : Meaning) (v' : Ports) (others : List RunCall) → LikeHosts m m' v v'
    → readings_of m made ≡ readings_of m' others
    → (after m p made (fresh p v)).stop ≡ None → (after m' p others (fresh p v')).stop ≡ None
    → (x : ℕ) → Port m.sheet x → kind m.sheet x ≡ Driver
    → reading (after m p made (fresh p v)).ports x ≡ reading (after m' p others (fresh p v')).ports x

-- of a bench with the host m, the program p and the ports v, played under a policy with this mark: the calls, the places for answers
-- before and after, the host, program and ports of the bench that comes back, and the eight bytes. The first n calls of the run are
-- written `take n (record_of calls new)`, so that what is said for every n is said at the begin and after every call
pub record PlaysAsPromised (mark : Bool) (m : Meaning) (p : Contents) (v : Ports) (calls : List Call) (old new : List (Result Answer RunFault)) (m' : Meaning) (p' : Contents) (v' : Ports) (bytes : List ℕ) : Type 0 where
  -- IT FOLLOWS THE REFERENCE RUNNER. Every answer is the one that the reference runner gives, fed the calls and the choices that
  -- show in the answers; places that no call was made for are as they were
  pub answers_follow : new ≡ answers m p (record_of calls new) (fresh p v) ++ drop (length calls) old
  -- every choice is one that the policy may make
  pub choices_follow : ByPolicy mark m p (record_of calls new) (fresh p v)
  -- the bench comes back with the same host, program and budgets, with the ports that the reference runner leaves, and the pending
  -- tasks are written, each once
  pub bench_follows : GivenBack m p (after m p (record_of calls new) (fresh p v)) m' v' p' bytes
  -- WINDOWS ARE KEPT. Under a policy that goes by the earliest deadline, as long as no tick has raised a task's slots used to its
  -- budget, the run has not stopped, and every release has had its whole window: the first call that shares with the task came at
  -- its end and found the task ended
  pub windows_are_kept : mark ≡ true → (n : ℕ) → NoneUsedUp m p (take n (record_of calls new)) (fresh p v)
      → ((after m p (take n (record_of calls new)) (fresh p v)).stop ≡ None) × WindowsKept m.sheet (ticks_of m p (take n (record_of calls new)) (fresh p v))
  -- WORK IS BOUNDED. No tick ran more instructions than tasks times program length, and never did more bindings wait than there are
  -- tasks
  pub work_is_bounded : (n : ℕ) → WorkWithin m p (after m p (take n (record_of calls new)) (fresh p v)) (ticks_of m p (take n (record_of calls new)) (fresh p v))
  -- DRIVER PORTS AGREE with those of every other run of the program on a like host with the same readings
  pub driver_ports_agree : (n : ℕ) → AgreesWith m p v (take n (record_of calls new))
  -- NOTHING GROWS with age: every number of the state stays within bounds that program and sheet give
  pub nothing_grows : (n : ℕ) → WithinBounds m p (after m p (take n (record_of calls new)) (fresh p v))
