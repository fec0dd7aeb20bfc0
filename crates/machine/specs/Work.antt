-- The law that a tick does a bounded amount of work.
--   WorkWithin       the bounds that a run keeps: on its queue, and on each of its ticks
--   WorkIsBounded    every run keeps them
use Rattle.std.specs.Prelude.{◌*◌, ◌≤◌, List, length}
use Rattle.std.specs.List.{AllByRecursion}
use Rattle.ecode.specs.Verdict.{Contents}
use Rattle.host.specs.Meaning.{Meaning}
use Rattle.machine.specs.State.{Ports, size, Event, State, fresh}
use Rattle.machine.specs.Calls.{RunCall, after, ticks_of}
use Rattle.machine.specs.Begins.{Begins}

-- of a run that has come to the state s by these ticks: as many bindings wait as there are tasks, or fewer; no tick ran more
-- instructions than tasks times the length of the program, the one that stopped it included; and after none of them were there more
-- bindings than tasks
pub record WorkWithin (m : Meaning) (p : Contents) (s : State) (ticks : List (List Event)) : Type 0 where
  pub bindings : length s.queue ≤ m.sheet.tasks
  pub instructions : AllByRecursion (λ log. length log ≤ m.sheet.tasks * size p) ticks
  pub waiting : AllByRecursion (λ log. AllByRecursion (λ e. e.waiting ≤ m.sheet.tasks) log) ticks

-- for every list of calls, the empty one too, whatever is chosen at its ticks: so at the begin and after each call
abbrev pub WorkIsBounded : Type 0
WorkIsBounded = (m : Meaning) (p : Contents) (v : Ports) (calls : List RunCall) → Begins m p v
    → WorkWithin m p (after m p calls (fresh p v)) (ticks_of m p calls (fresh p v))
