-- What the code of a run stands for in the reference runner.
--   program_of      the program as the reference runner has it
--   standing        a state, from the ports of the host, a log and what the run has come to. No code holds the log
--   after_charge    a state after a slot was charged
use Rattle.std.specs.Prelude.{ℕ, List, Some, None, Option}
use Rattle.ecode.specs.declared.code.Program.{Program}
use Rattle.ecode.specs.Verdict.{Contents, contents}
use Rattle.machine.specs.declared.stop.Stop.{Stop}
use Rattle.machine.specs.declared.stop.Stop.TheVariants.{BudgetUsedUp}
use Rattle.machine.specs.State.{Ports, Event, State}
use Rattle.machine.specs.Runner.{charged}
use Rattle.parts.specs.declared.data.Wiring.{Wiring}
use Rattle.parts.specs.Shown.{queued, jobs}
use Rattle.runner.specs.declared.progress.Progress.{Progress}

-- entry, lines and the budgets of the tasks that there are
abbrev pub program_of : Wiring → Program → Contents
program_of w p = contents w.tasks p

-- all parts of a state
abbrev pub standing : Wiring → Ports → List Event → Progress → State
standing w v log g = record { ports = v; queue = queued g.queue; pending = jobs w.ports g.table; running = g.running; stop = g.stop; log = log }

-- the stop for a budget that is used up, if one is
abbrev pub stop_for : Option ℕ → Option Stop → Option Stop
stop_for None old = old
stop_for (Some t) old = Some (BudgetUsedUp t)

-- one slot more is used by the running task; where that uses up its budget, the run stops
abbrev pub after_charge : Option ℕ → State → State
after_charge used_up s = record { ports = s.ports; queue = s.queue; pending = charged s.pending s.running; running = s.running; stop = stop_for used_up s.stop; log = s.log }
