-- THE TABLE of refusals of a call on a run: the number and place of every fault, and of a stop its own number, 14 or 15, its task and
-- its address.
--   12 and 13 are misuses, 14 and 15 stop the run, 16 comes after a stop, 17 asks for a port that there is not
use Rattle.machine.specs.declared.fault.RunFault.{RunFault}
use Rattle.machine.specs.declared.fault.RunFault.TheVariants.{Readings, NotRunning, BudgetUsedUp, Touched, AfterStop, NoPort}
use Rattle.machine.specs.declared.fault.RunRefusal.{RunRefusal}
use Rattle.machine.specs.declared.stop.Stop.{Stop}
use Rattle.machine.specs.declared.stop.Stop.TheVariants as stop
use Rattle.std.specs.Prelude.{ℕ}

abbrev pub run_refusal : RunFault → RunRefusal
run_refusal (Readings given) = record { number = 12; place = given }
run_refusal (NotRunning task) = record { number = 13; place = task }
run_refusal (BudgetUsedUp task) = record { number = 14; place = task }
run_refusal (Touched task) = record { number = 15; place = task }
run_refusal (AfterStop task) = record { number = 16; place = task }
run_refusal (NoPort port) = record { number = 17; place = port }

-- the number of a stop
abbrev pub stop_number : Stop → ℕ
stop_number (stop.BudgetUsedUp task) = 14
stop_number (stop.Touched task address) = 15

-- the task of a stop
abbrev pub stop_task : Stop → ℕ
stop_task (stop.BudgetUsedUp task) = task
stop_task (stop.Touched task address) = task

-- the address of a stop; a budget has none, and is told with 0
abbrev pub stop_address : Stop → ℕ
stop_address (stop.BudgetUsedUp task) = 0
stop_address (stop.Touched task address) = address
