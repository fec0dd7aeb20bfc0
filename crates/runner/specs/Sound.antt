-- When a bench and a run are sound: what every call asks, and every call that makes or keeps one promises.
--   loaded        the program of a bench, as the reference runner has it
--   SoundBench    the program of a bench is accepted for its host's sheet, and its rows have eight cells
--   FitBench      what the instructions of a bench rest on: less than a sound one
--   SameBench     a bench keeps its program and wiring, and its host what it does; the host's ports may change
--   working       the state of a bench at work, with a log
--   shown         the state that a run shows: all of it but the log of its last tick, which no code holds
--   SoundRun      some list of calls, with choices that its policy may make, brings a fresh run to what the run shows
use Rattle.std.specs.Prelude.{◌≡◌, Bool, List, [], length}
use Rattle.ecode.specs.Verdict.{Contents}
use Rattle.ecode.specs.Accepted.{Bounded, Accepted}
use Rattle.host.specs.Meaning.{Meaning}
use Rattle.machine.specs.State.{Ports, Event, State, bare, fresh}
use Rattle.machine.specs.Begins.{RowsOfEight}
use Rattle.machine.specs.Calls.{RunCall, after, ByPolicy}
use Rattle.parts.specs.Wired.{WiredFor}
use Rattle.runner.specs.declared.bench.Bench.{Bench}
use Rattle.runner.specs.declared.progress.Progress.{Progress}
use Rattle.runner.specs.declared.run.Run.{Run}
use Rattle.runner.specs.Standing.{program_of, standing}

-- entry, lines and budgets
abbrev pub loaded : {H : Type 0} → Bench H → Contents
loaded b = program_of b.wiring b.program

-- the program is accepted, its rows have eight cells, and the wiring is the sheet's
pub record SoundBench {H : Type 0} (meaning : H → Meaning) (b : Bench H) : Type 0 where
  pub accepted : Accepted (meaning b.host).sheet (loaded b)
  pub rows : RowsOfEight (loaded b)
  pub wired : WiredFor (meaning b.host).sheet b.wiring

-- the program keeps its bounds, and the wiring is the sheet's
pub record FitBench {H : Type 0} (meaning : H → Meaning) (b : Bench H) : Type 0 where
  pub bounds : Bounded (meaning b.host).sheet (loaded b).entry (loaded b).lines
  pub wired : WiredFor (meaning b.host).sheet b.wiring

-- the ports of its host aside, the bench is as it was
pub record SameBench {H : Type 0} (meaning : H → Meaning) (before then : Bench H) : Type 0 where
  pub host : meaning then.host ≡ meaning before.host
  pub program : then.program ≡ before.program
  pub wiring : then.wiring ≡ before.wiring

-- the ports of the bench's host, and what the run has come to
abbrev pub working : {H : Type 0} → (H → Ports) → Bench H → List Event → Progress → State
working ports b log g = standing b.wiring (ports b.host) log g

-- with the log left empty
abbrev pub shown : {H P : Type 0} → (H → Ports) → Run H P → State
shown ports r = working ports r.bench [] r.progress

-- the bench inside is sound; the run began with some ports, and these calls were made since
pub record SoundRun {H P : Type 0} (meaning : H → Meaning) (ports : H → Ports) (mark : P → Bool) (r : Run H P) : Type 0 where
  pub bench : SoundBench meaning r.bench
  pub begun : Ports
  pub long : length begun ≡ (meaning r.bench.host).sheet.ports
  pub calls : List RunCall
  pub chosen : ByPolicy (mark r.policy) (meaning r.bench.host) (loaded r.bench) calls (fresh (loaded r.bench) begun)
  pub came_to : shown ports r ≡ bare (after (meaning r.bench.host) (loaded r.bench) calls (fresh (loaded r.bench) begun))
