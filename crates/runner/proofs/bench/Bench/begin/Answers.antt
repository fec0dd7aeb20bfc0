-- A fresh run, to which no call has led yet.
use Rattle.std.proofs.Common.{◌≡◌, [], None, refl}
use Rattle.machine.specs.State.{fresh}
use Rattle.runner.specs.declared.progress.Progress.{Progress}
use Rattle.runner.specs.Standing.{standing}
use Rattle.runner.specs.Sound.{loaded}
use Rattle.runner.proofs.bench.Bench.begin.Goals as goal

pub returns : goal.returns
returns g c =
    let b = c.args.self in
    let v = g.H.Host.ports b.host in
    let begun : Progress = record { queue = c.starting-queue.result; table = c.empty-table.result; running = None; stop = None } in
    let state : standing b.wiring v [] begun ≡ fresh (loaded b) v = λ x. record {
      ports = v;
      queue = c.starting-queue.ensures x;
      pending = c.empty-table.ensures b.wiring.ports x;
      running = None;
      stop = None;
      log = [];
    } in
    record {
      bench = refl;
      policy = refl;
      state = state;
      sound = record { bench = c.requires; begun = v; long = g.met.H.Host.long b.host; calls = []; chosen = tt; came_to = state };
    }
