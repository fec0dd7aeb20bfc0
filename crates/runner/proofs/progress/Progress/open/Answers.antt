-- Table, ports and queue, each as the reference runner opens a tick.
use Rattle.runner.proofs.progress.Progress.open.Goals as goal

pub returns : goal.returns
returns g c =
    record {
      after = λ l x. record {
        ports = c.feed.ensures.ports x;
        queue = c.count_down-2.ensures x;
        pending = c.count_down.ensures c.args.wiring.now.ports x;
        running = c.args.self.now.running;
        stop = c.requires.going x;
        log = mathlib.Core.List.[];
      };
      same = c.feed.ensures.same;
    }
