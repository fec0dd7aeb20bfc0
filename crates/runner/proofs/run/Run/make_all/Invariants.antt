use Rattle.std.proofs.Common.{◌≡◌, take, drop}
use Rattle.runner.proofs.Records.{Playing}
use Rattle.runner.proofs.run.Run.make_all.Given as goal

abbrev pub invariant-loop-i : goal.invariant-loop-i
invariant-loop-i g l =
    Playing g.H.Host.meaning g.H.Host.ports g.P.Policy.mark (take l.i l.calls) (take l.i l.answers) l.initial.self l.self
    × (drop l.i l.answers ≡ drop l.i l.initial.answers)
