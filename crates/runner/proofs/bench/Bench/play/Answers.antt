-- The run that was begun, the calls made on it, and what its end gave back.
use Rattle.runner.proofs.Plays.{promised}
use Rattle.runner.proofs.bench.Bench.play.Goals as goal

pub returns : goal.returns
returns g c =
    record {
      promise = promised g.H.Host.meaning g.H.Host.ports g.P.Policy.mark g.met.H.Host.lawful g.met.H.Host.long c.args.self c.args.policy c.requires
          c.begin-run.result c.begin-run.ensures.bench c.begin-run.ensures.policy c.begin-run.ensures.state
          c.args.calls.now c.args.answers.now c.make_all.new.answers c.make_all.new.self c.make_all.ensures
          _ _ _ _ c.end.ensures.given;
      sound = c.end.ensures.sound;
    }
