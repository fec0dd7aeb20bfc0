use Rattle.std.proofs.Common.{◌<◌, ◌≤◌, length, ◌∙◌, arith}
use Rattle.host.specs.Stopping.{stop_more, stop_none}
use Rattle.host.proofs.end_stops.stop_ports.Goals as goal

pub loop-stop-preserved : goal.loop-stop-preserved
loop-stop-preserved g c =
    let stops = c.args.stops.now in
    let lt : c.loop-stop.stop-index < length stops = omega arith in (
      stop_more c.args.written stops c.loop-stop.stop-index _ (g.H.Host.ports c.loop-stop.host) _ lt c.stop_port.ensures.after ∙ c.loop-stop.invariant.0,
      c.stop_port.ensures.same ∙ c.loop-stop.invariant.1,
    )

pub returns : goal.returns
returns g c =
    let stops = c.args.stops.now in
    let ge : length stops ≤ c.loop-stop.stop-index = omega arith in
    record {
      after = stop_none c.args.written stops c.loop-stop.stop-index _ ge ∙ c.loop-stop.invariant.0;
      same = c.loop-stop.invariant.1;
    }
