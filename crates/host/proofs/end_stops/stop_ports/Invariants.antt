use Rattle.std.proofs.Common.{◌≡◌, drop}
use Rattle.host.specs.Stops.{stop_all}
use Rattle.host.proofs.end_stops.stop_ports.Given as goal

-- the stops that are left give what all of them give
abbrev pub invariant-loop-stop : goal.invariant-loop-stop
invariant-loop-stop g l =
    (stop_all l.written (drop l.stop-index l.stops) (g.H.Host.ports l.host) ≡ stop_all l.written l.stops (g.H.Host.ports l.initial.host))
    × (g.H.Host.meaning l.host ≡ g.H.Host.meaning l.initial.host)
