use Rattle.std.proofs.Common.{◌≡◌, ◌+◌, ◌-◌, ◌≤◌, ◌++◌, length, take}
use Rattle.machine.specs.Runner.{kinds_of}
use Rattle.parts.specs.Wired.{sensors_from}
use Rattle.parts.proofs.wiring.sensor_ports.Given as goal

-- the sensor ports so far, and those among the kinds that are to come
abbrev pub invariant-loop-port : goal.invariant-loop-port
invariant-loop-port l =
    (goal.iterator-loop-port).can_next l.port-iterator
    × (goal.iterator-loop-port).is_finite l.port-iterator
    × (l.len ≤ l.port-iterator.a.start)
    × (length l.items ≡ 32)
    × (l.port-iterator.a.start + length l.port-iterator.b.rest.now ≡ 32)
    × (take l.len l.items ++ sensors_from l.port-iterator.a.start (take (l.port-iterator.a.end - l.port-iterator.a.start) l.port-iterator.b.rest.now) ≡ sensors_from 0 (kinds_of l.sheet))
