use Rattle.std.proofs.Common.{◌≡◌}
use Rattle.parts.proofs.Feeds.{put_each}
use Rattle.parts.proofs.feed.feed.Given as goal

abbrev pub invariant-loop-sensor : goal.invariant-loop-sensor
invariant-loop-sensor g l =
    (goal.iterator-loop-sensor g).can_next l.sensor-iterator
    × (goal.iterator-loop-sensor g).is_finite l.sensor-iterator
    × (g.H.Host.meaning l.host ≡ g.H.Host.meaning l.initial.host)
    × (put_each l.sensor-iterator.a.rest.now l.sensor-iterator.b.rest.now (g.H.Host.ports l.host) ≡ put_each l.sensors l.readings (g.H.Host.ports l.initial.host))
