-- At the end of the shorter list all are put.
use Rattle.std.proofs.Common.{sym, ap, ◌∙◌, inl, inr, arith, length-take}
use Rattle.machine.specs.Runner.{kinds_of}
use Rattle.parts.proofs.Feeds.{put_each, put_none, put_all}
use Rattle.parts.proofs.feed.feed.Goals as goal

pub returns-clause-ports : goal.returns-clause-ports
returns-clause-ports g c =
    let s = (g.H.Host.meaning c.args.host.now).sheet in
    let v = g.H.Host.ports c.args.host.now in
    let left = c.loop-sensor.sensor-iterator in
    sym (put_none left.a.rest.now left.b.rest.now (g.H.Host.ports c.loop-sensor.host) (elim c.in-None.ensures.steps [ inl e ↦ inl e.1.0 | inr e ↦ inr e.1.0 ]))
    ∙ c.loop-sensor.invariant.3 ∙ ap (λ l. put_each l c.args.readings.now v) c.requires
    ∙ put_all v (kinds_of s) c.args.readings.now (omega (arith, g.met.H.Host.long c.args.host.now, length-take s.ports s.kinds))
