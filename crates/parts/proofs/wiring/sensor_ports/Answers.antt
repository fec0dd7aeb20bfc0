-- Port by port, those that are sensors.
use Rattle.std.proofs.Common.{length, take, ap, ◌∙◌, append-nil, arith, length-set}
use Rattle.std.proofs.lemmas.List.{take_more_set}
use Rattle.parts.proofs.Feeds.{sensor_kept, sensors_more}
use Rattle.parts.proofs.wiring.sensor_ports.Goals as goal

pub loop-port-preserved-then-eq : goal.loop-port-preserved-then-eq
loop-port-preserved-then-eq c =
    let old = c.loop-port.port-iterator in
    let new = c.next.new.self in
    let items = c.loop-port.items in
    let n = c.loop-port.len in
    let steps = c.in-Some.ensures.steps in
    let one = take_more_set items n c.in-Some.port (omega (arith, ap length steps.1)) in
    let kept = sensor_kept c.in-Some.kind.now old.a.start _ c.if-eq.ensures in
    let more = sensors_more (take n items) old.a.start old.a.end c.in-Some.kind.now new.b.rest.now (omega arith) in
    ((tt, tt), tt, omega arith, length-set _ _ _ ∙ c.loop-port.invariant.3, omega (arith, ap length steps.1), cc)

pub loop-port-preserved : goal.loop-port-preserved
loop-port-preserved c =
    let old = c.loop-port.port-iterator in
    let new = c.next.new.self in
    let found = take c.loop-port.len c.loop-port.items in
    let steps = c.in-Some.ensures.steps in
    let kept = sensor_kept c.in-Some.kind.now old.a.start _ c.if-eq.ensures in
    let none = append-nil found in
    let more = sensors_more found old.a.start old.a.end c.in-Some.kind.now new.b.rest.now (omega arith) in
    ((tt, tt), tt, omega arith, c.loop-port.invariant.3, omega (arith, ap length steps.1), cc)
