-- Phase by phase.
use Rattle.std.proofs.Common.{◌≡◌, false, [], length, Some, None, Err, sym, refl, ap, ◌∙◌}
use Rattle.std.proofs.lemmas.Bool.{ne_eqb, both_ways}
use Rattle.machine.specs.State.{bare}
use Rattle.machine.specs.Runner.{kinds_of}
use Rattle.machine.specs.Calls.{Tick, counts, sensor_count, leaves}
use Rattle.runner.specs.Sound.{loaded, shown}
use Rattle.runner.proofs.Sounds.{bench_of, unchanged, fit, fit_kept, follows}
use Rattle.runner.proofs.Ticks.{sensors_long, refused, refuses, chargeable, stop_leaves}
use Rattle.runner.proofs.Phases.{Begun, Charged, Opened, Ended, rests, over_state, over_answer, over_asked, still_going, still_below, no_stop, queue_inside, room, kept, stop_state, stop_answer, stop_asked, ran_state, ran_answer_is, ran_asked}
use Rattle.runner.proofs.run.Run.tick.Goals as goal

pub returns-then-given-self : goal.returns-then-given-self
returns-then-given-self g c =
    let M = g.H.Host.meaning in
    let r = c.args.self.now in
    let rd = c.args.readings.now in
    let none = c.in_default.is in
    let m = M r.bench.host in
    let p = loaded r.bench in
    let s = shown g.H.Host.ports r in
    let off : counts m rd ≡ false
    = ne_eqb (length rd) (sensor_count (kinds_of m.sheet)) (λ e. c.if-given-self.true (e ∙ sym (sensors_long m.sheet r.bench.wiring c.requires.bench.wired))) in
    record {
      answer = sym (refuses m p rd s none off (leaves m p (Tick rd None) s));
      follows = follows M g.H.Host.ports g.P.Policy.mark g.met.H.Host.lawful r c.requires (Tick rd None) r (unchanged M r.bench) refl (sym (ap bare (refused m p rd s none off None))) (λ k e. absurd (both_ways (counts m rd) off k));
      untouched = refl;
      unasked = refl;
    }

pub charge-requires : goal.charge-requires
charge-requires g c =
    let r = c.args.self.now in
    let k : Begun g.H.Host.meaning g.H.Host.ports g.P.Policy.mark c.args.self.now c.args.readings.now
    = record { lawful = g.met.H.Host.lawful; sound = c.requires; none = c.in_default.is; enough = c.if-given-self.false } in
    chargeable (g.H.Host.meaning r.bench.host) (loaded r.bench) r.bench.wiring (g.H.Host.ports r.bench.host) r.progress (k.lawful r.bench.host).rules.few_tasks (rests k)

pub returns-in-Some-charge : goal.returns-in-Some-charge
returns-in-Some-charge g c =
    let r = c.args.self.now in
    let w = r.bench.wiring in
    let v = g.H.Host.ports r.bench.host in
    let k : Begun g.H.Host.meaning g.H.Host.ports g.P.Policy.mark c.args.self.now c.args.readings.now
    = record { lawful = g.met.H.Host.lawful; sound = c.requires; none = c.in_default.is; enough = c.if-given-self.false } in
    let es = c.in-Some-charge.ensures in
    let q : Charged k (Some c.in-Some-charge.task) c.charge.new.self = record { said = es.answer w.ports; left = es.after w v [] } in
    record {
      answer = over_answer k q;
      follows = follows g.H.Host.meaning g.H.Host.ports g.P.Policy.mark k.lawful r k.sound (Tick c.args.readings.now None) _ (unchanged g.H.Host.meaning r.bench) refl (over_state k q) (over_asked k q);
      untouched = tt;
      unasked = refl;
    }

pub open-requires : goal.open-requires
open-requires g c =
    let r = c.args.self.now in
    let w = r.bench.wiring in
    let v = g.H.Host.ports r.bench.host in
    let k : Begun g.H.Host.meaning g.H.Host.ports g.P.Policy.mark c.args.self.now c.args.readings.now
    = record { lawful = g.met.H.Host.lawful; sound = c.requires; none = c.in_default.is; enough = c.if-given-self.false } in
    let es = c.in_default-charge.ensures in
    let q : Charged k None c.charge.new.self = record { said = es.answer w.ports; left = es.after w v [] } in
    record { wired = c.requires.bench.wired; going = still_going k q; below = still_below k q }

pub run_due-instructions-requires : goal.run_due-instructions-requires
run_due-instructions-requires g c =
    let r = c.args.self.now in
    let w = r.bench.wiring in
    let v = g.H.Host.ports r.bench.host in
    let k : Begun g.H.Host.meaning g.H.Host.ports g.P.Policy.mark c.args.self.now c.args.readings.now
    = record { lawful = g.met.H.Host.lawful; sound = c.requires; none = c.in_default.is; enough = c.if-given-self.false } in
    let es = c.in_default-charge.ensures in
    let q : Charged k None c.charge.new.self = record { said = es.answer w.ports; left = es.after w v [] } in
    let b₁ = bench_of c.open.new.host r.bench.program w in
    let u : Opened k q b₁ c.open.new.self = record { same = record { host = c.open.ensures.same; program = refl; wiring = refl }; opens = c.open.ensures.after [] } in
    let f = fit_kept g.H.Host.meaning r.bench b₁ u.same (fit g.H.Host.meaning r.bench c.requires.bench) in
    record {
      wired = f.wired;
      bounds = f.bounds;
      going = no_stop k q u;
      inside = queue_inside k q u;
      room = room k q u;
    }

pub returns-in-Some-stop : goal.returns-in-Some-stop
returns-in-Some-stop g c =
    let r = c.args.self.now in
    let w = r.bench.wiring in
    let v = g.H.Host.ports r.bench.host in
    let k : Begun g.H.Host.meaning g.H.Host.ports g.P.Policy.mark c.args.self.now c.args.readings.now
    = record { lawful = g.met.H.Host.lawful; sound = c.requires; none = c.in_default.is; enough = c.if-given-self.false } in
    let es = c.in_default-charge.ensures in
    let q : Charged k None c.charge.new.self = record { said = es.answer w.ports; left = es.after w v [] } in
    let b₁ = bench_of c.open.new.host r.bench.program w in
    let u : Opened k q b₁ c.open.new.self = record { same = record { host = c.open.ensures.same; program = refl; wiring = refl }; opens = c.open.ensures.after [] } in
    let ran = c.run_due-instructions in
    let b₂ = bench_of ran.new.host r.bench.program w in
    let e : Ended k q u b₂ ran.new.self ran.result = record { after = ran.ensures.after; counted = ran.ensures.answer; same = record { host = ran.ensures.same; program = refl; wiring = refl } } in
    let x = c.in-Some-stop.stop in
    let is = c.in-Some-stop.is in
    record {
      answer = ap Err c.from.ensures ∙ stop_answer k q u e x is;
      follows = follows g.H.Host.meaning g.H.Host.ports g.P.Policy.mark k.lawful r k.sound (Tick c.args.readings.now None) _ (kept k q u e) refl (stop_state k q u e x is) (stop_asked k q u e x is);
      untouched = stop_leaves _ _ x c.from.result c.from.ensures;
      unasked = refl;
    }

pub returns : goal.returns
returns g c =
    let r = c.args.self.now in
    let w = r.bench.wiring in
    let v = g.H.Host.ports r.bench.host in
    let k : Begun g.H.Host.meaning g.H.Host.ports g.P.Policy.mark c.args.self.now c.args.readings.now
    = record { lawful = g.met.H.Host.lawful; sound = c.requires; none = c.in_default.is; enough = c.if-given-self.false } in
    let es = c.in_default-charge.ensures in
    let q : Charged k None c.charge.new.self = record { said = es.answer w.ports; left = es.after w v [] } in
    let b₁ = bench_of c.open.new.host r.bench.program w in
    let u : Opened k q b₁ c.open.new.self = record { same = record { host = c.open.ensures.same; program = refl; wiring = refl }; opens = c.open.ensures.after [] } in
    let ran = c.run_due-instructions in
    let b₂ = bench_of ran.new.host r.bench.program w in
    let e : Ended k q u b₂ ran.new.self ran.result = record { after = ran.ensures.after; counted = ran.ensures.answer; same = record { host = ran.ensures.same; program = refl; wiring = refl } } in
    let o = c.choose-running.result in
    let going = c.in_default-stop.is in
    record {
      answer = ran_answer_is k q u e o going;
      follows = follows g.H.Host.meaning g.H.Host.ports g.P.Policy.mark k.lawful r k.sound (Tick c.args.readings.now o) _ (kept k q u e) c.choose-running.ensures.same_mark (ran_state k q u e o going)
          (ran_asked k q u e o going c.deref.result.now (c.deref.ensures.0 ∙ c.list-pending.ensures w.ports) c.choose-running.ensures.choice);
      untouched = tt;
      unasked = tt;
    }
