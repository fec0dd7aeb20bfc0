-- Thread by thread and instruction by instruction: what is left to do gives what the whole gives.
use Rattle.std.proofs.Common.{◌≡◌, ◌+◌, ◌-◌, ◌≤◌, List, [], length, Some, None, sym, refl, ap, ◌∙◌, subst, arith}
use Rattle.machine.specs.State.{Event, State, size}
use Rattle.machine.specs.Runner.{threads, with_queue}
use Rattle.machine.proofs.Queues.{due_few, due_count}
use Rattle.parts.specs.Shown.{queued}
use Rattle.runner.specs.Standing.{program_of, standing}
use Rattle.runner.proofs.Sounds.{bench_of, fit_kept}
use Rattle.runner.specs.Turns.{OnlyTouch}
use Rattle.runner.proofs.Turns.{queue_long, requeued, touch_only}
use Rattle.runner.proofs.Threads.{Left, drawn, threads_none, threads_stopped, whole_from, recount}
use Rattle.runner.proofs.Within.{Within, room, step_queued, further, fewer, whole, back}
use Rattle.runner.proofs.progress.Progress.run_due.Goals as goal

pub due-init : goal.due-init
due-init g c =
    let q = c.args.self.now.queue in
    (refl, c.requires.going, c.requires.inside, omega (arith, due_few (queued q), queue_long q), record { turns = length (queued q); log = []; enough = due_few (queued q); count = refl; same = refl })

pub loop-next-init : goal.loop-next-init
loop-next-init g c =
    let p = program_of c.args.wiring.now c.args.program.now in
    let d = drawn c.args.program.now.listing.count (queued c.due.self.queue) (record { address = c.in-Some.first; others = queued c.take_due.new.self }) c.in-Some.ensures in
    (c.due.invariant.0, refl, d.address c.due.invariant.2, omega arith, omega arith, d.inside c.due.invariant.2, omega arith, λ k. record { turns = size p; log = k; enough = omega arith; count = omega arith; same = refl })

pub step-requires : goal.step-requires
step-requires g c =
    let p = c.args.program.now in
    let w = c.args.wiring.now in
    let k : Within g.H.Host.meaning g.H.Host.ports (bench_of c.args.host.now p w) c.args.self.now (bench_of c.due.host p w) c.due.self c.due.count c.take_due.new.self c.in-Some.first (bench_of c.loop-next.host p w) c.loop-next.self c.loop-next.at c.loop-next.count
    = record { fit = record { bounds = c.requires.bounds; wired = c.requires.wired }; left = c.due.invariant.4; going = c.due.invariant.1; draws = c.in-Some.ensures; same = record { host = c.loop-next.invariant.0; program = refl; wiring = refl }; low = c.loop-next.invariant.2; mids = c.loop-next.invariant.7 } in
    let f = fit_kept g.H.Host.meaning (bench_of c.args.host.now p w) (bench_of c.loop-next.host p w) k.same k.fit in
    record { wired = f.wired; bounds = f.bounds; within = k.low; room = room k c.requires.room }

pub loop-next-preserved : goal.loop-next-preserved
loop-next-preserved g c =
    let p = c.args.program.now in
    let w = c.args.wiring.now in
    let k : Within g.H.Host.meaning g.H.Host.ports (bench_of c.args.host.now p w) c.args.self.now (bench_of c.due.host p w) c.due.self c.due.count c.take_due.new.self c.in-Some.first (bench_of c.loop-next.host p w) c.loop-next.self c.loop-next.at c.loop-next.count
    = record { fit = record { bounds = c.requires.bounds; wired = c.requires.wired }; left = c.due.invariant.4; going = c.due.invariant.1; draws = c.in-Some.ensures; same = record { host = c.loop-next.invariant.0; program = refl; wiring = refl }; low = c.loop-next.invariant.2; mids = c.loop-next.invariant.7 } in
    let es = c.in-To.ensures in
    let inv = c.loop-next.invariant in
    let q = step_queued k (bench_of c.step.new.host p w) c.step.new.self (Some c.in-To.next) es.turn in
    let n = c.loop-next.count - c.due.count in (
      es.same ∙ k.same.host,
      es.told ∙ inv.1,
      es.upward.1,
      omega arith,
      omega (arith, es.upward.0),
      q.inside inv.5,
      omega (arith, q.few, inv.6),
      λ l. recount (n + length l + 1) (c.loop-next.count + 1 - c.due.count + length l) (omega arith) (further k (bench_of c.step.new.host p w) c.step.new.self (Some c.in-To.next) es.turn c.in-To.next refl es.upward.0 l),
    )

pub due-smaller : goal.due-smaller
due-smaller g c =
    let p = c.args.program.now in
    let w = c.args.wiring.now in
    let k : Within g.H.Host.meaning g.H.Host.ports (bench_of c.args.host.now p w) c.args.self.now (bench_of c.due.host p w) c.due.self c.due.count c.take_due.new.self c.in-Some.first (bench_of c.loop-next.host p w) c.loop-next.self c.loop-next.at c.loop-next.count
    = record { fit = record { bounds = c.requires.bounds; wired = c.requires.wired }; left = c.due.invariant.4; going = c.due.invariant.1; draws = c.in-Some.ensures; same = record { host = c.loop-next.invariant.0; program = refl; wiring = refl }; low = c.loop-next.invariant.2; mids = c.loop-next.invariant.7 } in
    let q = step_queued k (bench_of c.step.new.host p w) c.step.new.self None c.in-Returned.ensures.turn in
    omega (arith, q.few, c.loop-next.invariant.6, fewer k)

pub due-preserved : goal.due-preserved
due-preserved g c =
    let p = c.args.program.now in
    let w = c.args.wiring.now in
    let k : Within g.H.Host.meaning g.H.Host.ports (bench_of c.args.host.now p w) c.args.self.now (bench_of c.due.host p w) c.due.self c.due.count c.take_due.new.self c.in-Some.first (bench_of c.loop-next.host p w) c.loop-next.self c.loop-next.at c.loop-next.count
    = record { fit = record { bounds = c.requires.bounds; wired = c.requires.wired }; left = c.due.invariant.4; going = c.due.invariant.1; draws = c.in-Some.ensures; same = record { host = c.loop-next.invariant.0; program = refl; wiring = refl }; low = c.loop-next.invariant.2; mids = c.loop-next.invariant.7 } in
    let es = c.in-Returned.ensures in
    let due = c.due.invariant in
    let inv = c.loop-next.invariant in
    let q = step_queued k (bench_of c.step.new.host p w) c.step.new.self None es.turn in
    let few : due_count (queued c.step.new.self.queue) ≤ due_count (queued c.take_due.new.self) = omega (arith, q.few, inv.6) in
    let counted : c.loop-next.count - c.due.count + c.due.count + 1 ≡ c.loop-next.count + 1 = omega arith in (
      es.same ∙ k.same.host,
      es.told ∙ inv.1 ∙ due.1,
      q.inside inv.5,
      omega (arith, few, fewer k, due.3, inv.2, inv.4, p.listing.few),
      subst (λ n. Left (g.H.Host.meaning c.args.host.now) (program_of w p) (λ j. standing w (g.H.Host.ports c.step.new.host) j c.step.new.self) n (whole k)) counted (back k (bench_of c.step.new.host p w) c.step.new.self None es.turn refl few),
    )

pub returns-in-Stopped : goal.returns-in-Stopped
returns-in-Stopped g c =
    let p = c.args.program.now in
    let w = c.args.wiring.now in
    let k : Within g.H.Host.meaning g.H.Host.ports (bench_of c.args.host.now p w) c.args.self.now (bench_of c.due.host p w) c.due.self c.due.count c.take_due.new.self c.in-Some.first (bench_of c.loop-next.host p w) c.loop-next.self c.loop-next.at c.loop-next.count
    = record { fit = record { bounds = c.requires.bounds; wired = c.requires.wired }; left = c.due.invariant.4; going = c.due.invariant.1; draws = c.in-Some.ensures; same = record { host = c.loop-next.invariant.0; program = refl; wiring = refl }; low = c.loop-next.invariant.2; mids = c.loop-next.invariant.7 } in
    let es = c.in-Stopped.ensures in
    let q = step_queued k (bench_of c.step.new.host p w) c.step.new.self None es.turn in
    let few : due_count (queued c.step.new.self.queue) ≤ due_count (queued c.take_due.new.self) = omega (arith, q.few, c.loop-next.invariant.6) in
    let left = back k (bench_of c.step.new.host p w) c.step.new.self None es.turn refl few in
    let v : List Event → State = λ j. standing w (g.H.Host.ports c.step.new.host) j c.step.new.self in
    let e : v left.log ≡ whole k = sym (threads_stopped (g.H.Host.meaning c.args.host.now) (program_of w p) left.turns (v left.log) es.told) ∙ left.same in
    record {
      after = whole_from v left.log (whole k) (λ l. refl) e;
      answer = (let z : c.loop-next.count + 1 ≡ length left.log = omega (arith, left.count, c.loop-next.invariant.3) in z) ∙ ap (λ (s : State). length s.log) e;
      touch = touch_only c.step.new.self.stop es.told;
      same = es.same ∙ k.same.host;
    }

pub returns-in_default : goal.returns-in_default
returns-in_default g c =
    let M = g.H.Host.meaning in
    let ports = g.H.Host.ports in
    let w = c.args.wiring.now in
    let p = program_of w c.args.program.now in
    let m = M c.args.host.now in
    let whole = threads m p (length (queued c.args.self.now.queue)) (standing w (ports c.args.host.now) [] c.args.self.now) in
    let v₀ : List Event → State = λ j. standing w (ports c.due.host) j c.due.self in
    let v₁ : List Event → State = λ j. standing w (ports c.due.host) j (requeued c.due.self c.take_due.new.self) in
    let left = c.due.invariant.4 in
    let none = c.in_default.ensures in
    let e : v₁ left.log ≡ whole = (λ x. with_queue (v₀ left.log) (none.1 x)) ∙ sym (threads_none m p left.turns (v₀ left.log) none.0) ∙ left.same in
    record {
      after = whole_from v₁ left.log whole (λ k. refl) e;
      answer = left.count ∙ ap (λ (s : State). length s.log) e;
      touch = subst OnlyTouch (sym c.due.invariant.1) tt;
      same = c.due.invariant.0;
    }
