-- Instruction by instruction, what the reference runner does.
use Rattle.std.proofs.Common.{◌≡◌, ◌+◌, cond, List, Some, None, refl, ap, ◌∙◌, arith}
use Rattle.ecode.specs.declared.code.Instruction.TheVariants.{Call, Release, Future, If, Jump, Return}
use Rattle.machine.specs.State.{Event, State, is_pending}
use Rattle.machine.specs.declared.stop.Stop.TheVariants.{Touched}
use Rattle.parts.specs.Shown.{jobs}
use Rattle.runner.specs.Sound.{working}
use Rattle.runner.proofs.Sounds.{bench_of}
use Rattle.runner.proofs.Turns.{read, ranged, aimed, touches, passes, call_touches, room_at}
use Rattle.runner.proofs.progress.Progress.step.Goals as goal

pub bounds-wiring-driver : goal.bounds-wiring-driver
bounds-wiring-driver g c =
    let b = bench_of c.args.host.now c.args.program.now c.args.wiring.now in
    let a = c.args.at in
    let k = read g.met.H.Host.lawful b c.requires.wired c.requires.bounds a c.requires.within (Call c.in-Call.driver) c.in-Call.is in
    omega (arith, ranged k, k.lawful.rules.few_drivers)

pub is_pending-requires : goal.is_pending-requires
is_pending-requires g c =
    let b = bench_of c.args.host.now c.args.program.now c.args.wiring.now in
    let a = c.args.at in
    let k = read g.met.H.Host.lawful b c.requires.wired c.requires.bounds a c.requires.within (Release c.in-Release.task c.in-Release.window) c.in-Release.is in
    omega (arith, (ranged k).0, k.lawful.rules.few_tasks)

pub release-requires : goal.release-requires
release-requires g c =
    let b = bench_of c.args.host.now c.args.program.now c.args.wiring.now in
    let a = c.args.at in
    let k = read g.met.H.Host.lawful b c.requires.wired c.requires.bounds a c.requires.within (Release c.in-Release.task c.in-Release.window) c.in-Release.is in
    record { low = omega (arith, (ranged k).0, k.lawful.rules.few_tasks); ports = c.requires.wired.ports }

pub push-requires : goal.push-requires
push-requires g c =
    let b = bench_of c.args.host.now c.args.program.now c.args.wiring.now in
    let a = c.args.at in
    let k = read g.met.H.Host.lawful b c.requires.wired c.requires.bounds a c.requires.within (Future c.in-Future.wait c.in-Future.to c.in-Future.kept) c.in-Future.is in
    room_at _ _ _ _ _ c.requires.room k.is

pub returns-in-Some-clause-turn : goal.returns-in-Some-clause-turn
returns-in-Some-clause-turn g c =
    let b = bench_of c.args.host.now c.args.program.now c.args.wiring.now in
    let a = c.args.at in
    let k = read g.met.H.Host.lawful b c.requires.wired c.requires.bounds a c.requires.within (Call c.in-Call.driver) c.in-Call.is in
    let s : List Event → State = λ l. working g.H.Host.ports b l c.args.self.now in
    let who = c.in-Some.ensures b.wiring.ports ∙ call_touches (g.H.Host.meaning b.host).sheet b.wiring c.requires.wired k.lawful.rules.few_tasks c.in-Call.driver (ranged k) (jobs b.wiring.ports c.args.self.now.table) in
    λ l. touches k (s l) _ c.in-Some.task who
    (λ k x. record { ports = (s l).ports; queue = (s l).queue; pending = (s l).pending; running = (s l).running; stop = Some (Touched c.in-Some.task a); log = k })

pub returns-in-None-clause-turn : goal.returns-in-None-clause-turn
returns-in-None-clause-turn g c =
    let b = bench_of c.args.host.now c.args.program.now c.args.wiring.now in
    let a = c.args.at in
    let k = read g.met.H.Host.lawful b c.requires.wired c.requires.bounds a c.requires.within (Call c.in-Call.driver) c.in-Call.is in
    let s : List Event → State = λ l. working g.H.Host.ports b l c.args.self.now in
    let who = c.in-None.ensures b.wiring.ports ∙ call_touches (g.H.Host.meaning b.host).sheet b.wiring c.requires.wired k.lawful.rules.few_tasks c.in-Call.driver (ranged k) (jobs b.wiring.ports c.args.self.now.table) in
    λ l. passes k (s l) _ (Some (a + 1)) who
    (λ k x. record { ports = c.drive.ensures.after x; queue = (s l).queue; pending = (s l).pending; running = (s l).running; stop = (s l).stop; log = k }) refl

pub returns-in-None-clause-upward : goal.returns-in-None-clause-upward
returns-in-None-clause-upward g c =
    let b = bench_of c.args.host.now c.args.program.now c.args.wiring.now in
    let a = c.args.at in
    let k = read g.met.H.Host.lawful b c.requires.wired c.requires.bounds a c.requires.within (Call c.in-Call.driver) c.in-Call.is in
    (omega arith, aimed k)

pub returns-then-is_pending-clause-turn : goal.returns-then-is_pending-clause-turn
returns-then-is_pending-clause-turn g c =
    let b = bench_of c.args.host.now c.args.program.now c.args.wiring.now in
    let a = c.args.at in
    let k = read g.met.H.Host.lawful b c.requires.wired c.requires.bounds a c.requires.within (Release c.in-Release.task c.in-Release.window) c.in-Release.is in
    let s : List Event → State = λ l. working g.H.Host.ports b l c.args.self.now in
    let who : Some c.in-Release.task ≡ cond (is_pending (jobs b.wiring.ports c.args.self.now.table) c.in-Release.task) (Some c.in-Release.task) None
    = ap (λ b. cond b (Some c.in-Release.task) None) (c.if-is_pending.ensures b.wiring.ports) in
    λ l. touches k (s l) _ c.in-Release.task who
    (λ k x. record { ports = (s l).ports; queue = (s l).queue; pending = (s l).pending; running = (s l).running; stop = Some (Touched c.in-Release.task a); log = k })

pub returns-else-is_pending-clause-turn : goal.returns-else-is_pending-clause-turn
returns-else-is_pending-clause-turn g c =
    let b = bench_of c.args.host.now c.args.program.now c.args.wiring.now in
    let a = c.args.at in
    let k = read g.met.H.Host.lawful b c.requires.wired c.requires.bounds a c.requires.within (Release c.in-Release.task c.in-Release.window) c.in-Release.is in
    let s : List Event → State = λ l. working g.H.Host.ports b l c.args.self.now in
    let who : None ≡ cond (is_pending (jobs b.wiring.ports c.args.self.now.table) c.in-Release.task) (Some c.in-Release.task) None
    = ap (λ b. cond b (Some c.in-Release.task) None) (c.if-is_pending.ensures b.wiring.ports) in
    λ l. passes k (s l) _ (Some (a + 1)) who
    (λ k x. record { ports = (s l).ports; queue = (s l).queue; pending = c.release.ensures x; running = (s l).running; stop = (s l).stop; log = k }) refl

pub returns-else-is_pending-clause-upward : goal.returns-else-is_pending-clause-upward
returns-else-is_pending-clause-upward g c =
    let b = bench_of c.args.host.now c.args.program.now c.args.wiring.now in
    let a = c.args.at in
    let k = read g.met.H.Host.lawful b c.requires.wired c.requires.bounds a c.requires.within (Release c.in-Release.task c.in-Release.window) c.in-Release.is in
    (omega arith, aimed k)

pub returns-in-Future-clause-turn : goal.returns-in-Future-clause-turn
returns-in-Future-clause-turn g c =
    let b = bench_of c.args.host.now c.args.program.now c.args.wiring.now in
    let a = c.args.at in
    let k = read g.met.H.Host.lawful b c.requires.wired c.requires.bounds a c.requires.within (Future c.in-Future.wait c.in-Future.to c.in-Future.kept) c.in-Future.is in
    let s : List Event → State = λ l. working g.H.Host.ports b l c.args.self.now in
    λ l. passes k (s l) _ (Some (a + 1)) refl
    (λ k x. record { ports = (s l).ports; queue = c.push.ensures x; pending = (s l).pending; running = (s l).running; stop = (s l).stop; log = k }) refl

pub returns-in-Future-clause-upward : goal.returns-in-Future-clause-upward
returns-in-Future-clause-upward g c =
    let b = bench_of c.args.host.now c.args.program.now c.args.wiring.now in
    let a = c.args.at in
    let k = read g.met.H.Host.lawful b c.requires.wired c.requires.bounds a c.requires.within (Future c.in-Future.wait c.in-Future.to c.in-Future.kept) c.in-Future.is in
    (omega arith, (aimed k).0)

pub returns-then-test-clause-turn : goal.returns-then-test-clause-turn
returns-then-test-clause-turn g c =
    let b = bench_of c.args.host.now c.args.program.now c.args.wiring.now in
    let a = c.args.at in
    let k = read g.met.H.Host.lawful b c.requires.wired c.requires.bounds a c.requires.within (If c.in-If.condition c.in-If.to) c.in-If.is in
    let s : List Event → State = λ l. working g.H.Host.ports b l c.args.self.now in
    λ l. passes k (s l) _ (Some c.in-If.to) refl (λ k. refl) (ap (λ b. Some (cond b c.in-If.to (a + 1))) c.if-test.ensures)

pub returns-then-test-clause-upward : goal.returns-then-test-clause-upward
returns-then-test-clause-upward g c =
    let b = bench_of c.args.host.now c.args.program.now c.args.wiring.now in
    let a = c.args.at in
    let k = read g.met.H.Host.lawful b c.requires.wired c.requires.bounds a c.requires.within (If c.in-If.condition c.in-If.to) c.in-If.is in
    ((aimed k).2, (aimed k).1)

pub returns-else-test-clause-turn : goal.returns-else-test-clause-turn
returns-else-test-clause-turn g c =
    let b = bench_of c.args.host.now c.args.program.now c.args.wiring.now in
    let a = c.args.at in
    let k = read g.met.H.Host.lawful b c.requires.wired c.requires.bounds a c.requires.within (If c.in-If.condition c.in-If.to) c.in-If.is in
    let s : List Event → State = λ l. working g.H.Host.ports b l c.args.self.now in
    λ l. passes k (s l) _ (Some (a + 1)) refl (λ k. refl) (ap (λ b. Some (cond b c.in-If.to (a + 1))) c.if-test.ensures)

pub returns-else-test-clause-upward : goal.returns-else-test-clause-upward
returns-else-test-clause-upward g c =
    let b = bench_of c.args.host.now c.args.program.now c.args.wiring.now in
    let a = c.args.at in
    let k = read g.met.H.Host.lawful b c.requires.wired c.requires.bounds a c.requires.within (If c.in-If.condition c.in-If.to) c.in-If.is in
    (omega arith, (aimed k).0)

pub returns-in-Jump-clause-turn : goal.returns-in-Jump-clause-turn
returns-in-Jump-clause-turn g c =
    let b = bench_of c.args.host.now c.args.program.now c.args.wiring.now in
    let a = c.args.at in
    let k = read g.met.H.Host.lawful b c.requires.wired c.requires.bounds a c.requires.within (Jump c.in-Jump.to) c.in-Jump.is in
    let s : List Event → State = λ l. working g.H.Host.ports b l c.args.self.now in
    λ l. passes k (s l) _ (Some c.in-Jump.to) refl (λ k. refl) refl

pub returns-in-Jump-clause-upward : goal.returns-in-Jump-clause-upward
returns-in-Jump-clause-upward g c =
    let b = bench_of c.args.host.now c.args.program.now c.args.wiring.now in
    let a = c.args.at in
    let k = read g.met.H.Host.lawful b c.requires.wired c.requires.bounds a c.requires.within (Jump c.in-Jump.to) c.in-Jump.is in
    ((aimed k).1, (aimed k).0)

pub returns-in-Return-clause-turn : goal.returns-in-Return-clause-turn
returns-in-Return-clause-turn g c =
    let b = bench_of c.args.host.now c.args.program.now c.args.wiring.now in
    let a = c.args.at in
    let k = read g.met.H.Host.lawful b c.requires.wired c.requires.bounds a c.requires.within (Return) c.in-Return.is in
    let s : List Event → State = λ l. working g.H.Host.ports b l c.args.self.now in
    λ l. passes k (s l) _ None refl (λ k. refl) refl
