-- The end of the running task, worked on the host as it is: the ports that it owns and reads are as they were taken.
use Rattle.std.proofs.Common.{◌≡◌, [], Some, None, sym, refl, ap, ◌∙◌, arith}
use Rattle.machine.specs.State.{bare}
use Rattle.machine.specs.Calls.{Done}
use Rattle.machine.proofs.Taken.{work_as_taken}
use Rattle.runner.specs.Sound.{loaded, shown}
use Rattle.runner.proofs.Sounds.{steady_run, follows}
use Rattle.runner.proofs.Dones.{running_is, ends, ended}
use Rattle.runner.proofs.run.Run.done.Goals as goal

pub clear-requires : goal.clear-requires
clear-requires g c =
    let r = c.args.self.now in
    let runs : r.progress.running ≡ Some c.args.task = running_is _ _ (sym c.if-ne.ensures) in
    let k = steady_run g.H.Host.meaning g.H.Host.ports g.P.Policy.mark g.met.H.Host.lawful r c.requires c.in_default.is in
    omega (arith, (k.busy c.args.task runs).below, (g.met.H.Host.lawful r.bench.host).rules.few_tasks)

pub returns : goal.returns
returns g c =
    let M = g.H.Host.meaning in
    let ports = g.H.Host.ports in
    let mark = g.P.Policy.mark in
    let r = c.args.self.now in
    let t = c.args.task in
    let m = M r.bench.host in
    let p = loaded r.bench in
    let s = shown ports r in
    let none = c.in_default.is in
    let runs : r.progress.running ≡ Some t = running_is _ _ (sym c.if-ne.ensures) in
    let b = (steady_run M ports mark g.met.H.Host.lawful r c.requires none).busy t runs in
    let worked = c.work.ensures.after ∙ work_as_taken m (g.met.H.Host.lawful r.bench.host) t s.ports b.job b.below b.as_taken in
    record {
      answer = ended m p t s none runs;
      follows = follows M ports mark g.met.H.Host.lawful r c.requires (Done t) _ (record { host = c.work.ensures.same; program = refl; wiring = refl }) refl
          ((λ x. record { ports = worked x; queue = s.queue; pending = c.clear.ensures r.bench.wiring.ports x; running = None; stop = s.stop; log = [] }) ∙ sym (ap bare (ends m p t s none runs b.job b.is)))
          tt;
      untouched = tt;
      policy = refl;
    }
