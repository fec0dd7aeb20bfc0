-- The bench as it is, and the pending tasks of the table.
use Rattle.std.proofs.Common.{refl, ap, ◌∙◌}
use Rattle.std.proofs.lemmas.List.Sorted.{IsPermutation-refl}
use Rattle.machine.specs.Calls.{pending_numbers}
use Rattle.parts.specs.Shown.{jobs, written}
use Rattle.runner.proofs.run.Run.end.Goals as goal

pub returns : goal.returns
returns g c =
    let r = c.args.self in
    let m = g.H.Host.meaning r.bench.host in
    let f = jobs r.bench.wiring.ports r.progress.table in
    record {
      bench = refl;
      given = record {
        host = refl;
        ports = refl;
        program = refl;
        pending = record {
          numbers = pending_numbers m.sheet.tasks f;
          any_order = IsPermutation-refl (pending_numbers m.sheet.tasks f);
          rest = c.write_pending.ensures r.bench.wiring.ports ∙ ap (λ n. written (pending_numbers n f)) c.requires.bench.wired.tasks;
        };
      };
      sound = c.requires.bench;
    }
