-- Task by task, those that the driver shares with.
use Rattle.std.proofs.Common.{sym, ap, ◌∙◌, arith}
use Rattle.ecode.specs.Wiring.{has}
use Rattle.ecode.specs.Sheets.{shares}
use Rattle.parts.proofs.Bits.{has_with, one_more_in, one_more_out}
use Rattle.parts.proofs.wiring.shared_tasks.Goals as goal
use Rattle.parts.proofs.wiring.shared_tasks.Goals.{then-sharing, else-sharing}

pub loop-t-preserved : goal.loop-t-preserved
loop-t-preserved c t =
    let test = shares c.args.sheet.now c.args.d in
    elim c.if-sharing.branch [
      | then-sharing w ↦ ap (λ z. has z t) w.set-is ∙ has_with c.loop-t.set c.loop-t.t t (omega arith) ∙ one_more_in test c.loop-t.t (has c.loop-t.set t) t (c.loop-t.invariant t) (sym w.if-sharing.ensures)
      | else-sharing w ↦ ap (λ z. has z t) w.set-is ∙ one_more_out test c.loop-t.t (has c.loop-t.set t) t (c.loop-t.invariant t) (sym w.if-sharing.ensures)
    ]
