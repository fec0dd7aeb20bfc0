-- Task by task, those that are pending.
use Rattle.std.proofs.Common.{true, false, append-nil, arith}
use Rattle.std.proofs.lemmas.List.{drop_more}
use Rattle.parts.specs.Shown.{no_slot}
use Rattle.parts.proofs.Tables.{one_more}
use Rattle.parts.proofs.data.TaskTable.list.Goals as goal

pub loop-task-preserved-then-is_pending : goal.loop-task-preserved-then-is_pending
loop-task-preserved-then-is_pending c =
    let f = c.args.self.now in
    let old = c.loop-task.task-iterator in
    let steps = c.in-Some.ensures.steps in
    let at = drop_more f.slots old.a.start no_slot (omega arith) in (
      (tt, tt),
      tt,
      omega (arith, c.push.ensures.len),
      omega arith,
      cc,
      cc,
      λ ports. let more = one_more ports f c.in-Some.task true (c.if-is_pending.ensures ports) in let before = c.loop-task.invariant.6 ports in cc,
    )

pub loop-task-preserved : goal.loop-task-preserved
loop-task-preserved c =
    let f = c.args.self.now in
    let old = c.loop-task.task-iterator in
    let steps = c.in-Some.ensures.steps in
    let at = drop_more f.slots old.a.start no_slot (omega arith) in (
      (tt, tt),
      tt,
      omega arith,
      omega arith,
      cc,
      cc,
      λ ports. let more = one_more ports f c.in-Some.task false (c.if-is_pending.ensures ports) in let none = append-nil c.loop-task.list.items in let before = c.loop-task.invariant.6 ports in cc,
    )
