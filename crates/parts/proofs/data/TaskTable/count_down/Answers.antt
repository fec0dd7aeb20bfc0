-- The slots of the sheet's tasks, each in its turn; the rest stay.
use Rattle.std.proofs.Common.{◌-◌, ◌<◌, length, get_or, take, set, ap, ◌∙◌, arith}
use Rattle.parts.specs.Shown.{no_slot, one_less}
use Rattle.parts.proofs.Maps.{upto_more, upto_all, front_upto}
use Rattle.parts.proofs.Tables.{jobs_fallen}
use Rattle.parts.proofs.data.TaskTable.count_down.Goals as goal

pub loop-slot-preserved : goal.loop-slot-preserved
loop-slot-preserved c =
    let old = take (c.args.tasks - 0) c.args.self.now.slots in
    let i = c.loop-slot.slot-index in
    let lt : i < length old = omega arith in
    ap (λ s. set c.loop-slot.slot-items i s) c.count_down.ensures
    ∙ ap (λ l. set l i (one_less (get_or l i no_slot))) c.loop-slot.invariant
    ∙ upto_more one_less old i no_slot lt

pub returns : goal.returns
returns c ports =
    let f = c.args.self.now in
    let old = take (c.args.tasks - 0) f.slots in
    jobs_fallen ports f c.args.tasks (omega arith) c.requires.below _
    (front_upto one_less c.args.tasks f.slots c.loop-slot.slot-items (c.loop-slot.invariant ∙ upto_all one_less old c.loop-slot.slot-index (omega arith)))
