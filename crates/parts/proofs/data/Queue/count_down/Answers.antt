-- The bindings that are meant, each in its turn.
use Rattle.std.proofs.Common.{◌-◌, ◌<◌, length, get_or, take, set, ap, ◌∙◌, arith}
use Rattle.machine.specs.Runner.{one_less_wait}
use Rattle.parts.proofs.Queues.{none}
use Rattle.parts.proofs.Maps.{upto_more}
use Rattle.parts.proofs.data.Queue.count_down.Goals as goal

pub loop-binding-preserved : goal.loop-binding-preserved
loop-binding-preserved c =
    let q = c.args.self.now in
    let old = take (q.len - 0) q.items in
    let i = c.loop-binding.binding-index in
    let now = c.loop-binding.binding-items in
    let lt : i < length old = omega arith in
    ap (λ w. set now i (record { wait = w; at = (get_or now i none).at })) c.saturating_sub-binding.ensures
    ∙ ap (λ l. set l i (one_less_wait (get_or l i none))) c.loop-binding.invariant
    ∙ upto_more one_less_wait old i none lt
