use Rattle.std.proofs.Common.{◌≡◌}
use Rattle.machine.specs.Runner.{one_less_wait}
use Rattle.parts.proofs.Maps.{upto}
use Rattle.parts.proofs.data.Queue.count_down.Given as goal

abbrev pub invariant-loop-binding : goal.invariant-loop-binding
invariant-loop-binding l = l.binding-items ≡ upto one_less_wait l.binding-index l.initial.binding-items
