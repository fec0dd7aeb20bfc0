use Rattle.std.proofs.Common.{◌≡◌}
use Rattle.parts.specs.Shown.{one_less}
use Rattle.parts.proofs.Maps.{upto}
use Rattle.parts.proofs.data.TaskTable.count_down.Given as goal

abbrev pub invariant-loop-slot : goal.invariant-loop-slot
invariant-loop-slot l = l.slot-items ≡ upto one_less l.slot-index l.initial.slot-items
