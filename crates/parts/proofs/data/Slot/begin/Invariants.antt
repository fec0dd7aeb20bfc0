use Rattle.std.proofs.Common.{◌≡◌, ◌++◌, take, drop}
use Rattle.parts.proofs.data.Slot.begin.Given as goal

-- the ports looked at so far, and what stood after them
abbrev pub invariant-loop-p : goal.invariant-loop-p
invariant-loop-p g l = l.taken-items ≡ take l.p (g.H.Host.ports l.host) ++ drop l.p l.initial.taken-items
