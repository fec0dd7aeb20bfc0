use Rattle.std.proofs.Common.{◌≡◌, drop}
use Rattle.host.specs.Stops.{kept, kept_of, admitted_all}
use Rattle.host.proofs.stop.StopTable.new.Given as goal

-- the names that are left, beside those kept, give what all of them give
abbrev pub invariant-loop-name : goal.invariant-loop-name
invariant-loop-name l = admitted_all l.sheet (kept l.table) (drop l.name-index l.names) ≡ kept_of l.sheet l.names
