use Rattle.std.proofs.Common.{◌≡◌, take}
use Rattle.ecode.specs.Load.{window}
use Rattle.loader.proofs.load.least_window.Given as goal

abbrev pub invariant-loop-a : goal.invariant-loop-a
invariant-loop-a l = l.best ≡ window (take l.a l.listing.lines) l.t
