use Rattle.std.proofs.Common.{rules}
use Rattle.pitchbox.proofs.Wholes.{whole_pos}
use Rattle.pitchbox.proofs.load_fault.load_of.Goals as goal

pub invariant_of-load : goal.invariant_of-load
invariant_of-load c = search (rules, whole_pos)
