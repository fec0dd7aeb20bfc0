-- The parts of a drive by their numbers.
--   is_part_of   a sheet has the part
use Rattle.std.specs.Prelude.{Bool, nat_lt}
use Rattle.ecode.specs.declared.sheet.Sheet.{Sheet}
use Rattle.pitchbox.specs.declared.names.Part.{Part}
use Rattle.pitchbox.specs.declared.names.Part.TheVariants.{Port, Task, Driver, Condition}

abbrev pub is_part_of : Sheet → Part → Bool
is_part_of s (Port n) = nat_lt n s.ports
is_part_of s (Task n) = nat_lt n s.tasks
is_part_of s (Driver n) = nat_lt n s.drivers
is_part_of s (Condition n) = nat_lt n s.conditions
