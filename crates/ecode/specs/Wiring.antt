-- Sets as bit masks, and what the port sets of a sheet may hold. The invariants of a sheet cite it, so it speaks of a
-- sheet's parts and not of the sheet.
--   has z k       the set z has the member k
--   all_below     every number below a bound passes a test
--   within        every member of every set is a port of a wanted kind
--   apart         no two of the sets have a member in common
--   writes_in, reads_in, owns_in, sees_in    the sets of one sort in a table of drivers or of tasks
use Rattle.std.specs.Prelude.{ℕ, zero, suc, ◌/◌, ◌%◌, ◌^◌, Bool, true, false, not, ◌&&◌, ◌||◌, List, [], ◌∷◌, ◌==◌, bit_and, map, nat_lt, slice_index_or}
use Rattle.std.specs.List.{list_all}
use Rattle.ecode.specs.declared.port.PortKind.{PortKind}
use Rattle.ecode.specs.declared.port.PortKind.TheVariants.{Sensor, Driver, Task}
use Rattle.ecode.specs.declared.sheet.DriverPorts.{DriverPorts}
use Rattle.ecode.specs.declared.sheet.TaskPorts.{TaskPorts}

-- bit k of the mask z is set
abbrev pub has : ℕ → ℕ → Bool
has z k = z / 2 ^ k % 2 == 1

-- every number below n passes
unfoldable pub all_below : ℕ → (ℕ → Bool) → Bool
all_below zero f = true
all_below (suc n) f = all_below n f && f n

-- the kinds of port that a set may be limited to
abbrev pub is_driver : PortKind → Bool
is_driver Sensor = false
is_driver Driver = true
is_driver Task = false

abbrev pub is_task : PortKind → Bool
is_task Sensor = false
is_task Driver = false
is_task Task = true

abbrev pub not_driver : PortKind → Bool
not_driver k = not (is_driver k)

abbrev pub not_task : PortKind → Bool
not_task k = not (is_task k)

-- each member of the set z is a port of the sheet, of a wanted kind
abbrev pub fits_ports : ℕ → List PortKind → (PortKind → Bool) → ℕ → Bool
fits_ports ports kinds wanted z = nat_lt z (2 ^ ports) && all_below ports (λ p. not (has z p) || wanted (slice_index_or kinds p Sensor))

-- the same of every set
abbrev pub within : ℕ → List PortKind → (PortKind → Bool) → List ℕ → Bool
within ports kinds wanted sets = list_all (fits_ports ports kinds wanted) sets

-- two sets have no member in common
abbrev pub disjoint : ℕ → ℕ → Bool
disjoint y z = bit_and y z == 0

-- no two sets have a member in common
abbrev pub apart : List ℕ → Bool
apart [] = true
apart (z ∷ zs) = list_all (disjoint z) zs && apart zs

-- the ports that each driver of a table writes, and those that it reads
abbrev pub writes_in : List DriverPorts → List ℕ
writes_in drivers = map (λ d. d.writes) drivers

abbrev pub reads_in : List DriverPorts → List ℕ
reads_in drivers = map (λ d. d.reads) drivers

-- the ports that each task of a table owns, and those that it reads
abbrev pub owns_in : List TaskPorts → List ℕ
owns_in tasks = map (λ t. t.owns) tasks

abbrev pub sees_in : List TaskPorts → List ℕ
sees_in tasks = map (λ t. t.sees) tasks
