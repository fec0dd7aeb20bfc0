-- The sheet of the pitch drive.
--   pitch_sheet    ports 0 angle and 1 selector are sensors, 2, 3 and 4 driver ports, 5, 6 and 7 task ports; driver 0 copies
--                  port 0 to 3, driver 1 copies 6 to 2, driver 2 copies 5 to 4; task 0, control, owns 5 and reads 2, task 1,
--                  filter, owns 6 and 7 and reads 3; condition 0 reads 1
use Rattle.std.specs.Prelude.{◌≡◌, ℕ, true, List, ◌∷◌, replicate, refl}
use Rattle.ecode.specs.declared.port.PortKind.{PortKind}
use Rattle.ecode.specs.declared.port.PortKind.TheVariants.{Sensor, Driver, Task}
use Rattle.ecode.specs.declared.sheet.Sheet.{Sheet}
use Rattle.ecode.specs.declared.sheet.DriverPorts.{DriverPorts}
use Rattle.ecode.specs.declared.sheet.TaskPorts.{TaskPorts}
use Rattle.ecode.specs.Sheets.{driver, task}
use Rattle.ecode.specs.Tables.{Tables, keep_rules, sheet_of}
use Rattle.ecode.specs.Wiring.{all_below}

-- the kinds of the ports; from port 8 on they do not count
abbrev pub kinds_table : List PortKind
kinds_table = Sensor ∷ Sensor ∷ Driver ∷ Driver ∷ Driver ∷ Task ∷ Task ∷ Task ∷ replicate 24 Sensor

-- the ports that each driver writes, and those that it reads
abbrev pub drivers_table : List DriverPorts
drivers_table = driver 0x08 0x01 ∷ driver 0x04 0x40 ∷ driver 0x10 0x20 ∷ replicate 29 (driver 0 0)

-- the ports that each task owns, and those that it reads
abbrev pub tasks_table : List TaskPorts
tasks_table = task 0x20 0x04 ∷ task 0xc0 0x08 ∷ replicate 6 (task 0 0)

-- the ports that each condition reads
abbrev pub looks_table : List ℕ
looks_table = 0x02 ∷ replicate 15 0

abbrev pub pitch_tables : Tables
pitch_tables = record {
  ports = 8;
  kinds = kinds_table;
  drivers = 3;
  driver_ports = drivers_table;
  tasks = 2;
  task_ports = tasks_table;
  conditions = 1;
  looks = looks_table;
}

-- they keep the rules of a sheet: it is computed
pub pitch_kept : keep_rules pitch_tables ≡ true
unfolding all_below
pitch_kept = refl

abbrev pub pitch_sheet : Sheet
pitch_sheet = sheet_of pitch_tables pitch_kept
