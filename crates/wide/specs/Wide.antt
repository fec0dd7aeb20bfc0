-- The sheets of two drives with eight tasks, for tests and measuring.
--   wide_sheet    26 ports: driver ports 0 to 15, task ports 16 to 23, sensors 24 and 25; driver d copies port 16 + d to port
--                 d, and driver 8, sample, so takes in sensor 24; task t owns port 16 + t and reads ports t and 8; condition
--                 0 reads sensor 25
--   plain_sheet   24 ports, the same but for the sensors; drivers 0 to 7 alone; task t owns port 16 + t and reads port t;
--                 condition 0 reads nothing
use Rattle.std.specs.Prelude.{◌≡◌, ℕ, ◌+◌, ◌^◌, true, List, ◌∷◌, ◌++◌, map, replicate, bit_or, refl}
use Rattle.std.specs.List.{range_with_len}
use Rattle.ecode.specs.declared.port.PortKind.{PortKind}
use Rattle.ecode.specs.declared.port.PortKind.TheVariants.{Sensor, Driver, Task}
use Rattle.ecode.specs.declared.sheet.Sheet.{Sheet}
use Rattle.ecode.specs.declared.sheet.DriverPorts.{DriverPorts}
use Rattle.ecode.specs.declared.sheet.TaskPorts.{TaskPorts}
use Rattle.ecode.specs.Sheets.{driver, task}
use Rattle.ecode.specs.Tables.{Tables, keep_rules, sheet_of}
use Rattle.ecode.specs.Wiring.{all_below}

-- the kinds of the ports; from the last port of the sheet on they do not count
abbrev pub kinds_table : List PortKind
kinds_table = replicate 16 Driver ++ (replicate 8 Task ++ replicate 8 Sensor)

-- the first n drivers: driver d copies port 16 + d to port d
abbrev pub copying : ℕ → List DriverPorts
copying n = map (λ d. driver (2 ^ d) (2 ^ (16 + d))) (range_with_len 0 n)

-- the tasks: task t owns port 16 + t, and reads port t and some that all tasks read
abbrev pub reading_also : ℕ → List TaskPorts
reading_also also = map (λ t. task (2 ^ (16 + t)) (bit_or (2 ^ t) also)) (range_with_len 0 8)

abbrev pub wide_tables : Tables
wide_tables = record {
  ports = 26;
  kinds = kinds_table;
  drivers = 9;
  driver_ports = copying 9 ++ replicate 23 (driver 0 0);
  tasks = 8;
  task_ports = reading_also 0x100;
  conditions = 1;
  looks = 0x02000000 ∷ replicate 15 0;
}

abbrev pub plain_tables : Tables
plain_tables = record {
  ports = 24;
  kinds = kinds_table;
  drivers = 8;
  driver_ports = copying 8 ++ replicate 24 (driver 0 0);
  tasks = 8;
  task_ports = reading_also 0;
  conditions = 1;
  looks = replicate 16 0;
}

-- they keep the rules of a sheet: it is computed
pub wide_kept : keep_rules wide_tables ≡ true
unfolding all_below
wide_kept = refl

pub plain_kept : keep_rules plain_tables ≡ true
unfolding all_below
plain_kept = refl

abbrev pub wide_sheet : Sheet
wide_sheet = sheet_of wide_tables wide_kept

abbrev pub plain_sheet : Sheet
plain_sheet = sheet_of plain_tables plain_kept
