-- Sheets written as tables, with one test of their rules in place of a proof of each.
--   Tables      the counts and the tables of a sheet
--   keep_rules  whether they keep the rules of a sheet
--   sheet_of    the sheet of tables that do
use Rattle.std.specs.Prelude.{◌≡◌, ℕ, Bool, true, ◌&&◌, List, nat_le}
use Rattle.std.proofs.lemmas.Bool.{and_parts, leb-true}
use Rattle.ecode.specs.declared.port.PortKind.{PortKind}
use Rattle.ecode.specs.declared.sheet.Sheet.{Sheet}
use Rattle.ecode.specs.declared.sheet.DriverPorts.{DriverPorts}
use Rattle.ecode.specs.declared.sheet.TaskPorts.{TaskPorts}
use Rattle.ecode.specs.Wiring.{writes_in, reads_in, owns_in, sees_in, within, is_driver, is_task, not_driver, not_task, apart}

-- the counts and the tables, under the names that they have in a sheet
pub record Tables : Type 0 where
  pub ports : ℕ
  pub kinds : List PortKind
  pub drivers : ℕ
  pub driver_ports : List DriverPorts
  pub tasks : ℕ
  pub task_ports : List TaskPorts
  pub conditions : ℕ
  pub looks : List ℕ

-- the counts are those of a sheet
abbrev pub counts_fit : Tables → Bool
counts_fit t =
    nat_le 1 t.ports && (nat_le t.ports 32
    && (nat_le t.drivers 32
    && (nat_le 1 t.tasks && (nat_le t.tasks 8
    && nat_le t.conditions 16))))

-- the sets are those of a sheet
abbrev pub sets_fit : Tables → Bool
sets_fit t =
    within t.ports t.kinds is_driver (writes_in t.driver_ports)
    && (within t.ports t.kinds not_driver (reads_in t.driver_ports)
    && (within t.ports t.kinds is_task (owns_in t.task_ports)
    && (within t.ports t.kinds is_driver (sees_in t.task_ports)
    && (within t.ports t.kinds not_task t.looks
    && apart (owns_in t.task_ports)))))

abbrev pub keep_rules : Tables → Bool
keep_rules t = counts_fit t && sets_fit t

-- the sheet, each of whose rules is a part of the test
abbrev pub sheet_of : (t : Tables) → keep_rules t ≡ true → Sheet
sheet_of t e =
    let counts : counts_fit t ≡ true = (and_parts _ _ e).0 in
    let after_ports = (and_parts _ _ (and_parts _ _ counts).1) in
    let after_drivers = (and_parts _ _ after_ports.1) in
    let after_one = (and_parts _ _ after_drivers.1) in
    let after_tasks = (and_parts _ _ after_one.1) in
    let sets : sets_fit t ≡ true = (and_parts _ _ e).1 in
    let after_writes = and_parts _ _ sets in
    let after_reads = and_parts _ _ after_writes.1 in
    let after_owns = and_parts _ _ after_reads.1 in
    let after_sees = and_parts _ _ after_owns.1 in
    let after_looks = and_parts _ _ after_sees.1 in
    record {
      ports = t.ports;
      kinds = t.kinds;
      drivers = t.drivers;
      driver_ports = t.driver_ports;
      tasks = t.tasks;
      task_ports = t.task_ports;
      conditions = t.conditions;
      looks = t.looks;
      has_ports = leb-true _ _ (and_parts _ _ counts).0;
      few_ports = leb-true _ _ after_ports.0;
      few_drivers = leb-true _ _ after_drivers.0;
      has_tasks = leb-true _ _ after_one.0;
      few_tasks = leb-true _ _ after_tasks.0;
      few_conditions = leb-true _ _ after_tasks.1;
      written = after_writes.0;
      read = after_reads.0;
      owned = after_owns.0;
      seen = after_sees.0;
      looked = after_looks.0;
      owned_once = after_looks.1;
    }
