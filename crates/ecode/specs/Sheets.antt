-- The rules that every sheet keeps, in plain words, and which driver shares with which task.
--   In            membership in a set given as a bit mask
--   SheetRules    counts, and what each driver, task and condition may write, own and read
--   writes_of, reads_of, owns_of, sees_of    the ports of a driver and of a task
--   shares        a driver and a task touch a port in common, as a test; Shares says it by the port
use Rattle.std.specs.Prelude.{◌≡◌, ℕ, ◌/◌, ◌%◌, ◌^◌, ◌<◌, ◌≤◌, Bool, not, ◌||◌, ◌⊎◌, ◌≢◌, slice_index, slice_index_or}
use Rattle.ecode.specs.declared.port.PortKind.{PortKind}
use Rattle.ecode.specs.declared.port.PortKind.TheVariants.{Sensor, Driver, Task}
use Rattle.ecode.specs.declared.sheet.Sheet.{Sheet}
use Rattle.ecode.specs.declared.sheet.DriverPorts.{DriverPorts}
use Rattle.ecode.specs.declared.sheet.TaskPorts.{TaskPorts}
use Rattle.ecode.specs.Wiring.{writes_in, reads_in, owns_in, sees_in, disjoint}

-- k is a member of the set z
abbrev pub In : ℕ → ℕ → Type 0
In k z = z / 2 ^ k % 2 ≡ 1

-- p is a port of the sheet
abbrev pub Port : Sheet → ℕ → Type 0
Port s p = p < s.ports

abbrev pub kind : Sheet → ℕ → PortKind
kind s p = slice_index_or s.kinds p Sensor

-- a row of a table: the sets that a driver writes and reads, and those that a task owns and reads
abbrev pub driver : ℕ → ℕ → DriverPorts
driver writes reads = record { writes = writes; reads = reads }

abbrev pub task : ℕ → ℕ → TaskPorts
task owns sees = record { owns = owns; sees = sees }

-- the ports that driver d writes, and those that it reads
abbrev pub writes_of : Sheet → ℕ → ℕ
writes_of s d = slice_index (writes_in s.driver_ports) d

abbrev pub reads_of : Sheet → ℕ → ℕ
reads_of s d = slice_index (reads_in s.driver_ports) d

-- the ports that task t owns, and those that it reads
abbrev pub owns_of : Sheet → ℕ → ℕ
owns_of s t = slice_index (owns_in s.task_ports) t

abbrev pub sees_of : Sheet → ℕ → ℕ
sees_of s t = slice_index (sees_in s.task_ports) t

-- 1 to 32 ports, 1 to 8 tasks, up to 32 drivers and 16 conditions; drivers write driver ports and read sensor and task
-- ports; tasks own task ports, none owned twice, and read driver ports; conditions read sensor and driver ports
pub record SheetRules (s : Sheet) : Type 0 where
  pub some_ports : 1 ≤ s.ports
  pub few_ports : s.ports ≤ 32
  pub few_drivers : s.drivers ≤ 32
  pub some_tasks : 1 ≤ s.tasks
  pub few_tasks : s.tasks ≤ 8
  pub few_conditions : s.conditions ≤ 16
  pub written : (d p : ℕ) → In p (writes_of s d) → Port s p × (kind s p ≡ Driver)
  pub read : (d p : ℕ) → In p (reads_of s d) → Port s p × (kind s p ≢ Driver)
  pub owned : (t p : ℕ) → In p (owns_of s t) → Port s p × (kind s p ≡ Task)
  pub seen : (t p : ℕ) → In p (sees_of s t) → Port s p × (kind s p ≡ Driver)
  pub looked : (q p : ℕ) → In p (slice_index s.looks q) → Port s p × (kind s p ≢ Task)
  pub owned_once : (t u p : ℕ) → In p (owns_of s t) → In p (owns_of s u) → t ≡ u

-- a driver shares with a task: it reads a port that the task owns or writes a port that the task reads
abbrev pub shares : Sheet → ℕ → ℕ → Bool
shares s d t =
    not (disjoint (reads_of s d) (owns_of s t))
    || not (disjoint (writes_of s d) (sees_of s t))

-- the same by the port in common
abbrev pub Shares : Sheet → ℕ → ℕ → Type 0
Shares s d t =
    ((p : ℕ) × In p (reads_of s d) × In p (owns_of s t))
    ⊎ ((p : ℕ) × In p (writes_of s d) × In p (sees_of s t))
