-- What a host means: its sheet, and a function of the ports for each driver, task and condition; and the law of hosts.
--   reading       what stands at a port, 0 off the sheet
--   Meaning       a sheet with its functions; the list is the 32-bit values of the ports, port 0 first
--   Agree         two lists have the same readings at the ports of a set
--   Local         a function of the ports touches only its sets
--   Reads         a condition reads only its set
--   Lawful        the sheet keeps its rules, and every driver, task and condition its sets
use Rattle.std.specs.Prelude.{◌≡◌, ℕ, ◌<◌, ◌≤◌, Bool, false, List, length, ℤ, pos, slice_index, slice_index_or}
use Rattle.ecode.specs.declared.sheet.Sheet.{Sheet}
use Rattle.ecode.specs.Sheets.{In, SheetRules, owns_of, reads_of, sees_of, writes_of}

-- the value of port p, and 0 where there is no such port
abbrev pub reading : List ℤ → ℕ → ℤ
reading xs p = slice_index_or xs p (pos 0)

-- what driver d makes of the ports, what task t makes of them, and what condition q says of them
pub record Meaning : Type 0 where
  pub sheet : Sheet
  pub drive : ℕ → List ℤ → List ℤ
  pub work : ℕ → List ℤ → List ℤ
  pub test : ℕ → List ℤ → Bool

-- the readings at the ports of the set are the same
abbrev pub Agree : ℕ → List ℤ → List ℤ → Type 0
Agree set xs ys = (p : ℕ) → In p set → reading xs p ≡ reading ys p

-- f changes only ports that it writes, and what it writes depends only on the ports that it writes and reads. The lists are
-- of any length, so it is true of those that a sheet has; two are compared only where they have as many ports
pub record Local (written read : ℕ) (f : List ℤ → List ℤ) : Type 0 where
  pub keeps_length : (xs : List ℤ) → length (f xs) ≡ length xs
  pub only : (xs : List ℤ) (p : ℕ) → (In p written → ⊥) → reading (f xs) p ≡ reading xs p
  pub depends : (xs ys : List ℤ) → length xs ≡ length ys → Agree written xs ys → Agree read xs ys → Agree written (f xs) (f ys)

-- what f says depends only on the ports that it reads
pub record Reads (read : ℕ) (f : List ℤ → Bool) : Type 0 where
  pub depends : (xs ys : List ℤ) → Agree read xs ys → f xs ≡ f ys

-- the sheet keeps the rules of a sheet; each driver, task and condition keeps to the sets that the sheet gives it; a number
-- that the sheet does not have changes nothing, and as a condition is false
pub record Lawful (m : Meaning) : Type 0 where
  pub rules : SheetRules m.sheet
  pub drives : (d : ℕ) → d < m.sheet.drivers → Local (writes_of m.sheet d) (reads_of m.sheet d) (m.drive d)
  pub works : (t : ℕ) → t < m.sheet.tasks → Local (owns_of m.sheet t) (sees_of m.sheet t) (m.work t)
  pub tests : (q : ℕ) → q < m.sheet.conditions → Reads (slice_index m.sheet.looks q) (m.test q)
  pub drives_off : (d : ℕ) → m.sheet.drivers ≤ d → (xs : List ℤ) → m.drive d xs ≡ xs
  pub works_off : (t : ℕ) → m.sheet.tasks ≤ t → (xs : List ℤ) → m.work t xs ≡ xs
  pub tests_off : (q : ℕ) → m.sheet.conditions ≤ q → (xs : List ℤ) → m.test q xs ≡ false
