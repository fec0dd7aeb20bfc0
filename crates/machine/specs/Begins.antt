-- What every law of runs starts from, and that a program that was checked brings its part of it.
--   Begins          a run of a program may begin on a host
--   RowsAreEight    the rows of a program that the check accepts, and of the first program of a bench, have eight cells
use Rattle.std.specs.Prelude.{◌≡◌, ℕ, ◌<◌, List, length, Ok, slice_index_or}
use Rattle.ecode.specs.declared.sheet.Sheet.{Sheet}
use Rattle.ecode.specs.Typing.{blank}
use Rattle.ecode.specs.Verdict.{Contents, verdict}
use Rattle.ecode.specs.Accepted.{Accepted, lone_return}
use Rattle.host.specs.Meaning.{Meaning, Lawful}
use Rattle.machine.specs.State.{Ports, size}

-- each row of the program has a cell for each of eight tasks
abbrev pub RowsOfEight : Contents → Type 0
RowsOfEight p = (a : ℕ) → a < size p → length (slice_index_or p.lines a blank).row ≡ 8

-- the host keeps its law, the program is accepted for its sheet, its rows have eight cells, and v has a value for each port of the
-- sheet
pub record Begins (m : Meaning) (p : Contents) (v : Ports) : Type 0 where
  pub lawful : Lawful m
  pub accepted : Accepted m.sheet p
  pub rows : RowsOfEight p
  pub ports : length v ≡ m.sheet.ports

-- of what the check accepts, and of the lone return
abbrev pub RowsAreEight : Type 0
RowsAreEight = (s : Sheet)
    → ((im bud : List ℕ) (p : Contents) → verdict s im bud ≡ Ok p → RowsOfEight p) × RowsOfEight (lone_return s)
