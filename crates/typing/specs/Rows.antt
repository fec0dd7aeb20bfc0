-- The typing rules of a line by whole rows, as the code asks them one after another.
--   allows         the instruction is allowed by the cells of all tasks
--   flows_next     what it makes of the row flows into the next row, if there is one
--   flows_there    what it leaves to its target flows into the row there, if it has one
--   line_in        the line at an address of a listing
use Rattle.std.specs.Prelude.{ℕ, Bool, not, ◌||◌, slice_index_or}
use Rattle.ecode.specs.declared.code.Line.{Line}
use Rattle.ecode.specs.declared.code.Listing.{Listing}
use Rattle.ecode.specs.declared.sheet.Sheet.{Sheet}
use Rattle.ecode.specs.Wiring.{all_below}
use Rattle.ecode.specs.Instructions.{goes_on, names_address}
use Rattle.ecode.specs.Typing.{allowed, next_cell, target_cell, flows, cell, blank}
use Rattle.ecode.specs.Verdict.{lines_of}

-- the instruction is allowed by the cells of all tasks
abbrev pub allows : Sheet → Line → Bool
allows s l = all_below s.tasks (λ t. allowed s l.instruction t (cell l t))

-- what it makes of the row flows into the next row, if there is one
abbrev pub flows_next : Sheet → Line → Line → Bool
flows_next s l next = not (goes_on l.instruction) || all_below s.tasks (λ t. flows (next_cell s l.instruction t (cell l t)) (cell next t))

-- what it leaves to its target flows into the row there, if it has one
abbrev pub flows_there : Sheet → Line → Line → Bool
flows_there s l there = not (names_address l.instruction) || all_below s.tasks (λ t. flows (target_cell l.instruction t (cell l t)) (cell there t))

-- the line at an address of a listing, blank where there is none
abbrev pub line_in : Listing → ℕ → Line
line_in l a = slice_index_or (lines_of l) a blank
