-- The typing rules, one task's cell at a time.
--   flows          a cell may stand where the other does: the same pair, or idle where the other is idle or released
--   allowed        what an instruction asks of a task's cell
--   next_cell      the cell that then flows into the next row; target_cell the one into the row at the target
--   keeps_fewer    a future keeps fewer tasks than the row holds
--   well_typed     all rules at an address, the entry's too
use Rattle.std.specs.Prelude.{ℕ, ◌+◌, ◌-◌, ◌*◌, Bool, true, false, cond, not, ◌&&◌, ◌||◌, List, [], ◌∷◌, get_or, replicate, ◌==◌, count_ones, nat_le, nat_lt, slice_index_or}
use Rattle.ecode.specs.declared.sheet.Sheet.{Sheet}
use Rattle.ecode.specs.declared.code.Cell.{Cell}
use Rattle.ecode.specs.declared.code.Cell.TheVariants.{NotHeld, Idle, Released}
use Rattle.ecode.specs.declared.code.Instruction.{Instruction}
use Rattle.ecode.specs.declared.code.Instruction.TheVariants.{Call, Release, Future, If, Jump, Return}
use Rattle.ecode.specs.declared.code.Line.{Line}
use Rattle.ecode.specs.Wiring.{has, all_below}
use Rattle.ecode.specs.Sheets.{shares}
use Rattle.ecode.specs.Instructions.{goes_on, names_address, target}

abbrev pub flows : Cell → Cell → Bool
flows NotHeld NotHeld = true
flows NotHeld Idle = false
flows NotHeld (Released c r) = false
flows Idle NotHeld = false
flows Idle Idle = true
flows Idle (Released c r) = true
flows (Released c r) NotHeld = false
flows (Released c r) Idle = false
flows (Released c r) (Released d e) = c == d && r == e

abbrev pub held : Cell → Bool
held NotHeld = false
held Idle = true
held (Released c r) = true

-- a driver may touch the task: it is held, and idle or at the end of its window
abbrev pub touchable : Cell → Bool
touchable NotHeld = false
touchable Idle = true
touchable (Released c r) = r == 0

abbrev pub idle : Cell → Bool
idle NotHeld = false
idle Idle = true
idle (Released c r) = false

abbrev pub released : Cell → Bool
released NotHeld = false
released Idle = false
released (Released c r) = true

-- not released, or with at least x ticks remaining
abbrev pub lasts : ℕ → Cell → Bool
lasts x NotHeld = true
lasts x Idle = true
lasts x (Released c r) = nat_le x r

-- the cell x ticks on: x added to consumed and taken from remaining
abbrev pub aged : ℕ → Cell → Cell
aged x NotHeld = NotHeld
aged x Idle = Idle
aged x (Released c r) = Released (c + x) (r - x)

-- call: a task that the driver shares with is touchable. Release: the task is idle. Future: a kept task is held, another
-- lasts the wait. Return: no task is released
abbrev pub allowed : Sheet → Instruction → ℕ → Cell → Bool
allowed s (Call d) t c = not (shares s d t) || touchable c
allowed s (Release u w) t c = not (t == u) || idle c
allowed s (Future x a k) t c = cond (has k t) (held c) (lasts x c)
allowed s (If q a) t c = true
allowed s (Jump a) t c = true
allowed s Return t c = not (released c)

-- call: a shared task is idle. Release: the task has its window before it. Future: the row is cut to the kept tasks
abbrev pub next_cell : Sheet → Instruction → ℕ → Cell → Cell
next_cell s (Call d) t c = cond (shares s d t) Idle c
next_cell s (Release u w) t c = cond (t == u) (Released 0 w) c
next_cell s (Future x a k) t c = cond (has k t) c NotHeld
next_cell s (If q a) t c = c
next_cell s (Jump a) t c = c
next_cell s Return t c = c

-- future: the tasks not kept, the wait later
abbrev pub target_cell : Instruction → ℕ → Cell → Cell
target_cell (Call d) t c = c
target_cell (Release u w) t c = c
target_cell (Future x a k) t c = cond (has k t) NotHeld (aged x c)
target_cell (If q a) t c = c
target_cell (Jump a) t c = c
target_cell Return t c = c

-- one task's part of the rule: its cell here, at the next address and at the target
unfoldable pub cell_rule : Sheet → Instruction → ℕ → Cell → Cell → Cell → Bool
cell_rule s i t here next there =
    allowed s i t here
    && ((not (goes_on i) || flows (next_cell s i t here) next)
    && (not (names_address i) || flows (target_cell i t here) there))

-- the set of the tasks that a row holds
unfoldable pub held_set : List Cell → ℕ
held_set [] = 0
held_set (c ∷ cs) = cond (held c) 1 0 + 2 * held_set cs

-- the kept set of a future has fewer members than the set of the tasks held
abbrev pub keeps_fewer : Instruction → List Cell → Bool
keeps_fewer (Call d) row = true
keeps_fewer (Release t w) row = true
keeps_fewer (Future x a k) row = nat_lt (count_ones k) (count_ones (held_set row))
keeps_fewer (If q a) row = true
keeps_fewer (Jump a) row = true
keeps_fewer Return row = true

-- what stands where there is no line
abbrev pub blank : Line
blank = record { instruction = Return; row = replicate 8 NotHeld }

-- a line's cell of task t
abbrev pub cell : Line → ℕ → Cell
cell l t = slice_index_or l.row t NotHeld

-- the rule of a line, with the next line and the line at its target
abbrev pub line_rule : Sheet → Line → Line → Line → Bool
line_rule s l next there =
    all_below s.tasks (λ t. cell_rule s l.instruction t (cell l t) (cell next t) (cell there t))
    && keeps_fewer l.instruction l.row

-- the typing rules at the address a of a listing with the entry e: the line's, and at the entry that its row holds all tasks
unfoldable pub well_typed : Sheet → List Line → ℕ → ℕ → Bool
well_typed s ls e a =
    line_rule s (slice_index_or ls a blank) (slice_index_or ls (a + 1) blank) (slice_index_or ls (target (get_or ls a blank).instruction) blank)
    && (not (a == e) || all_below s.tasks (λ t. held (cell (slice_index_or ls a blank) t)))
