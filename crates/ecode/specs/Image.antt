-- An image read as bytes: N records of 20, then a trailer of 8.
--   trailer_of      the last 8 bytes
--   trailer_byte    a byte of the trailer; told, size and entry are read off it
--   record_at       the 20 bytes of the record at an address
--   decoded         the instruction that an opcode and its operands make, if they make one
--   cell_of         what a row's pair says of a task, if it says anything
--   lines           the lines of the first records
use Rattle.std.specs.Prelude.{ℕ, zero, suc, ◌+◌, ◌-◌, ◌*◌, ◌/◌, ◌^◌, Bool, if◌then◌else◌, cond, ◌&&◌, List, [], ◌∷◌, length, take, drop, is_some, Some, None, Option, ◌==◌, nat_le, nat_lt, slice_index}
use Rattle.std.specs.Option.{unwrap_or}
use Rattle.ecode.specs.declared.sheet.Sheet.{Sheet}
use Rattle.ecode.specs.declared.code.Cell.{Cell}
use Rattle.ecode.specs.declared.code.Cell.TheVariants.{NotHeld, Idle, Released}
use Rattle.ecode.specs.declared.code.Instruction.{Instruction}
use Rattle.ecode.specs.declared.code.Instruction.TheVariants.{Call, Release, Future, If, Jump, Return}
use Rattle.ecode.specs.declared.code.Line.{Line}
use Rattle.ecode.specs.Wiring.{all_below}

-- the trailer, which is the last 8 bytes, if there are as many
abbrev pub trailer_of : List ℕ → Option (List ℕ)
trailer_of im = if nat_le 8 (length im) then Some (drop (length im - 8) im) else None

-- byte i of the trailer
abbrev pub trailer_byte : List ℕ → ℕ → ℕ
trailer_byte im i = slice_index im (length im - 8 + i)

-- the length of the records, as bytes 0 and 1 of the trailer tell it
abbrev pub told : List ℕ → ℕ
told im = 256 * trailer_byte im 0 + trailer_byte im 1

-- N, the number of records
abbrev pub size : List ℕ → ℕ
size im = told im / 20

abbrev pub entry : List ℕ → ℕ
entry im = trailer_byte im 2

-- a number of ticks that a byte can give: 1 to 240
abbrev pub is_ticks : ℕ → Bool
is_ticks x = nat_le 1 x && nat_le x 240

-- opcodes 1 to 6, with their operands in range and the unused ones 0
abbrev pub decoded : Sheet → ℕ → ℕ → ℕ → ℕ → Option Instruction
decoded s op x y z =
    cond (op == 1) (cond (nat_lt x s.drivers && (y == 0 && z == 0)) (Some (Call x)) None)
    (cond (op == 2) (cond (nat_lt x s.tasks && (is_ticks y && z == 0)) (Some (Release x y)) None)
    (cond (op == 3) (cond (is_ticks x && nat_lt z (2 ^ s.tasks)) (Some (Future x y z)) None)
    (cond (op == 4) (cond (nat_lt x s.conditions && z == 0) (Some (If x y)) None)
    (cond (op == 5) (cond (x == 0 && z == 0) (Some (Jump y)) None)
    (cond (op == 6) (cond (x == 0 && (y == 0 && z == 0)) (Some Return) None) None)))))

-- a pair of task t: 255, 0 not held; 254, 0 idle; else consumed and remaining of a released task, with a sum of 1 to 240;
-- from task T on only not held
abbrev pub cell_of : ℕ → ℕ → ℕ → ℕ → Option Cell
cell_of tasks t consumed remaining =
    cond (consumed == 255 && remaining == 0) (Some NotHeld)
    (cond (nat_lt t tasks && (consumed == 254 && remaining == 0)) (Some Idle)
    (cond (nat_lt t tasks && is_ticks (consumed + remaining)) (Some (Released consumed remaining)) None))

abbrev pub record_at : List ℕ → ℕ → List ℕ
record_at im a = take 20 (drop (20 * a) im)

-- the instruction of a record: opcode, x, y, z
abbrev pub instruction_in : Sheet → List ℕ → Option Instruction
instruction_in s bs = decoded s (slice_index bs 0) (slice_index bs 1) (slice_index bs 2) (slice_index bs 3)

-- what 16 bytes of pairs say of task t
abbrev pub cell_in : ℕ → List ℕ → ℕ → Option Cell
cell_in tasks ps t = cell_of tasks t (slice_index ps (2 * t)) (slice_index ps (2 * t + 1))

-- all eight pairs say something
abbrev pub row_fine : ℕ → List ℕ → Bool
row_fine tasks ps = all_below 8 (λ t. is_some (cell_in tasks ps t))

-- f at 0, at 1, and so on: n of them
unfoldable pub listed : {X : Type 0} → ℕ → (ℕ → X) → List X
listed zero f = []
listed (suc n) f = f 0 ∷ listed n (λ k. f (suc k))

abbrev pub row_in : ℕ → List ℕ → List Cell
row_in tasks ps = listed 8 (λ t. unwrap_or (cell_in tasks ps t) NotHeld)

-- a record: opcode, x, y, z and the row as the rest
abbrev pub line : Sheet → List ℕ → Line
line s bs = record { instruction = unwrap_or (instruction_in s bs) Return; row = row_in s.tasks (drop 4 bs) }

-- the first n records
abbrev pub lines : Sheet → List ℕ → ℕ → List Line
lines s im n = listed n (λ a. line s (record_at im a))

-- the lines of an image
abbrev pub code : Sheet → List ℕ → List Line
code s im = lines s im (size im)
